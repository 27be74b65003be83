use Rattle.std.proofs.Common.{◌≡◌, ◌∙◌, Some, None, Ok, sym, ap}
use Rattle.hs_token.specs.Reading.{first_bad}
use Rattle.hs_token.proofs.LineLemmas.{refused, line_bad, line_fine, only_is, bad_is, bad_not, tokens_not_refused, memory_not_refused, found_is}
use Rattle.hs_token.proofs.lines.decode_line.Goals as goal

bad : (c : goal.In-Err) → first_bad c.args.line.now ≡ Some c.in-Err.place
bad c = c.in-Err.ensures.bad

pub returns-in-Err-clause-only : goal.returns-in-Err-clause-only
returns-in-Err-clause-only c = only_is c.args.line.now (refused c.in-Err.place) (line_bad c.args.line.now c.in-Err.place (bad c))

pub returns-in-Err-clause-bad : goal.returns-in-Err-clause-bad
returns-in-Err-clause-bad c = bad_is c.args.line.now c.in-Err.place (bad c)

pub returns-in_err-split_copy-in-Ok-clause-bad : goal.returns-in_err-split_copy-in-Ok-clause-bad
returns-in_err-split_copy-in-Ok-clause-bad c =
    let good : first_bad c.args.line.now ≡ None = c.in-Ok.ensures.good in
    bad_not c.args.line.now c.from_residual.result good (memory_not_refused c.from_residual.result c.from_residual.ensures.1)

pub returns-in_ok-split_copy-in-Ok-clause-found : goal.returns-in_ok-split_copy-in-Ok-clause-found
returns-in_ok-split_copy-in-Ok-clause-found c =
    let good : first_bad c.args.line.now ≡ None = c.in-Ok.ensures.good in
    found_is c.args.line.now c.in_ok-split_copy-in-Ok.field-0.items c.in-Ok.ensures.bytes good c.in_ok-split_copy-in-Ok.ensures

pub returns-in_ok-split_copy-in-Ok-clause-only : goal.returns-in_ok-split_copy-in-Ok-clause-only
returns-in_ok-split_copy-in-Ok-clause-only c =
    let good : first_bad c.args.line.now ≡ None = c.in-Ok.ensures.good in
    only_is c.args.line.now (Ok c.in_ok-split_copy-in-Ok.field-0) (line_fine c.args.line.now good ∙ ap Ok (sym c.in_ok-split_copy-in-Ok.ensures))

pub returns-in_ok-split_copy-in-Ok-clause-bad : goal.returns-in_ok-split_copy-in-Ok-clause-bad
returns-in_ok-split_copy-in-Ok-clause-bad c =
    let good : first_bad c.args.line.now ≡ None = c.in-Ok.ensures.good in
    bad_not c.args.line.now (Ok c.in_ok-split_copy-in-Ok.field-0) good (tokens_not_refused c.in_ok-split_copy-in-Ok.field-0)
