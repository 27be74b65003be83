use Rattle.std.proofs.Common.{◌≡◌, ◌∷◌, ◌++◌, length, ltb, sym, ◌∙◌}
use Rattle.std.proofs.lemmas.Bool.{ltb-false, le-ltb}
use Rattle.hs_line.specs.Lines.{is_too_long}
use Rattle.hs_line.proofs.WholeLines.{too_long-says, too_long-since, too_long-line, whole-none, whole-line, whole-stops}
use Rattle.hs_line.proofs.laws.whole_lines_one_by_one.Goals as goal

pub returns-clause-too_long : goal.returns-clause-too_long
returns-clause-too_long c bytes = (too_long-says 65536 bytes, λ since. too_long-since 65536 bytes since.0 since.1)

pub returns-clause-stops : goal.returns-clause-stops
returns-clause-stops c = whole-stops 65536

pub returns-clause-fits : goal.returns-clause-fits
returns-clause-fits c line more is =
    let first : is_too_long (line ++ 10 ∷ more) ≡ ltb 65536 (length line) = too_long-line 65536 line more is in
    (λ fits. first ∙ le-ltb 65536 (length line) fits, λ short. ltb-false 65536 (length line) (sym first ∙ short))

pub returns-clause-goes_on : goal.returns-clause-goes_on
returns-clause-goes_on c = whole-line 65536

pub returns-clause-waits : goal.returns-clause-waits
returns-clause-waits c = whole-none 65536
