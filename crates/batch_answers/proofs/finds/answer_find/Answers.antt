use Rattle.std.proofs.Common.{ℕ, List, ◌++◌, ap, ap₂, sym, subst, ◌∙◌, append-nil}
use Rattle.std.proofs.lemmas.Result.{on_ok_weaker}
use Rattle.request_types.specs.Fits.{AreNumbers}
use Rattle.table_rows.specs.Rows.{columns_of}
use Rattle.find_scan.specs.Show.{find_reply}
use Rattle.find_scan.specs.Rendering.{rows_at, shown}
use Rattle.find_scan.specs.declared.replies.Rendered.{Rendered}
use Rattle.table_rows.specs.Database.{database_of}
use Rattle.batch_answers.specs.Replies.{code_reply}
use Rattle.batch_answers.specs.Answers.{rows_reply}
use Rattle.batch_answers.proofs.Asked.{fits_then, big_then, reply_is}
use Rattle.batch_answers.proofs.Fits.{find_within, find_numbers}
use Rattle.batch_answers.proofs.finds.answer_find.Goals as goal

pub render-requires-clause-table : goal.render-requires-clause-table
render-requires-clause-table c = find_within c.args.tables.now c.schema.ensures.valid c.args.find.now c.requires

pub render-requires-clause-columns : goal.render-requires-clause-columns
render-requires-clause-columns c =
    subst (AreNumbers (columns_of c.args.tables.now c.args.find.now.table)) (sym c.as_slice-columns.ensures) (find_numbers c.args.tables.now c.schema.ensures.valid c.args.find.now c.requires)

pub returns-in-Fits : goal.returns-in-Fits
returns-in-Fits c =
    let state = c.args.tables.now in
    let find = c.args.find.now in
    let below = find_within state c.schema.ensures.valid find c.requires in
    let reply = find_reply c.as_slice-columns.result.now (rows_at state find.table c.as_slice.result.now) in
    let same = reply_is state c.schema.ensures.valid find below c.as_slice-columns.result.now c.as_slice.result.now c.as_slice-columns.ensures (c.as_slice.ensures.value ∙ c.in_ok-slots.ensures.selected) in
    c.in_ok-render.ensures.shown
    ∙ ap (λ (r : Rendered). c.args.out.now.items ++ shown r reply) c.in-Fits.is
    ∙ ap (λ (text : List ℕ). c.args.out.now.items ++ text) (same ∙ ap (λ a. a.0) (sym (fits_then (database_of state) find (rows_reply (database_of state) find, database_of state) reply same (sym c.in-Fits.is ∙ c.in_ok-render.ensures.size))))

pub returns : goal.returns
returns c =
    let state = c.args.tables.now in
    let find = c.args.find.now in
    let out = c.args.out.now.items in
    let below = find_within state c.schema.ensures.valid find c.requires in
    let reply = find_reply c.as_slice-columns.result.now (rows_at state find.table c.as_slice.result.now) in
    let same = reply_is state c.schema.ensures.valid find below c.as_slice-columns.result.now c.as_slice.result.now c.as_slice-columns.ensures (c.as_slice.ensures.value ∙ c.in_ok-slots.ensures.selected) in
    let before = c.in_ok-render.ensures.shown ∙ ap (λ (r : Rendered). out ++ shown r reply) c.in-TooBig.is ∙ append-nil out in
    let big = big_then (database_of state) find (rows_reply (database_of state) find, database_of state) reply same (sym c.in-TooBig.is ∙ c.in_ok-render.ensures.size) in
    on_ok_weaker c.push_code.result
    (λ pushed. pushed ∙ ap₂ (λ (o : List ℕ) (n : ℕ). o ++ code_reply n) before c.number.ensures ∙ ap (λ a. out ++ a.0) (sym big)) c.push_code.ensures
