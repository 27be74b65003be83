use Rattle.std.proofs.Common.{◌≡◌, ℕ, List, ◌++◌, length, take, ap, ap₂, sym, subst, ◌∙◌, append-nil, arith}
use Rattle.std.proofs.Math.Seq.{take-append_seam}
use Rattle.std.proofs.lemmas.Result.{on_ok_weaker}
use Rattle.request_types.specs.Fits.{AreNumbers}
use Rattle.table_rows.specs.Rows.{columns_of}
use Rattle.find_scan.specs.Show.{find_reply}
use Rattle.find_scan.specs.Rendering.{rows_at, shown}
use Rattle.find_scan.specs.declared.replies.Rendered.{Rendered}
use Rattle.find_modify.specs.declared.modifies.Modified.{Modified}
use Rattle.find_modify.specs.declared.modifies.Modified.TheVariants.{Done, Refused}
use Rattle.table_rows.specs.Database.{database_of}
use Rattle.batch_answers.specs.Replies.{code_reply}
use Rattle.batch_answers.specs.Steps.{reply_of}
use Rattle.batch_answers.proofs.Asked.{reply_is, shown_answer, big_answer}
use Rattle.batch_answers.proofs.Fits.{find_within, find_numbers}
use Rattle.table_rows.proofs.GoingBack.{goes_none}
use Rattle.batch_answers.proofs.changes.show_and_change.Goals as goal

pub returns-in_err-slots-clause-back : goal.returns-in_err-slots-clause-back
returns-in_err-slots-clause-back c = goes_none c.args.tables.now c.args.undo.now.entries

pub render-requires-clause-table : goal.render-requires-clause-table
render-requires-clause-table c = find_within c.args.tables.now c.schema.ensures.valid c.args.find.now c.requires.find

pub render-requires-clause-columns : goal.render-requires-clause-columns
render-requires-clause-columns c =
    subst (AreNumbers (columns_of c.args.tables.now c.args.find.now.table)) (sym c.as_slice-columns.ensures) (find_numbers c.args.tables.now c.schema.ensures.valid c.args.find.now c.requires.find)

pub returns-in_err-render-clause-back : goal.returns-in_err-render-clause-back
returns-in_err-render-clause-back c = goes_none c.args.tables.now c.args.undo.now.entries

pub returns-in-TooBig-clause-back : goal.returns-in-TooBig-clause-back
returns-in-TooBig-clause-back c = goes_none c.args.tables.now c.args.undo.now.entries

pub returns-in-TooBig-clause-reply : goal.returns-in-TooBig-clause-reply
returns-in-TooBig-clause-reply c =
    let state = c.args.tables.now in
    let find = c.args.find.now in
    let out = c.args.out.now.items in
    let below = find_within state c.schema.ensures.valid find c.requires.find in
    let reply = find_reply c.as_slice-columns.result.now (rows_at state find.table c.as_slice.result.now) in
    let same = reply_is state c.schema.ensures.valid find below c.as_slice-columns.result.now c.as_slice.result.now c.as_slice-columns.ensures (c.as_slice.ensures.value ∙ c.in_ok-slots.ensures.selected) in
    let before = c.in_ok-render.ensures.shown ∙ ap (λ (r : Rendered). out ++ shown r reply) c.in-TooBig.is ∙ append-nil out in
    let big = big_answer (database_of state) find c.args.change.now c.requires.shows reply same (sym c.in-TooBig.is ∙ c.in_ok-render.ensures.size) in
    on_ok_weaker c.push_code.result
    (λ pushed. pushed ∙ ap₂ (λ (o : List ℕ) (n : ℕ). o ++ code_reply n) before c.number.ensures ∙ ap (λ a. out ++ a.0) (sym big)) c.push_code.ensures

pub returns-in-TooBig-clause-rows : goal.returns-in-TooBig-clause-rows
returns-in-TooBig-clause-rows c =
    let state = c.args.tables.now in
    let find = c.args.find.now in
    let below = find_within state c.schema.ensures.valid find c.requires.find in
    let reply = find_reply c.as_slice-columns.result.now (rows_at state find.table c.as_slice.result.now) in
    let same = reply_is state c.schema.ensures.valid find below c.as_slice-columns.result.now c.as_slice.result.now c.as_slice-columns.ensures (c.as_slice.ensures.value ∙ c.in_ok-slots.ensures.selected) in
    let big = big_answer (database_of state) find c.args.change.now c.requires.shows reply same (sym c.in-TooBig.is ∙ c.in_ok-render.ensures.size) in
    on_ok_weaker c.push_code.result (λ pushed. ap (λ a. a.1) (sym big)) c.push_code.ensures

pub returns-in-Done-clause-reply : goal.returns-in-Done-clause-reply
returns-in-Done-clause-reply c =
    let state = c.args.tables.now in
    let find = c.args.find.now in
    let out = c.args.out.now.items in
    let after = database_of c.change_rows.new.tables in
    let below = find_within state c.schema.ensures.valid find c.requires.find in
    let reply = find_reply c.as_slice-columns.result.now (rows_at state find.table c.as_slice.result.now) in
    let same = reply_is state c.schema.ensures.valid find below c.as_slice-columns.result.now c.as_slice.result.now c.as_slice-columns.ensures (c.as_slice.ensures.value ∙ c.in_ok-slots.ensures.selected) in
    let done = shown_answer (database_of state) find c.args.change.now c.requires.shows reply same (Done c.in-Done.field-0) after (sym c.in-Fits.is ∙ c.in_ok-render.ensures.size)
    (λ text. c.in_ok-change_rows-in-Fits.ensures.made text ∙ ap (λ (a : Modified). (reply_of text a, after)) c.in-Done.is) in
    c.in_ok-render.ensures.shown ∙ ap (λ (r : Rendered). out ++ shown r reply) c.in-Fits.is ∙ ap (λ a. out ++ a.0) (sym done)

pub returns-in-Done-clause-rows : goal.returns-in-Done-clause-rows
returns-in-Done-clause-rows c =
    let state = c.args.tables.now in
    let find = c.args.find.now in
    let after = database_of c.change_rows.new.tables in
    let below = find_within state c.schema.ensures.valid find c.requires.find in
    let reply = find_reply c.as_slice-columns.result.now (rows_at state find.table c.as_slice.result.now) in
    let same = reply_is state c.schema.ensures.valid find below c.as_slice-columns.result.now c.as_slice.result.now c.as_slice-columns.ensures (c.as_slice.ensures.value ∙ c.in_ok-slots.ensures.selected) in
    let done = shown_answer (database_of state) find c.args.change.now c.requires.shows reply same (Done c.in-Done.field-0) after (sym c.in-Fits.is ∙ c.in_ok-render.ensures.size)
    (λ text. c.in_ok-change_rows-in-Fits.ensures.made text ∙ ap (λ (a : Modified). (reply_of text a, after)) c.in-Done.is) in
    ap (λ a. a.1) (sym done)

pub returns-clause-reply : goal.returns-clause-reply
returns-clause-reply c =
    let state = c.args.tables.now in
    let find = c.args.find.now in
    let out = c.args.out.now.items in
    let after = database_of c.change_rows.new.tables in
    let below = find_within state c.schema.ensures.valid find c.requires.find in
    let reply = find_reply c.as_slice-columns.result.now (rows_at state find.table c.as_slice.result.now) in
    let same = reply_is state c.schema.ensures.valid find below c.as_slice-columns.result.now c.as_slice.result.now c.as_slice-columns.ensures (c.as_slice.ensures.value ∙ c.in_ok-slots.ensures.selected) in
    let refused = shown_answer (database_of state) find c.args.change.now c.requires.shows reply same (Refused c.in-Refused.code) after (sym c.in-Fits.is ∙ c.in_ok-render.ensures.size)
    (λ text. c.in_ok-change_rows-in-Fits.ensures.made text ∙ ap (λ (a : Modified). (reply_of text a, after)) c.in-Refused.is) in
    let appended = c.in_ok-render.ensures.shown ∙ ap (λ (r : Rendered). out ++ shown r reply) c.in-Fits.is in
    let len : c.len-len.result ≡ length out = omega (arith, c.len-len.ensures, c.args.out.now.ok.0) in
    let before = c.truncate.ensures.items ∙ ap₂ (λ (n : ℕ) (o : List ℕ). take n o) len appended ∙ take-append_seam out reply in
    on_ok_weaker c.push_code-in-Refused.result
    (λ pushed. pushed ∙ ap (λ (o : List ℕ). o ++ code_reply c.in-Refused.code) before ∙ ap (λ a. out ++ a.0) (sym refused)) c.push_code-in-Refused.ensures

pub returns-clause-rows : goal.returns-clause-rows
returns-clause-rows c =
    let state = c.args.tables.now in
    let find = c.args.find.now in
    let after = database_of c.change_rows.new.tables in
    let below = find_within state c.schema.ensures.valid find c.requires.find in
    let reply = find_reply c.as_slice-columns.result.now (rows_at state find.table c.as_slice.result.now) in
    let same = reply_is state c.schema.ensures.valid find below c.as_slice-columns.result.now c.as_slice.result.now c.as_slice-columns.ensures (c.as_slice.ensures.value ∙ c.in_ok-slots.ensures.selected) in
    let refused = shown_answer (database_of state) find c.args.change.now c.requires.shows reply same (Refused c.in-Refused.code) after (sym c.in-Fits.is ∙ c.in_ok-render.ensures.size)
    (λ text. c.in_ok-change_rows-in-Fits.ensures.made text ∙ ap (λ (a : Modified). (reply_of text a, after)) c.in-Refused.is) in
    on_ok_weaker c.push_code-in-Refused.result (λ pushed. ap (λ a. a.1) (sym refused)) c.push_code-in-Refused.ensures
