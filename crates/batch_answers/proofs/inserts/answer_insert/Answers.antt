use Rattle.std.proofs.Common.{Ok, ◌++◌, ap, sym, ◌∙◌}
use Rattle.std.proofs.lemmas.Result.{on_ok_weaker}
use Rattle.row_insert.specs.declared.inserts.Inserted.TheVariants.{Done, Refused}
use Rattle.row_insert.proofs.Inserting.{insert_within}
use Rattle.batch_answers.proofs.Asked.{insert_is}
use Rattle.batch_answers.proofs.inserts.answer_insert.Goals as goal

pub returns-in_err-number-clause-back : goal.returns-in_err-number-clause-back
returns-in_err-number-clause-back c = c.insert.ensures.back

pub returns-in-Done-clause-back : goal.returns-in-Done-clause-back
returns-in-Done-clause-back c = c.insert.ensures.back

pub returns-in-Refused-clause-back : goal.returns-in-Refused-clause-back
returns-in-Refused-clause-back c = c.insert.ensures.back

pub returns-in-Done-clause-reply : goal.returns-in-Done-clause-reply
returns-in-Done-clause-reply c =
    let below = insert_within c.args.tables.now c.schema.ensures.valid c.args.schema.now c.requires.schema c.args.spec.now c.requires.fits in
    let same = insert_is c.args.tables.now c.insert.new.tables c.schema.ensures.valid c.args.spec.now below c.args.undo.now.entries c.insert.new.undo.entries (Ok c.in_ok-number.field-0) (Done c.in-Done.number)
    (ap Ok c.in-Done.is) (sym c.in-Done.is ∙ c.in_ok-number.ensures.answer) c.in_ok-number.ensures.put c.in_ok-number.ensures.unchanged in
    on_ok_weaker c.push_inserted.result (λ pushed. pushed ∙ ap (λ a. c.args.out.now.items ++ a.0) (sym same)) c.push_inserted.ensures

pub returns-in-Done-clause-rows : goal.returns-in-Done-clause-rows
returns-in-Done-clause-rows c =
    let below = insert_within c.args.tables.now c.schema.ensures.valid c.args.schema.now c.requires.schema c.args.spec.now c.requires.fits in
    let same = insert_is c.args.tables.now c.insert.new.tables c.schema.ensures.valid c.args.spec.now below c.args.undo.now.entries c.insert.new.undo.entries (Ok c.in_ok-number.field-0) (Done c.in-Done.number)
    (ap Ok c.in-Done.is) (sym c.in-Done.is ∙ c.in_ok-number.ensures.answer) c.in_ok-number.ensures.put c.in_ok-number.ensures.unchanged in
    on_ok_weaker c.push_inserted.result (λ pushed. ap (λ a. a.1) (sym same)) c.push_inserted.ensures

pub returns-in-Refused-clause-reply : goal.returns-in-Refused-clause-reply
returns-in-Refused-clause-reply c =
    let below = insert_within c.args.tables.now c.schema.ensures.valid c.args.schema.now c.requires.schema c.args.spec.now c.requires.fits in
    let same = insert_is c.args.tables.now c.insert.new.tables c.schema.ensures.valid c.args.spec.now below c.args.undo.now.entries c.insert.new.undo.entries (Ok c.in_ok-number.field-0) (Refused c.in-Refused.code)
    (ap Ok c.in-Refused.is) (sym c.in-Refused.is ∙ c.in_ok-number.ensures.answer) c.in_ok-number.ensures.put c.in_ok-number.ensures.unchanged in
    on_ok_weaker c.push_code.result (λ pushed. pushed ∙ ap (λ a. c.args.out.now.items ++ a.0) (sym same)) c.push_code.ensures

pub returns-in-Refused-clause-rows : goal.returns-in-Refused-clause-rows
returns-in-Refused-clause-rows c =
    let below = insert_within c.args.tables.now c.schema.ensures.valid c.args.schema.now c.requires.schema c.args.spec.now c.requires.fits in
    let same = insert_is c.args.tables.now c.insert.new.tables c.schema.ensures.valid c.args.spec.now below c.args.undo.now.entries c.insert.new.undo.entries (Ok c.in_ok-number.field-0) (Refused c.in-Refused.code)
    (ap Ok c.in-Refused.is) (sym c.in-Refused.is ∙ c.in_ok-number.ensures.answer) c.in_ok-number.ensures.put c.in_ok-number.ensures.unchanged in
    on_ok_weaker c.push_code.result (λ pushed. ap (λ a. a.1) (sym same)) c.push_code.ensures
