use Rattle.std.proofs.Common.{length, ap, sym, subst, ◌∙◌}
use Rattle.request_types.specs.Fits.{AreNumbers}
use Rattle.table_rows.specs.Rows.{columns_of}
use Rattle.table_rows.proofs.Roomier.{roomier_itself}
use Rattle.table_rows.proofs.GoingBack.{goes_noted}
use Rattle.find_modify.specs.Change.{changed_all}
use Rattle.batch_answers.proofs.Asked.{count_chosen, made_is, count_is}
use Rattle.batch_answers.proofs.Fits.{find_within, find_numbers, slots_are}
use Rattle.batch_answers.proofs.changes.change_rows.Goals as goal

pub modify-requires-clause-slots : goal.modify-requires-clause-slots
modify-requires-clause-slots c = slots_are c.args.tables.now c.args.find.now.table c.args.slots.now c.requires.live c.requires.distinct

pub modify-requires-clause-columns : goal.modify-requires-clause-columns
modify-requires-clause-columns c =
    subst (AreNumbers (columns_of c.args.tables.now c.args.find.now.table)) (sym c.as_slice-columns.ensures) (find_numbers c.args.tables.now c.schema.ensures.valid c.args.find.now c.requires.find)

pub returns-clause-made : goal.returns-clause-made
returns-clause-made c =
    made_is c.args.tables.now c.modify.new.tables c.schema.ensures.valid c.args.find.now c.args.change.now
    (find_within c.args.tables.now c.schema.ensures.valid c.args.find.now c.requires.find)
    c.args.undo.now.entries c.modify.new.undo.entries c.modify.result c.as_slice-columns.result.now c.args.slots.now
    c.as_slice-columns.ensures c.requires.slots c.modify.ensures.answer c.modify.ensures.done c.modify.ensures.unchanged

pub returns-clause-count : goal.returns-clause-count
returns-clause-count c count ok =
    let made = changed_all c.args.find.now.table c.as_slice-columns.result.now c.args.change.now c.args.slots.now c.args.tables.now in
    count_is c.args.slots.now made c.modify.result c.modify.ensures.answer count ok
    ∙ ap length c.requires.slots
    ∙ count_chosen c.args.tables.now c.schema.ensures.valid c.args.find.now (find_within c.args.tables.now c.schema.ensures.valid c.args.find.now c.requires.find)

pub returns-clause-back : goal.returns-clause-back
returns-clause-back c =
    goes_noted c.args.tables.now c.args.tables.now c.modify.new.tables c.args.undo.now.entries c.modify.new.undo.entries
    (roomier_itself c.args.tables.now) c.modify.ensures.noted
