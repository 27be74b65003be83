use Rattle.std.proofs.Common.{refl, length, arith}
use Rattle.find_modify.proofs.Few.{few_slots}
use Rattle.find_modify.proofs.Whole.{table_within, mod_fits}
use Rattle.find_modify.proofs.modifies.modify.Goals as goal

pub change_all-requires-clause-table : goal.change_all-requires-clause-table
change_all-requires-clause-table c =
    table_within c.args.tables.now c.args.table c.args.columns.now c.args.change.now c.requires.change c.schema.ensures.valid

pub change_all-requires-clause-change : goal.change_all-requires-clause-change
change_all-requires-clause-change c = mod_fits c.args.tables.now c.args.table c.args.columns.now c.args.change.now c.requires.change

pub overflow_cast-slots : goal.overflow_cast-slots
overflow_cast-slots c =
    let within = table_within c.args.tables.now c.args.table c.args.columns.now c.args.change.now c.requires.change c.schema.ensures.valid in
    omega (arith, few_slots c.args.tables.now c.schema.ensures.valid c.args.table within c.args.slots.now c.requires.slots)

pub overflow_cast-result : goal.overflow_cast-result
overflow_cast-result c =
    let within = table_within c.args.tables.now c.args.table c.args.columns.now c.args.change.now c.requires.change c.schema.ensures.valid in
    omega (arith, few_slots c.args.tables.now c.schema.ensures.valid c.args.table within c.args.slots.now c.requires.slots)

pub returns-in-Ok-clause-unchanged : goal.returns-in-Ok-clause-unchanged
returns-in-Ok-clause-unchanged c never = absurd (never (length c.args.slots.now) refl)
