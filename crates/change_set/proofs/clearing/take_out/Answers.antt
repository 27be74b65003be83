use Rattle.std.proofs.Common.{refl}
use Rattle.table_rows.specs.declared.undo.Undo.TheVariants.{Deleted}
use Rattle.table_rows.specs.Slots.{row_at}
use Rattle.change_set.proofs.Back.{reserved_back, change_back}
use Rattle.change_set.proofs.clearing.take_out.Goals as goal

pub returns-in_err-reserve-clause-back : goal.returns-in_err-reserve-clause-back
returns-in_err-reserve-clause-back c = reserved_back c.args.tables.now c.args.tables.now c.args.undo.now.entries c.reserve.new.self.entries refl c.in_err-reserve.ensures.entries

pub returns-clause-back : goal.returns-clause-back
returns-clause-back c =
    change_back c.args.tables.now c.delete.new.self c.args.undo.now.entries c.reserve.new.self.entries c.delete.new.undo.entries (Deleted c.args.table c.args.slot (row_at c.args.tables.now c.args.table c.args.slot.0))
    c.in_ok-reserve.ensures.entries c.delete.ensures.pushed c.delete.ensures.back
