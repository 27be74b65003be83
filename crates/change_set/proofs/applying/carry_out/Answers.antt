use Rattle.std.proofs.Common.{Ok, ap}
use Rattle.table_rows.proofs.GoingBack.{goes_then}
use Rattle.change_set.proofs.Carried.{carried, not_filled}
use Rattle.change_set.proofs.applying.carry_out.Goals as goal

pub returns-clause-applied : goal.returns-clause-applied
returns-clause-applied c =
    let cleared = c.in_ok-is_clear.ensures.cleared (ap Ok c.if-not-is_clear.false) in
    λ done. carried c.args.tables.now c.schema.ensures.valid c.args.changes.now c.requires c.clear_all.new.tables cleared.0 c.put_all.new.tables c.schema-2.ensures.valid cleared.1 (c.in_ok-are_in.ensures.filled done)

pub returns-clause-refused : goal.returns-clause-refused
returns-clause-refused c =
    let cleared = c.in_ok-is_clear.ensures.cleared (ap Ok c.if-not-is_clear.false) in
    λ refused. not_filled c.args.tables.now c.schema.ensures.valid c.args.changes.now c.requires c.clear_all.new.tables cleared.0 (c.in_ok-are_in.ensures.refused refused)

pub returns-clause-back : goal.returns-clause-back
returns-clause-back c = goes_then c.args.tables.now c.clear_all.new.tables c.put_all.new.tables c.args.undo.now.entries c.clear_all.new.undo.entries c.put_all.new.undo.entries c.clear_all.ensures.back c.put_all.ensures.back

pub returns-in_err-are_in-clause-back : goal.returns-in_err-are_in-clause-back
returns-in_err-are_in-clause-back c = goes_then c.args.tables.now c.clear_all.new.tables c.put_all.new.tables c.args.undo.now.entries c.clear_all.new.undo.entries c.put_all.new.undo.entries c.clear_all.ensures.back c.put_all.ensures.back
