use Rattle.table_rows.proofs.Undone.{deleted_leads}
use Rattle.table_rows.proofs.tables.Tables.delete.Goals as goal

pub returns-clause-back : goal.returns-clause-back
returns-clause-back c =
    deleted_leads c.args.self.now c.take_out-old.ensures.valid c.args.table c.requires.table c.args.slot.0 c.requires.live c.take_out-old.result c.take_out-old.ensures.handed
    c.take_out-old.new.self c.take_out-old.ensures.gone c.args.undo.now.entries c.push_reserved.new.self.entries c.push_reserved.ensures.entries
