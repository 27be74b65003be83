use Rattle.std.proofs.Common.{ap, ◌∙◌}
use Rattle.table_rows.specs.Table.{Table}
use Rattle.table_rows.proofs.Undone.{put_leads}
use Rattle.table_rows.proofs.tables.Tables.put.Goals as goal

pub returns-clause-back : goal.returns-clause-back
returns-clause-back c =
    put_leads c.args.self.now c.put_new-slot.ensures.valid c.args.table c.requires.table c.put_new-slot.result c.args.row c.requires.row c.put_new-slot.ensures.vacant.free c.counter-before.result (c.counter-before.ensures ∙ ap (λ (t : Table). t.rows.counter) c.store.ensures)
    c.put_new-slot.new.self c.put_new-slot.ensures.put c.args.undo.now.entries c.push_reserved.new.self.entries c.push_reserved.ensures.entries
