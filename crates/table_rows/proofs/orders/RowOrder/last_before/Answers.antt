use Rattle.std.proofs.Common.{sym, ap, ◌∙◌}
use Rattle.index_tree.proofs.Found.{last_found_at}
use Rattle.table_rows.specs.Marks.{slot_marked}
use Rattle.table_rows.proofs.orders.RowOrder.last_before.Goals as goal

pub returns : goal.returns
returns g c = c.slot_at.ensures _ c.last_before.ensures.last ∙ ap slot_marked (sym (last_found_at _ c.args.self.now.tree.items))
