use Rattle.std.proofs.Common.{sym, ap, ◌∙◌}
use Rattle.index_tree.proofs.Found.{found_at}
use Rattle.table_rows.specs.Marks.{slot_marked}
use Rattle.table_rows.proofs.orders.RowOrder.first_behind.Goals as goal

pub returns : goal.returns
returns g c = c.slot_at.ensures _ c.first_behind.ensures.first ∙ ap slot_marked (sym (found_at _ c.args.self.now.tree.items))
