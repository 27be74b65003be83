use Rattle.std.proofs.Common.{arith}
use Rattle.table_rows.proofs.OrderSteps.{items_within}
use Rattle.table_rows.proofs.orders.RowOrder.grow.Goals as goal

pub overflow_cast-len : goal.overflow_cast-len
overflow_cast-len c = let most = items_within c.args.self.now.whole.items c.args.rows.now c.args.self.now.tree.items c.requires.order.walked in omega (arith, c.len.ensures, most, c.requires.fits)

pub overflow_sub-slots : goal.overflow_sub-slots
overflow_sub-slots c = let most = items_within c.args.self.now.whole.items c.args.rows.now c.args.self.now.tree.items c.requires.order.walked in omega (arith, c.len.ensures, most)
