use Rattle.index_tree.proofs.Ascending.{ascending_parted, ascending_with_item}
use Rattle.index_tree.proofs.InOrder.{ascending_in_order, in_order_is}
use Rattle.index_tree.proofs.laws.ascending_items.Goals as goal

pub returns-clause-parted : goal.returns-clause-parted
returns-clause-parted g c = ascending_parted g.T.Ord.cmp

pub returns-clause-with_one_more : goal.returns-clause-with_one_more
returns-clause-with_one_more g c = ascending_with_item g.T.Ord.cmp g.met.T.Ord.total

pub returns-clause-sorted : goal.returns-clause-sorted
returns-clause-sorted g c = ascending_in_order g.T.Ord.cmp g.met.T.Ord.total

pub returns-clause-one_order : goal.returns-clause-one_order
returns-clause-one_order g c = in_order_is g.T.Ord.cmp g.met.T.Ord.total
