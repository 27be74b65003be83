use Rattle.std.proofs.Common.{arith}
use Rattle.index_tree.proofs.Evened.{others_behind, half_behind}
use Rattle.index_tree.proofs.shifts.fill_from_behind.Goals as goal

pub merge-requires-clause-others : goal.merge-requires-clause-others
merge-requires-clause-others g c = others_behind c.args.chunks.now.items c.args.left c.requires.nearly (omega arith)

pub merge-requires-clause-half : goal.merge-requires-clause-half
merge-requires-clause-half g c = half_behind c.args.chunks.now.items c.args.left c.requires.nearly (omega arith)
