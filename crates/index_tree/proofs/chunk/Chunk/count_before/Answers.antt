use Rattle.std.proofs.Common.{rules, of_calls}
use Rattle.std.proofs.lemmas.Fn.{always_returns_same}
use Rattle.index_tree.proofs.Cuts.{partitioned, count_in_slice}
use Rattle.index_tree.proofs.chunk.Chunk.count_before.Goals as goal

pub returns : goal.returns
returns g c =
    let test = g.C.Cut.before c.args.cut.now in
    let parted = rw (← c.self.view_is) at c.requires in
    let asked = partitioned test _ parted in
    let facts = c.partition_point.ensures in
    let point = facts.partitioned test (always_returns_same _ _ _ (λ a r q called. search (rules, of_calls))) (rw c.as_slice.ensures.value asked) in
    rw (← c.self.view_is) (count_in_slice test _ _ _ c.as_slice.ensures.value facts.bound point)
