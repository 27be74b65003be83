use Rattle.std.proofs.Common.{ℕ, ◌-◌, ap, ◌∙◌, refl, rules, of_calls}
use Rattle.std.proofs.lemmas.Fn.{always_returns_same}
use Rattle.index_tree.proofs.Cuts.{partitioned, count_in_slice}
use Rattle.index_tree.proofs.chunks.chunk_of.Goals as goal

pub returns : goal.returns
returns g c =
    let test = g.C.Cut.before c.args.cut.now in
    let facts = c.partition_point-begun.ensures in
    let point = facts.partitioned test (always_returns_same _ _ _ (λ a r q called. search (rules, of_calls))) (partitioned test c.args.firsts.now c.requires) in
    c.saturating_sub.ensures ∙ ap (λ (n : ℕ). n - 1) (count_in_slice test c.args.firsts.now c.args.firsts.now c.partition_point-begun.result refl facts.bound point)
