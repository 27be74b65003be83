use Rattle.std.proofs.Common.{rules, is_lt}
use Rattle.std.proofs.lemmas.List.Sorted.{ranks_by}
use Rattle.std.proofs.lemmas.Fn.{always_returns_same, dedup_same}
use Rattle.change_set.specs.Sets.{change_cmp}
use Rattle.change_set.proofs.SetsAgain.{change_total}
use Rattle.change_set.proofs.OneOrder.{same, sorted_once}
use Rattle.change_set.proofs.net.put_in_order.Goals as goal

pub returns : goal.returns
returns c =
    let schema = c.args.schema.now in
    let cmp = change_cmp schema in
    let sorted = c.in_ok-sort_by.ensures.sorted (λ a b. is_lt (cmp a b)) (ranks_by (change_total schema) (λ a. a)) (always_returns_same _ _ _ (λ a r f k. search rules)) in
    let kept = dedup_same _ (same cmp (change_total schema)) _ (λ x y b f x' y' k. search rules) _ _ c.dedup_by.ensures.filtered in
    λ all ascending members. sorted_once cmp (change_total schema) c.args.changes.now.items c.sort_by.new.self.items c.dedup_by.new.self.items all c.in_ok-sort_by.ensures.permutation sorted kept ascending members
