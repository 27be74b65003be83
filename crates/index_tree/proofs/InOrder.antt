-- Items sorted.
--     in_order_permutes, in_order_members, length-in_order, all_in_order      the members are the same
--     ascending_in_order, in_order_is, in_order_ascending, in_order_alike, in_order_permuted      the sorted list is the ascending one
--     in_order_middle, in_order_kept      an item more at any place, and what a filter keeps
--     in_order_agree, in_order_mapped      another order, and through a function
use Rattle.std.proofs.Common.{◌≡◌, Bool, false, not, List, [], ◌∷◌, ◌++◌, length, map, filter, Contains, IsPermutation, sym, refl, ap, ◌∙◌}
use Rattle.std.specs.declared.cmp.Ordering.{Ordering}
use Rattle.std.specs.Ordering.{is_lt, is_eq}
use Rattle.std.specs.Cmp.{IsTotalOrder}
use Rattle.std.specs.List.{AllByRecursion}
use Rattle.std.proofs.lemmas.List.Sorted.{IsPermutation-cons, IsPermutation-refl, IsPermutation-trans, length_permutation}
use Rattle.index_tree.specs.Ordered.{IsAscending, AreApart, HaveSameMembers, is_below, with_item, in_order}
use Rattle.index_tree.proofs.Apart.{apart_from_ascending, apart_kept, apart_permuted, apart_to_front}
use Rattle.index_tree.proofs.Ascending.{ascending_kept, ascending_with_item}
use Rattle.index_tree.proofs.Elements.{each_member, contains_first, contains_later, filter_agree}
use Rattle.index_tree.proofs.Members.{put_permutes, same_members_itself, same_members_back, same_members_then, same_members_permuted, same_members_middle, same_members_kept, all_same, ascending_unique}
use Rattle.index_tree.proofs.Through.{map_put_between}

module _ {X : Type 0} (cmp : X → X → Ordering) where
  -- the sorted items are the items, each as often
  pub in_order_permutes : (xs : List X) → IsPermutation xs (in_order cmp xs)
  in_order_permutes [] = IsPermutation-refl []
  in_order_permutes (x ∷ xs) = IsPermutation-trans (x ∷ xs) (x ∷ in_order cmp xs) (in_order cmp (x ∷ xs)) (IsPermutation-cons x xs (in_order cmp xs) (in_order_permutes xs)) (put_permutes (is_below cmp x) x (in_order cmp xs))

  pub in_order_members : (xs : List X) → HaveSameMembers xs (in_order cmp xs)
  in_order_members xs = same_members_permuted xs (in_order cmp xs) (in_order_permutes xs)

  pub length-in_order : (xs : List X) → length (in_order cmp xs) ≡ length xs
  length-in_order xs = length_permutation xs (in_order cmp xs) (in_order_permutes xs)

  pub all_in_order : (P : X → Type 0) (xs : List X) → AllByRecursion P xs → AllByRecursion P (in_order cmp xs)
  all_in_order P xs = all_same P xs (in_order cmp xs) (in_order_members xs)

  -- an order that agrees on all members sorts alike
  pub in_order_agree : (other : X → X → Ordering) (xs : List X) → ((x y : X) → Contains xs x → Contains xs y → cmp x y ≡ other x y) → in_order cmp xs ≡ in_order other xs
  in_order_agree other [] agree = refl
  in_order_agree other (x ∷ xs) agree =
      let rest = in_order_agree other xs (λ y z first second. agree y z (contains_later x xs y first) (contains_later x xs z second)) in
      let at = λ (y : X) (inside : Contains (in_order cmp xs) y). agree y x (contains_later x xs y ((in_order_members xs y).1 inside)) (contains_first x xs) in
      let front = filter_agree (is_below cmp x) (is_below other x) (in_order cmp xs) (each_member (λ (y : X). is_below cmp x y ≡ is_below other x y) (in_order cmp xs) (λ y inside. ap is_lt (at y inside))) in
      let back = filter_agree (λ (y : X). not (is_below cmp x y)) (λ (y : X). not (is_below other x y)) (in_order cmp xs) (each_member (λ (y : X). not (is_below cmp x y) ≡ not (is_below other x y)) (in_order cmp xs) (λ y inside. ap (λ (o : Ordering). not (is_lt o)) (at y inside))) in
      rw (front, back, rest) refl

  -- items sorted by their values have the values sorted
  pub in_order_mapped : {S : Type 0} (f : S → X) (xs : List S) → map f (in_order (λ a b. cmp (f a) (f b)) xs) ≡ in_order cmp (map f xs)
  in_order_mapped f [] = refl
  in_order_mapped f (x ∷ xs) = map_put_between f (is_below cmp (f x)) x (in_order (λ a b. cmp (f a) (f b)) xs) ∙ ap (with_item cmp (f x)) (in_order_mapped f xs)

module _ {X : Type 0} (cmp : X → X → Ordering) (order : IsTotalOrder cmp) where
  -- items of which no two compare Equal ascend once they are sorted
  pub ascending_in_order : (xs : List X) → AreApart cmp xs → IsAscending cmp (in_order cmp xs)
  ascending_in_order [] apart = tt
  ascending_in_order (x ∷ xs) apart = ascending_with_item cmp order x (in_order cmp xs) (all_in_order cmp (λ (y : X). is_eq (cmp x y) ≡ false) xs apart.0) (ascending_in_order xs apart.1)

  -- an ascending list with the members of another is that one sorted
  pub in_order_is : (ys xs : List X) → IsAscending cmp ys → AreApart cmp xs → HaveSameMembers ys xs → ys ≡ in_order cmp xs
  in_order_is ys xs ascending apart same = ascending_unique cmp order ys (in_order cmp xs) ascending (ascending_in_order xs apart) (same_members_then ys xs (in_order cmp xs) same (in_order_members cmp xs))

  pub in_order_ascending : (xs : List X) → IsAscending cmp xs → in_order cmp xs ≡ xs
  in_order_ascending xs ascending = sym (in_order_is xs xs ascending (apart_from_ascending cmp xs ascending) (same_members_itself xs))

  -- lists with the same members are sorted alike
  pub in_order_alike : (xs ys : List X) → AreApart cmp xs → AreApart cmp ys → HaveSameMembers xs ys → in_order cmp xs ≡ in_order cmp ys
  in_order_alike xs ys first second same = in_order_is (in_order cmp xs) ys (ascending_in_order xs first) second (same_members_then (in_order cmp xs) xs ys (same_members_back xs (in_order cmp xs) (in_order_members cmp xs)) same)

  -- and so is any permutation
  pub in_order_permuted : (xs ys : List X) → IsPermutation xs ys → AreApart cmp xs → in_order cmp xs ≡ in_order cmp ys
  in_order_permuted xs ys permuted apart = in_order_alike xs ys apart (apart_permuted cmp order xs ys permuted apart) (same_members_permuted xs ys permuted)

  -- an item more, at any place
  pub in_order_middle : (xs : List X) (x : X) (ys : List X) → AreApart cmp (xs ++ x ∷ ys) → in_order cmp (xs ++ x ∷ ys) ≡ with_item cmp x (in_order cmp (xs ++ ys))
  in_order_middle xs x ys apart = in_order_alike (xs ++ x ∷ ys) (x ∷ (xs ++ ys)) apart (apart_to_front cmp order xs x ys apart) (same_members_middle xs x ys)

  kept_itself : (test : X → Bool) (xs : List X) → HaveSameMembers (filter test (in_order cmp xs)) (filter test xs)
  kept_itself test xs = same_members_kept test (in_order cmp xs) xs (same_members_back xs (in_order cmp xs) (in_order_members cmp xs))

  -- what a filter keeps of the sorted items is sorted
  pub in_order_kept : (test : X → Bool) (xs : List X) → AreApart cmp xs → in_order cmp (filter test xs) ≡ filter test (in_order cmp xs)
  in_order_kept test xs apart = sym (in_order_is (filter test (in_order cmp xs)) (filter test xs) (ascending_kept cmp test (in_order cmp xs) (ascending_in_order xs apart)) (apart_kept cmp test xs apart) (kept_itself test xs))
