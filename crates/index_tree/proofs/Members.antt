-- Which items there are: after an insert, in lists with the same members, and that order and members settle a list.
--     put_permutes, length-put_between, put_member_itself, put_member_kept, member_of_put, all_put      an insert
--     same_members_itself, same_members_back, same_members_then, same_members_permuted, same_members_middle      lists
--     same_members_kept, all_same      what a filter keeps of both, and what holds of the members of both
--     ascending_unique      two ascending lists with the same members are one
use Rattle.std.proofs.Common.{◌≡◌, ◌⊎◌, suc, Bool, not, List, [], ◌∷◌, ◌++◌, length, filter, Contains, IsPermutation, sym, refl, ap, subst, ◌∙◌, inl, inr}
use Rattle.std.specs.declared.cmp.Ordering.{Ordering}
use Rattle.std.specs.declared.cmp.Ordering.TheVariants.{Less}
use Rattle.std.specs.Ordering.{is_lt}
use Rattle.std.specs.Cmp.{IsTotalOrder}
use Rattle.std.specs.List.{AllByRecursion}
use Rattle.std.proofs.lemmas.Bool.{true≢false}
use Rattle.std.proofs.lemmas.Cmp.{tied_itself}
use Rattle.std.proofs.lemmas.List.Sorted.{IsPermutation-cons, IsPermutation-filter_both, IsPermutation-middle, IsPermutation-sym, IsPermutation-trans, Contains-permutation, length_permutation}
use Rattle.index_tree.specs.Parts.{put_between}
use Rattle.index_tree.specs.Ordered.{IsAscending, HaveSameMembers}
use Rattle.index_tree.proofs.Ascending.{greater_back}
use Rattle.index_tree.proofs.Elements.{all_members, each_member, no_member, contains_first, contains_later, contains_cases, kept_member, member_of_kept, kept_passes}

module _ {X : Type 0} (test : X → Bool) (x : X) (xs : List X) where
  -- an insert gives the items with the new one, each as often
  pub put_permutes : IsPermutation (x ∷ xs) (put_between test x xs)
  put_permutes =
      let front = filter test xs in
      let back = filter (λ (y : X). not (test y)) xs in
      IsPermutation-trans (x ∷ xs) (x ∷ (front ++ back)) (front ++ x ∷ back)
      (IsPermutation-cons x xs (front ++ back) (IsPermutation-filter_both test (λ (y : X). not (test y)) (λ y. refl) xs))
      (IsPermutation-sym (front ++ x ∷ back) (x ∷ (front ++ back)) (IsPermutation-middle front x back))

  pub length-put_between : length (put_between test x xs) ≡ suc (length xs)
  length-put_between = length_permutation (x ∷ xs) (put_between test x xs) put_permutes

  pub put_member_itself : Contains (put_between test x xs) x
  put_member_itself = Contains-permutation (x ∷ xs) (put_between test x xs) x put_permutes (contains_first x xs)

  pub put_member_kept : (y : X) → Contains xs y → Contains (put_between test x xs) y
  put_member_kept y inside = Contains-permutation (x ∷ xs) (put_between test x xs) y put_permutes (contains_later x xs y inside)

  pub member_of_put : (y : X) → Contains (put_between test x xs) y → (x ≡ y) ⊎ Contains xs y
  member_of_put y inside = contains_cases x xs y (Contains-permutation (put_between test x xs) (x ∷ xs) y (IsPermutation-sym (x ∷ xs) (put_between test x xs) put_permutes) inside)

  pub all_put : (P : X → Type 0) → P x → AllByRecursion P xs → AllByRecursion P (put_between test x xs)
  all_put P itself all = each_member P (put_between test x xs) (λ y inside. by_member y (member_of_put y inside))
    where
      by_member : (y : X) → (x ≡ y) ⊎ Contains xs y → P y
      by_member y (inl same) = subst P same itself
      by_member y (inr kept) = all_members P xs y all kept

module _ {X : Type 0} where
  pub same_members_itself : (xs : List X) → HaveSameMembers xs xs
  same_members_itself xs x = (λ inside. inside, λ inside. inside)

  pub same_members_back : (xs ys : List X) → HaveSameMembers xs ys → HaveSameMembers ys xs
  same_members_back xs ys same x = ((same x).1, (same x).0)

  pub same_members_then : (xs ys zs : List X) → HaveSameMembers xs ys → HaveSameMembers ys zs → HaveSameMembers xs zs
  same_members_then xs ys zs first second x = (λ inside. (second x).0 ((first x).0 inside), λ inside. (first x).1 ((second x).1 inside))

  pub same_members_permuted : (xs ys : List X) → IsPermutation xs ys → HaveSameMembers xs ys
  same_members_permuted xs ys permuted x = (Contains-permutation xs ys x permuted, Contains-permutation ys xs x (IsPermutation-sym xs ys permuted))

  -- an item in the middle may as well stand first
  pub same_members_middle : (xs : List X) (x : X) (ys : List X) → HaveSameMembers (xs ++ x ∷ ys) (x ∷ (xs ++ ys))
  same_members_middle xs x ys = same_members_permuted (xs ++ x ∷ ys) (x ∷ (xs ++ ys)) (IsPermutation-middle xs x ys)

  pub same_members_kept : (test : X → Bool) (xs ys : List X) → HaveSameMembers xs ys → HaveSameMembers (filter test xs) (filter test ys)
  same_members_kept test xs ys same x = (
    λ inside. kept_member test ys x ((same x).0 (member_of_kept test xs x inside)) (kept_passes test xs x inside),
    λ inside. kept_member test xs x ((same x).1 (member_of_kept test ys x inside)) (kept_passes test ys x inside),
  )

  pub all_same : (P : X → Type 0) (xs ys : List X) → HaveSameMembers xs ys → AllByRecursion P xs → AllByRecursion P ys
  all_same P xs ys same all = each_member P ys (λ x inside. all_members P xs x all ((same x).1 inside))

module _ {X : Type 0} (cmp : X → X → Ordering) (order : IsTotalOrder cmp) where
  not_before_itself : (x y : X) → x ≡ y → cmp x y ≡ Less → ⊥
  not_before_itself x y same less = true≢false (sym (ap is_lt less) ∙ ap is_lt (subst (λ (z : X). cmp x z ≡ cmp x x) same refl) ∙ ap is_lt (tied_itself order x))

  not_both_before : (x y : X) → cmp x y ≡ Less → cmp y x ≡ Less → ⊥
  not_both_before x y first second = true≢false (sym (ap is_lt second) ∙ ap is_lt (greater_back cmp order x y first))

  first_is : (x : X) (xs : List X) (y : X) (ys : List X) → IsAscending cmp (x ∷ xs) → IsAscending cmp (y ∷ ys) → (y ≡ x) ⊎ Contains ys x → (x ≡ y) ⊎ Contains xs y → x ≡ y
  first_is x xs y ys first second (inl same) there = sym same
  first_is x xs y ys first second (inr later) (inl same) = same
  first_is x xs y ys first second (inr later) (inr behind) =
      absurd (not_both_before x y (all_members (λ (z : X). cmp x z ≡ Less) xs y first.0 behind) (all_members (λ (z : X). cmp y z ≡ Less) ys x second.0 later))

  later_member : (x : X) (xs : List X) (y : X) (ys : List X) → IsAscending cmp (x ∷ xs) → x ≡ y → (z : X) → Contains xs z → Contains (y ∷ ys) z → Contains ys z
  later_member x xs y ys ascending same z inside there = by_member (contains_cases y ys z there)
    where
      by_member : (y ≡ z) ⊎ Contains ys z → Contains ys z
      by_member (inl first) = absurd (not_before_itself x z (same ∙ first) (all_members (λ (w : X). cmp x w ≡ Less) xs z ascending.0 inside))
      by_member (inr later) = later

  -- two ascending lists with the same members are one
  pub ascending_unique : (xs ys : List X) → IsAscending cmp xs → IsAscending cmp ys → HaveSameMembers xs ys → xs ≡ ys
  ascending_unique [] [] first second same = refl
  ascending_unique [] (y ∷ ys) first second same = absurd (no_member y ((same y).1 (contains_first y ys)))
  ascending_unique (x ∷ xs) [] first second same = absurd (no_member x ((same x).0 (contains_first x xs)))
  ascending_unique (x ∷ xs) (y ∷ ys) first second same =
      let heads : x ≡ y = first_is x xs y ys first second (contains_cases y ys x ((same x).0 (contains_first x xs))) (contains_cases x xs y ((same y).1 (contains_first y ys))) in
      let tails : xs ≡ ys = ascending_unique xs ys first.1 second.1 (λ z. (λ inside. later_member x xs y ys first heads z inside ((same z).0 (contains_later x xs z inside)), λ inside. later_member y ys x xs second (sym heads) z inside ((same z).1 (contains_later y ys z inside)))) in
      rw (heads, tails) refl
