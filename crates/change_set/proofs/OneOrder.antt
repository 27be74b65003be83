-- A list that is put in order, and of which each item is kept once.
--     exact_in      items of an ascending list that compare as equal are one
--     sorted_once      it is the ascending list with the same members
use Rattle.std.proofs.Common.{◌≡◌, ℕ, zero, suc, ◌+◌, ◌<◌, ◌≤◌, Bool, true, false, cond, List, [], ◌∷◌, length, get_or, refl, sym, ap, subst, ◌∙◌, inl, inr, arith}
use Rattle.std.specs.Prelude.{Contains, slice_get}
use Rattle.std.specs.List.{AllByRecursion, dedup, dedup_from}
use Rattle.std.specs.List.Sorted.{IsPermutation, IsSortedBy}
use Rattle.std.specs.declared.cmp.Ordering.{Ordering}
use Rattle.std.specs.declared.cmp.Ordering.TheVariants.{Less, Equal, Greater}
use Rattle.std.specs.Ordering.{is_lt, is_eq, ordering_reverse}
use Rattle.std.specs.Cmp.{IsTotalOrder}
use Rattle.std.proofs.lemmas.Bool.{cases_Bool, true≢false}
use Rattle.std.proofs.lemmas.Option.{same_Some}
use Rattle.std.proofs.lemmas.List.Sorted.{ranks_by, sorted_far, Contains-permutation, IsPermutation-sym}
use Rattle.index_tree.specs.Ordered.{IsAscending, HaveSameMembers}
use Rattle.index_tree.proofs.Apart.{apart_from_ascending, apart_at}
use Rattle.index_tree.proofs.Ascending.{less_when_left}
use Rattle.index_tree.proofs.Elements.{no_member, contains_first, contains_later, contains_cases, place_of_member, all_members, each_member}
use Rattle.index_tree.proofs.Members.{ascending_unique}

eq_turned : (r : Ordering) → is_eq (ordering_reverse r) ≡ is_eq r
eq_turned Less = refl
eq_turned Equal = refl
eq_turned Greater = refl

module _ {X : Type 0} (cmp : X → X → Ordering) (order : IsTotalOrder cmp) where
  -- no later item is less than an earlier one
  abbrev IsRising : List X → Type 0
  IsRising [] = Unit {0}
  IsRising (x ∷ xs) = AllByRecursion (λ y. is_lt (cmp y x) ≡ false) xs × IsRising xs

  -- items that compare as equal are one
  abbrev pub IsExact : List X → Type 0
  IsExact xs = (x y : X) → Contains xs x → Contains xs y → is_eq (cmp x y) ≡ true → x ≡ y

  abbrev pub same : X → X → Bool
  same x y = is_eq (cmp x y)

  rises : (xs : List X) → IsSortedBy (λ x y. is_lt (cmp x y)) xs → IsRising xs
  rises [] up = tt
  rises (x ∷ xs) up = (
    each_member (λ (y : X). is_lt (cmp y x) ≡ false) xs
        (λ y inside. subst (λ (z : X). is_lt (cmp z x) ≡ false) inside.2 (sorted_far (λ (a b : X). is_lt (cmp a b)) (ranks_by order (λ (a : X). a)) (x ∷ xs) up 0 (suc inside.0) y (omega arith) (omega (arith, inside.1)))),
    rises xs (λ k d low high.
        let next : suc k + 1 ≡ suc (k + 1) = omega arith in
        subst (λ (n : ℕ). is_lt (cmp (get_or (x ∷ xs) n d) (get_or xs k d)) ≡ false) next (up (suc k) d (omega arith) (omega (arith, high)))),
  )

  eq_back : (x y : X) → is_eq (cmp x y) ≡ is_eq (cmp y x)
  eq_back x y = ap is_eq (order.antisymm x y) ∙ eq_turned (cmp y x)

  less_from : (x y : X) → is_lt (cmp y x) ≡ false → is_eq (cmp x y) ≡ false → cmp x y ≡ Less
  less_from x y not_below apart = less_when_left (cmp x y) (ap is_lt (sym (order.antisymm y x)) ∙ not_below) apart

  deeper : (k x : X) (xs : List X) (y : X) → Contains (k ∷ xs) y → Contains (k ∷ x ∷ xs) y
  deeper k x xs y inside = elim (contains_cases k xs y inside) [
    | inl first ↦ subst (Contains (k ∷ x ∷ xs)) first (contains_first k (x ∷ xs))
    | inr later ↦ contains_later k (x ∷ xs) y (contains_later x xs y later)
  ]

  -- each item once
  record IsOnce (xs ys : List X) : Type 0 where
    ascending : IsAscending cmp ys
    members : HaveSameMembers xs ys

  -- the next item is the same as the one that is kept
  once_same : (k x : X) (xs ys : List X) → x ≡ k → IsOnce (k ∷ xs) ys → IsOnce (k ∷ x ∷ xs) ys
  once_same k x xs ys one rest = record {
    ascending = rest.ascending;
    members = λ y. (
      λ inside. elim (contains_cases k (x ∷ xs) y inside) [
        | inl first ↦ (rest.members y).0 (subst (Contains (k ∷ xs)) first (contains_first k xs))
        | inr later ↦ elim (contains_cases x xs y later) [
          | inl second ↦ (rest.members y).0 (subst (Contains (k ∷ xs)) (sym one ∙ second) (contains_first k xs))
          | inr behind ↦ (rest.members y).0 (contains_later k xs y behind)
        ]
      ],
      λ inside. deeper k x xs y ((rest.members y).1 inside),
    );
  }

  -- it is another, and so it stands behind
  once_other : (k x : X) (xs ys : List X) → IsRising (k ∷ x ∷ xs) → IsExact (k ∷ x ∷ xs) → is_eq (cmp x k) ≡ false → IsOnce (x ∷ xs) ys → IsOnce (k ∷ x ∷ xs) (k ∷ ys)
  once_other k x xs ys rising exact is rest =
      let first_less : cmp k x ≡ Less = less_from k x rising.0.0 (eq_back k x ∙ is) in
      let less : (y : X) → Contains (x ∷ xs) y → cmp k y ≡ Less =
      λ y inside. elim (contains_cases x xs y inside) [
        | inl first ↦ subst (λ (z : X). cmp k z ≡ Less) first first_less
        | inr later ↦ elim (cases_Bool (is_eq (cmp k y))) [
          | inl equal ↦
              let one : k ≡ y = exact k y (contains_first k (x ∷ xs)) (contains_later k (x ∷ xs) y inside) equal in
              let between : is_lt (cmp k x) ≡ false = subst (λ (z : X). is_lt (cmp z x) ≡ false) (sym one) (all_members (λ (z : X). is_lt (cmp z x) ≡ false) xs y rising.1.0 later) in
              absurd (true≢false (sym (ap is_lt first_less) ∙ between))
          | inr apart ↦ less_from k y (all_members (λ (z : X). is_lt (cmp z k) ≡ false) (x ∷ xs) y rising.0 inside) apart
        ]
      ] in
      record {
        ascending = (each_member (λ (y : X). cmp k y ≡ Less) ys (λ y inside. less y ((rest.members y).1 inside)), rest.ascending);
        members = λ y. (
          λ inside. elim (contains_cases k (x ∷ xs) y inside) [
            | inl first ↦ subst (Contains (k ∷ ys)) first (contains_first k ys)
            | inr later ↦ contains_later k ys y ((rest.members y).0 later)
          ],
          λ inside. elim (contains_cases k ys y inside) [
            | inl first ↦ subst (Contains (k ∷ x ∷ xs)) first (contains_first k (x ∷ xs))
            | inr later ↦ contains_later k (x ∷ xs) y ((rest.members y).1 later)
          ],
        );
      }

  by_test : (k x : X) (xs : List X) → IsRising (k ∷ x ∷ xs) → IsExact (k ∷ x ∷ xs) → IsOnce (k ∷ xs) (dedup_from same k xs) → IsOnce (x ∷ xs) (dedup_from same x xs) → (b : Bool) → is_eq (cmp x k) ≡ b
      → IsOnce (k ∷ x ∷ xs) (cond b (dedup_from same k xs) (k ∷ dedup_from same x xs))
  by_test k x xs rising exact kept next true is = once_same k x xs (dedup_from same k xs) (exact x k (contains_later k (x ∷ xs) x (contains_first x xs)) (contains_first k (x ∷ xs)) is) kept
  by_test k x xs rising exact kept next false is = once_other k x xs (dedup_from same x xs) rising exact is next

  once_from : (k : X) (xs : List X) → IsRising (k ∷ xs) → IsExact (k ∷ xs) → IsOnce (k ∷ xs) (dedup_from same k xs)
  once_from k [] rising exact = record { ascending = (tt, tt); members = λ x. ((λ inside. inside), (λ inside. inside)) }
  once_from k (x ∷ xs) rising exact =
      by_test k x xs rising exact (once_from k xs (rising.0.1, rising.1.1) (λ a b first second. exact a b (deeper k x xs a first) (deeper k x xs b second)))
      (once_from x xs rising.1 (λ a b first second. exact a b (contains_later k (x ∷ xs) a first) (contains_later k (x ∷ xs) b second))) (is_eq (cmp x k)) refl

  once : (xs : List X) → IsRising xs → IsExact xs → IsOnce xs (dedup same xs)
  once [] rising exact = record { ascending = tt; members = λ x. ((λ inside. inside), (λ inside. inside)) }
  once (x ∷ xs) rising exact = once_from x xs rising exact

  pub exact_in : (ys : List X) → IsAscending cmp ys → IsExact ys
  exact_in ys ascending x y first second equal =
      let i = place_of_member ys x first in
      let j = place_of_member ys y second in
      let place = apart_at cmp order ys (apart_from_ascending cmp ys ascending) i.0 j.0 x y i.1 j.1 equal in
      same_Some x y (sym i.1 ∙ ap (slice_get ys) place ∙ j.1)

  pub sorted_once : (xs zs ws ys : List X) → IsPermutation xs zs → IsSortedBy (λ x y. is_lt (cmp x y)) zs → ws ≡ dedup same zs → IsAscending cmp ys → HaveSameMembers xs ys → ws ≡ ys
  sorted_once xs zs ws ys moved sorted kept ascending members =
      let back : (x : X) → Contains zs x → Contains ys x = λ x inside. (members x).0 (Contains-permutation zs xs x (IsPermutation-sym xs zs moved) inside) in
      let one = once zs (rises zs sorted) (λ x y first second equal. exact_in ys ascending x y (back x first) (back y second) equal) in
      kept ∙ ascending_unique cmp order (dedup same zs) ys one.ascending ascending
      (λ x. ((λ inside. back x ((one.members x).1 inside)), (λ inside. (one.members x).0 (Contains-permutation xs zs x moved ((members x).1 inside)))))
