-- An item taken out of items of which no two compare Equal.
--     removed_is_kept, others_apart, removed_by_test, removed_others      a removal is the filter of the others
--     with_item_undone, removal_undone      an insert and a removal take each other back
--     in_order_without, in_order_removed, in_order_replaced      the sorted items with one less, or with another instead
use Rattle.std.proofs.Common.{◌≡◌, ◌⊎◌, ℕ, zero, suc, Bool, true, false, not, List, [], ◌∷◌, ◌++◌, filter, remove, slice_get, Contains, Some, sym, refl, ap, subst, ◌∙◌, inl, inr}
use Rattle.std.specs.declared.cmp.Ordering.{Ordering}
use Rattle.std.specs.Ordering.{is_eq}
use Rattle.std.specs.Cmp.{IsTotalOrder}
use Rattle.std.specs.List.{AllByRecursion}
use Rattle.std.proofs.lemmas.Bool.{true≢false, not-true}
use Rattle.std.proofs.lemmas.Cmp.{tied_itself}
use Rattle.std.proofs.lemmas.Option.{same_Some}
use Rattle.index_tree.specs.Ordered.{IsAscending, IsApartFrom, AreApart, is_below, is_other, with_item, in_order}
use Rattle.index_tree.proofs.Apart.{apart_at, apart_from_ascending, apart_to_front}
use Rattle.index_tree.proofs.Ascending.{apart_back, ascending_kept, ascending_with_item}
use Rattle.index_tree.proofs.Cuts.{filter_all}
use Rattle.index_tree.proofs.Elements.{some_is_none, all_at, all_members, all_removed, each_member, contains_at, place_of_member, kept_member, member_of_kept, kept_passes}
use Rattle.index_tree.proofs.InOrder.{all_in_order, ascending_in_order, in_order_middle}
use Rattle.index_tree.proofs.Members.{put_member_itself, put_member_kept, member_of_put, ascending_unique}

module _ {X : Type 0} where
  -- a test that holds of all others, and not of the one at a place
  pub removed_is_kept : (test : X → Bool) (xs : List X) (k : ℕ) (x : X) → slice_get xs k ≡ Some x → test x ≡ false → AllByRecursion (λ y. test y ≡ true) (remove xs k) → remove xs k ≡ filter test xs
  removed_is_kept test [] k x e fails others = absurd (some_is_none x (sym e))
  removed_is_kept test (y ∷ ys) zero x e fails others = let out : test y ≡ false = ap test (same_Some y x e) ∙ fails in rw out (sym (filter_all test ys others))
  removed_is_kept test (y ∷ ys) (suc k) x e fails others = rw others.0 (ap (λ (zs : List X). y ∷ zs) (removed_is_kept test ys k x e fails others.1))

  pub member_of_removed : (xs : List X) (k : ℕ) (x : X) → Contains (remove xs k) x → Contains xs x
  member_of_removed xs k x inside = all_members (Contains xs) (remove xs k) x (all_removed (Contains xs) xs k (each_member (Contains xs) xs (λ y is. is))) inside

module _ {X : Type 0} (cmp : X → X → Ordering) (order : IsTotalOrder cmp) where
  pub others_apart : (xs : List X) → AreApart cmp xs → (k : ℕ) (x : X) → slice_get xs k ≡ Some x → AllByRecursion (λ y. is_eq (cmp y x) ≡ false) (remove xs k)
  others_apart [] apart k x e = absurd (some_is_none x (sym e))
  others_apart (y ∷ ys) apart zero x e = each_member (λ (z : X). is_eq (cmp z x) ≡ false) ys (λ z inside. apart_back cmp order x z (subst (λ (w : X). is_eq (cmp w z) ≡ false) (same_Some y x e) (all_members (λ (w : X). is_eq (cmp y w) ≡ false) ys z apart.0 inside)))
  others_apart (y ∷ ys) apart (suc k) x e = (all_at (λ (w : X). is_eq (cmp y w) ≡ false) ys k x apart.0 e, others_apart ys apart.1 k x e)

  -- a test that holds of all that compare otherwise
  pub removed_by_test : (test : X → Bool) (xs : List X) → AreApart cmp xs → (k : ℕ) (x : X) → slice_get xs k ≡ Some x → test x ≡ false → ((y : X) → Contains xs y → is_eq (cmp y x) ≡ false → test y ≡ true) → remove xs k ≡ filter test xs
  removed_by_test test xs apart k x e fails holds =
      removed_is_kept test xs k x e fails (each_member (λ (y : X). test y ≡ true) (remove xs k) (λ y inside.
      holds y (member_of_removed xs k y inside) (all_members (λ (z : X). is_eq (cmp z x) ≡ false) (remove xs k) y (others_apart xs apart k x e) inside)))

  not_other : (x : X) → is_other cmp x x ≡ false
  not_other x = ap (λ (o : Ordering). not (is_eq o)) (tied_itself order x)

  other_is : (x y : X) → is_eq (cmp y x) ≡ false → is_other cmp x y ≡ true
  other_is x y apart = ap not apart

  -- the items without the one at a place are those that compare otherwise
  pub removed_others : (xs : List X) → AreApart cmp xs → (k : ℕ) (x : X) → slice_get xs k ≡ Some x → remove xs k ≡ filter (is_other cmp x) xs
  removed_others xs apart k x e = removed_by_test (is_other cmp x) xs apart k x e (not_other x) (λ y inside apart_there. other_is x y apart_there)

  -- a removal takes back an insert
  pub with_item_undone : (x : X) (xs : List X) → IsAscending cmp xs → IsApartFrom cmp x xs → filter (is_other cmp x) (with_item cmp x xs) ≡ xs
  with_item_undone x xs ascending new =
      ascending_unique cmp order (filter (is_other cmp x) (with_item cmp x xs)) xs (ascending_kept cmp (is_other cmp x) (with_item cmp x xs) (ascending_with_item cmp order x xs new ascending)) ascending
      (λ y. (
        λ inside. by_member y (kept_passes (is_other cmp x) (with_item cmp x xs) y inside) (member_of_put (is_below cmp x) x xs y (member_of_kept (is_other cmp x) (with_item cmp x xs) y inside)),
        λ inside. kept_member (is_other cmp x) (with_item cmp x xs) y (put_member_kept (is_below cmp x) x xs y inside) (other_is x y (apart_back cmp order x y (all_members (λ (z : X). is_eq (cmp x z) ≡ false) xs y new inside))),
      ))
    where
      by_member : (y : X) → is_other cmp x y ≡ true → (x ≡ y) ⊎ Contains xs y → Contains xs y
      by_member y other (inl same) = absurd (true≢false (sym other ∙ subst (λ (z : X). is_other cmp x z ≡ false) same (not_other x)))
      by_member y other (inr kept) = kept

  -- an insert takes back a removal
  pub removal_undone : (xs : List X) → IsAscending cmp xs → (k : ℕ) (x : X) → slice_get xs k ≡ Some x → with_item cmp x (filter (is_other cmp x) xs) ≡ xs
  removal_undone xs ascending k x e =
      let others = filter (is_other cmp x) xs in
      let new = each_member (λ (y : X). is_eq (cmp x y) ≡ false) others (λ y inside. apart_back cmp order y x (not-true _ (kept_passes (is_other cmp x) xs y inside))) in
      ascending_unique cmp order (with_item cmp x others) xs (ascending_with_item cmp order x others new (ascending_kept cmp (is_other cmp x) xs ascending)) ascending
      (λ y. (λ inside. from_put y (member_of_put (is_below cmp x) x others y inside), λ inside. to_put y inside (is_other cmp x y) refl))
    where
      from_put : (y : X) → (x ≡ y) ⊎ Contains (filter (is_other cmp x) xs) y → Contains xs y
      from_put y (inl same) = subst (Contains xs) same (contains_at xs k x e)
      from_put y (inr kept) = member_of_kept (is_other cmp x) xs y kept

      tied : (y : X) → is_other cmp x y ≡ false → is_eq (cmp y x) ≡ true
      tied y out = by_answer (is_eq (cmp y x)) out
        where
          by_answer : (b : Bool) → not b ≡ false → b ≡ true
          by_answer true out = refl
          by_answer false out = absurd (true≢false out)

      to_put : (y : X) → Contains xs y → (b : Bool) → is_other cmp x y ≡ b → Contains (with_item cmp x (filter (is_other cmp x) xs)) y
      to_put y inside true other = put_member_kept (is_below cmp x) x (filter (is_other cmp x) xs) y (kept_member (is_other cmp x) xs y inside other)
      to_put y inside false out =
          let placed = place_of_member xs y inside in
          let one_place = apart_at cmp order xs (apart_from_ascending cmp xs ascending) placed.0 k y x placed.1 e (tied y out) in
          let same : x ≡ y = same_Some x y (sym e ∙ subst (λ (j : ℕ). slice_get xs j ≡ Some y) one_place placed.1) in
          subst (Contains (with_item cmp x (filter (is_other cmp x) xs))) same (put_member_itself (is_below cmp x) x (filter (is_other cmp x) xs))

  module _ (xs : List X) (x : X) (ys : List X) (apart : AreApart cmp (xs ++ x ∷ ys)) where
    front_apart : AreApart cmp (x ∷ (xs ++ ys))
    front_apart = apart_to_front cmp order xs x ys apart

    -- the sorted items with one less
    pub in_order_without : in_order cmp (xs ++ ys) ≡ filter (is_other cmp x) (in_order cmp (xs ++ x ∷ ys))
    in_order_without =
        let new = all_in_order cmp (λ (y : X). is_eq (cmp x y) ≡ false) (xs ++ ys) front_apart.0 in
        sym (ap (filter (is_other cmp x)) (in_order_middle cmp order xs x ys apart) ∙ with_item_undone x (in_order cmp (xs ++ ys)) (ascending_in_order cmp order (xs ++ ys) front_apart.1) new)

    pub in_order_removed : (k : ℕ) → slice_get (in_order cmp (xs ++ x ∷ ys)) k ≡ Some x → remove (in_order cmp (xs ++ x ∷ ys)) k ≡ in_order cmp (xs ++ ys)
    in_order_removed k e = removed_others (in_order cmp (xs ++ x ∷ ys)) (apart_from_ascending cmp (in_order cmp (xs ++ x ∷ ys)) (ascending_in_order cmp order (xs ++ x ∷ ys) apart)) k x e ∙ sym in_order_without

    -- and with another instead of it
    pub in_order_replaced : (z : X) → AreApart cmp (xs ++ z ∷ ys) → in_order cmp (xs ++ z ∷ ys) ≡ with_item cmp z (filter (is_other cmp x) (in_order cmp (xs ++ x ∷ ys)))
    in_order_replaced z apart_there = in_order_middle cmp order xs z ys apart_there ∙ ap (with_item cmp z) in_order_without
