-- What the first and the last place of a test say of the list.
--     found_at, last_found_at      the item there is the one that `find` gives, from the front and from the end
--     first_within, last_within, first_passes, first_none, none_passes      where it is, and where there is none
--     behind_from, none_behind, before_upto, none_in_front      of a parted list, what stands behind a cut and before it
--     drop_at, take_at      one step of a walk
--     first_at_key, last_at_key, apart_when_other, apart_when_none      a look-up of an item in ascending ones
use Rattle.std.proofs.Common.{◌≡◌, ℕ, zero, suc, ◌<◌, Bool, true, false, not, cond, List, [], ◌∷◌, ◌++◌, length, take, drop, reverse, Option, Some, None, filter, find, slice_get, option_map, option_and_then, nat_lt, count_by, sym, refl, ap, subst, ◌∙◌, arith}
use Rattle.std.specs.declared.cmp.Ordering.{Ordering}
use Rattle.std.specs.declared.cmp.Ordering.TheVariants.{Less, Equal, Greater}
use Rattle.std.specs.Cmp.{IsTotalOrder}
use Rattle.std.specs.List.{AllByRecursion}
use Rattle.std.specs.Option.{option_or}
use Rattle.std.specs.Ordering.{is_lt, is_eq, is_gt}
use Rattle.std.proofs.lemmas.Bool.{not-false}
use Rattle.std.proofs.lemmas.Cmp.{alike_right}
use Rattle.std.proofs.lemmas.List.{reverse-append}
use Rattle.std.proofs.lemmas.List.Folds.{find-append}
use Rattle.std.proofs.lemmas.Option.{slice_get-get_or, same_Some}
use Rattle.index_tree.specs.Contents.{one_before}
use Rattle.index_tree.specs.Ordered.{IsAscending, IsApartFrom, is_below, is_through}
use Rattle.index_tree.specs.Parts.{IsParted, first_place, last_place, later_or_first}
use Rattle.index_tree.proofs.Ascending.{equal_is, less_is, greater_back, apart_back, less_when_left}
use Rattle.index_tree.proofs.Cuts.{IsCut, cut_none, cut_of_parted, filter_none, first_place_is, last_place_is, front_is, rest_is}
use Rattle.index_tree.proofs.Elements.{some_is_none, all_at, all_weaker}

module _ {X : Type 0} (test : X → Bool) where
  pub first_none : (xs : List X) → AllByRecursion (λ y. test y ≡ false) xs → first_place test xs ≡ None
  first_none [] none = refl
  first_none (x ∷ xs) none = rw (none.0, first_none xs none.1) refl

  step_is : (x : X) (xs : List X) (o : Option ℕ) → option_and_then (slice_get (x ∷ xs)) (option_map suc o) ≡ option_and_then (slice_get xs) o
  step_is x xs None = refl
  step_is x xs (Some k) = refl

  -- the item at the first place is the one that `find` gives
  pub found_at : (xs : List X) → find test xs ≡ option_and_then (slice_get xs) (first_place test xs)
  found_at [] = refl
  found_at (x ∷ xs) = by_test (found_at xs) (test x)
    where
      by_test : find test xs ≡ option_and_then (slice_get xs) (first_place test xs) → (b : Bool) → cond b (Some x) (find test xs) ≡ option_and_then (slice_get (x ∷ xs)) (cond b (Some 0) (option_map suc (first_place test xs)))
      by_test rest true = refl
      by_test rest false = rest ∙ sym (step_is x xs (first_place test xs))

  -- there is one further on, where it is not the first
  later_place : (o : Option ℕ) (k : ℕ) → option_map suc o ≡ Some k → (j : ℕ) × (o ≡ Some j) × (suc j ≡ k)
  later_place None k e = absurd (some_is_none k (sym e))
  later_place (Some j) k e = (j, refl, same_Some (suc j) k e)

  pub first_within : (xs : List X) (k : ℕ) → first_place test xs ≡ Some k → k < length xs
  first_within [] k e = absurd (some_is_none k (sym e))
  first_within (x ∷ xs) k e = by_test (first_within xs) (test x) e
    where
      by_test : ((j : ℕ) → first_place test xs ≡ Some j → j < length xs) → (b : Bool) → cond b (Some 0) (option_map suc (first_place test xs)) ≡ Some k → k < suc (length xs)
      by_test rest true e = omega (arith, same_Some 0 k e)
      by_test rest false e = let later = later_place (first_place test xs) k e in omega (arith, rest later.0 later.1, later.2)

  -- the item there passes
  pub first_passes : (xs : List X) (k : ℕ) (y : X) → first_place test xs ≡ Some k → slice_get xs k ≡ Some y → test y ≡ true
  first_passes [] k y e there = absurd (some_is_none k (sym e))
  first_passes (x ∷ xs) k y e there = by_test (first_passes xs) (test x) refl e
    where
      by_test : ((j : ℕ) (z : X) → first_place test xs ≡ Some j → slice_get xs j ≡ Some z → test z ≡ true) → (b : Bool) → test x ≡ b → cond b (Some 0) (option_map suc (first_place test xs)) ≡ Some k → test y ≡ true
      by_test rest true passes e =
          let first : x ≡ y = same_Some x y (subst (λ (j : ℕ). slice_get (x ∷ xs) j ≡ Some y) (sym (same_Some 0 k e)) there) in
          ap test (sym first) ∙ passes
      by_test rest false fails e =
          let later = later_place (first_place test xs) k e in
          rest later.0 y later.1 (subst (λ (j : ℕ). slice_get (x ∷ xs) j ≡ Some y) (sym later.2) there)

  -- where there is no first place, none passes
  pub none_passes : (xs : List X) → first_place test xs ≡ None → AllByRecursion (λ y. test y ≡ false) xs
  none_passes [] e = tt
  none_passes (x ∷ xs) e = by_test (none_passes xs) (test x) refl e
    where
      later : (o : Option ℕ) → option_map suc o ≡ None → o ≡ None
      later None e = refl
      later (Some j) e = absurd (some_is_none (suc j) e)

      by_test : (first_place test xs ≡ None → AllByRecursion (λ (y : X). test y ≡ false) xs) → (b : Bool) → test x ≡ b → cond b (Some 0) (option_map suc (first_place test xs)) ≡ None → AllByRecursion (λ (y : X). test y ≡ false) (x ∷ xs)
      by_test rest true passes e = absurd (some_is_none 0 e)
      by_test rest false fails e = (fails, rest (later (first_place test xs) e))

  pub last_within : (xs : List X) (k : ℕ) → last_place test xs ≡ Some k → k < length xs
  last_within [] k e = absurd (some_is_none k (sym e))
  last_within (x ∷ xs) k e = by_last (last_within xs) (last_place test xs) (test x) refl e
    where
      by_last : ((j : ℕ) → last_place test xs ≡ Some j → j < length xs) → (o : Option ℕ) (b : Bool) → last_place test xs ≡ o → later_or_first o b ≡ Some k → k < suc (length xs)
      by_last rest (Some j) b is e = omega (arith, rest j is, same_Some (suc j) k e)
      by_last rest None true is e = omega (arith, same_Some 0 k e)
      by_last rest None false is e = absurd (some_is_none k (sym e))

  -- the item at the last place is the one that `find` gives from the end
  pub last_found_at : (xs : List X) → find test (reverse xs) ≡ option_and_then (slice_get xs) (last_place test xs)
  last_found_at [] = refl
  last_found_at (x ∷ xs) =
      ap (find test) (reverse-append (x ∷ []) xs) ∙ find-append test (reverse xs) (x ∷ []) ∙ by_last (last_found_at xs) (last_within xs) (last_place test xs) (test x) refl
    where
      by_last : find test (reverse xs) ≡ option_and_then (slice_get xs) (last_place test xs) → ((j : ℕ) → last_place test xs ≡ Some j → j < length xs) → (o : Option ℕ) (b : Bool) → last_place test xs ≡ o → option_or (find test (reverse xs)) (cond b (Some x) None) ≡ option_and_then (slice_get (x ∷ xs)) (later_or_first o b)
      by_last rest within (Some j) b is = rw (rest, is, slice_get-get_or xs j x (within j is)) refl
      by_last rest within None true is = rw (rest, is) refl
      by_last rest within None false is = rw (rest, is) refl

  -- behind a cut stands all from the first place on
  pub behind_from : (xs : List X) → IsParted test xs → (k : ℕ) → first_place (λ y. not (test y)) xs ≡ Some k → filter (λ y. not (test y)) xs ≡ drop k xs
  behind_from xs parted k e =
      let cut = cut_of_parted test xs parted in
      by_bound (nat_lt (count_by test xs) (length xs)) (sym (first_place_is test xs (count_by test xs) cut) ∙ e) (rest_is test xs (count_by test xs) cut)
    where
      by_bound : (b : Bool) → cond b (Some (count_by test xs)) None ≡ Some k → filter (λ (y : X). not (test y)) xs ≡ drop (count_by test xs) xs → filter (λ (y : X). not (test y)) xs ≡ drop k xs
      by_bound true here rest = rest ∙ ap (λ (j : ℕ). drop j xs) (same_Some (count_by test xs) k here)
      by_bound false here rest = absurd (some_is_none k (sym here))

  -- before it all up to the last place
  pub before_upto : (xs : List X) → IsParted test xs → (k : ℕ) → last_place test xs ≡ Some k → filter test xs ≡ take (suc k) xs
  before_upto xs parted k e =
      let cut = cut_of_parted test xs parted in
      by_count (count_by test xs) (sym (last_place_is test xs (count_by test xs) cut) ∙ e) (front_is test xs (count_by test xs) cut)
    where
      by_count : (n : ℕ) → one_before n ≡ Some k → filter test xs ≡ take n xs → filter test xs ≡ take (suc k) xs
      by_count zero here front = absurd (some_is_none k (sym here))
      by_count (suc n) here front = front ∙ ap (λ (j : ℕ). take (suc j) xs) (same_Some n k here)

  -- and nothing where there is no such place
  pub none_behind : (xs : List X) → first_place test xs ≡ None → filter test xs ≡ []
  none_behind xs e = filter_none test xs (none_passes xs e)

  pub none_in_front : (xs : List X) → last_place test xs ≡ None → filter test xs ≡ []
  none_in_front [] e = refl
  none_in_front (x ∷ xs) e = by_last (none_in_front xs) (last_place test xs) (test x) refl e
    where
      by_last : (last_place test xs ≡ None → filter test xs ≡ []) → (o : Option ℕ) (b : Bool) → last_place test xs ≡ o → later_or_first o b ≡ None → cond b (x ∷ filter test xs) (filter test xs) ≡ []
      by_last rest (Some j) b is e = absurd (some_is_none (suc j) e)
      by_last rest None true is e = absurd (some_is_none 0 e)
      by_last rest None false is e = rest is

module _ {X : Type 0} where
  -- a walk up is at the first of what is left
  pub drop_at : (xs : List X) (k : ℕ) (x : X) → slice_get xs k ≡ Some x → drop k xs ≡ x ∷ drop (suc k) xs
  drop_at [] k x e = absurd (some_is_none x (sym e))
  drop_at (y ∷ ys) zero x e = ap (λ (z : X). z ∷ ys) (same_Some y x e)
  drop_at (y ∷ ys) (suc k) x e = drop_at ys k x e

  -- and a walk down at the last
  pub take_at : (xs : List X) (k : ℕ) (x : X) → slice_get xs k ≡ Some x → take (suc k) xs ≡ take k xs ++ x ∷ []
  take_at [] k x e = absurd (some_is_none x (sym e))
  take_at (y ∷ ys) zero x e = ap (λ (z : X). z ∷ []) (same_Some y x e)
  take_at (y ∷ ys) (suc k) x e = ap (λ (zs : List X). y ∷ zs) (take_at ys k x e)

module _ {X : Type 0} (cmp : X → X → Ordering) (order : IsTotalOrder cmp) (key : X) where
  before_key : (x y : X) → cmp x y ≡ Less → is_eq (cmp y key) ≡ true → cmp x key ≡ Less
  before_key x y less ties = sym (alike_right order y key x (equal_is (cmp y key) ties)) ∙ less

  behind_key : (x y : X) → is_eq (cmp x key) ≡ true → cmp x y ≡ Less → cmp y key ≡ Greater
  behind_key x y ties less = greater_back cmp order key y (sym (order.congr x key y (equal_is (cmp x key) ties)) ∙ less)

  -- an item that is there is the first that is not before it
  pub first_at_key : (xs : List X) → IsAscending cmp xs → (k : ℕ) (y : X) → slice_get xs k ≡ Some y → is_eq (cmp y key) ≡ true → first_place (λ z. not (is_below cmp key z)) xs ≡ Some k
  first_at_key [] ascending k y e ties = absurd (some_is_none y (sym e))
  first_at_key (x ∷ xs) ascending zero y e ties =
      let here : cmp x key ≡ Equal = equal_is (cmp x key) (subst (λ (z : X). is_eq (cmp z key) ≡ true) (sym (same_Some x y e)) ties) in
      rw here refl
  first_at_key (x ∷ xs) ascending (suc k) y e ties =
      let less = before_key x y (all_at (λ (z : X). cmp x z ≡ Less) xs k y ascending.0 e) ties in
      rw less (ap (option_map suc) (first_at_key xs ascending.1 k y e ties))

  cut_at_key : (xs : List X) → IsAscending cmp xs → (k : ℕ) (y : X) → slice_get xs k ≡ Some y → is_eq (cmp y key) ≡ true → IsCut (is_through cmp key) xs (suc k)
  cut_at_key [] ascending k y e ties = absurd (some_is_none y (sym e))
  cut_at_key (x ∷ xs) ascending zero y e ties =
      let here = subst (λ (z : X). is_eq (cmp z key) ≡ true) (sym (same_Some x y e)) ties in
      (ap (λ (o : Ordering). not (is_gt o)) (equal_is (cmp x key) here), cut_none (is_through cmp key) xs (all_weaker (λ (z : X). cmp x z ≡ Less) (λ (z : X). is_through cmp key z ≡ false) (λ z less. ap (λ (o : Ordering). not (is_gt o)) (behind_key x z here less)) xs ascending.0))
  cut_at_key (x ∷ xs) ascending (suc k) y e ties =
      let less = before_key x y (all_at (λ (z : X). cmp x z ≡ Less) xs k y ascending.0 e) ties in
      (ap (λ (o : Ordering). not (is_gt o)) less, cut_at_key xs ascending.1 k y e ties)

  -- and the last that is not behind it
  pub last_at_key : (xs : List X) → IsAscending cmp xs → (k : ℕ) (y : X) → slice_get xs k ≡ Some y → is_eq (cmp y key) ≡ true → last_place (is_through cmp key) xs ≡ Some k
  last_at_key xs ascending k y e ties = last_place_is (is_through cmp key) xs (suc k) (cut_at_key xs ascending k y e ties)

  below_apart : (x : X) → is_lt (cmp x key) ≡ true → is_eq (cmp key x) ≡ false
  below_apart x below = ap is_eq (greater_back cmp order x key (less_is (cmp x key) below))

  -- where the first that is not before it is another, it is not there
  pub apart_when_other : (xs : List X) → IsAscending cmp xs → (k : ℕ) (y : X) → first_place (λ z. not (is_below cmp key z)) xs ≡ Some k → slice_get xs k ≡ Some y → is_eq (cmp y key) ≡ false → IsApartFrom cmp key xs
  apart_when_other [] ascending k y e there other = tt
  apart_when_other (x ∷ xs) ascending k y e there other = by_test (apart_when_other xs ascending.1) (is_lt (cmp x key)) refl e
    where
      behind : is_lt (cmp x key) ≡ false → x ≡ y → AllByRecursion (λ (z : X). is_eq (cmp key z) ≡ false) (x ∷ xs)
      behind left same =
          let ahead : cmp key x ≡ Less = less_when_left (cmp key x) (ap is_lt (sym (order.antisymm x key)) ∙ left) (apart_back cmp order x key (subst (λ (z : X). is_eq (cmp z key) ≡ false) (sym same) other)) in
          (ap is_eq ahead, all_weaker (λ (z : X). cmp x z ≡ Less) (λ (z : X). is_eq (cmp key z) ≡ false) (λ z less. ap is_eq (order.trans key x z ahead less)) xs ascending.0)

      by_test : ((j : ℕ) (z : X) → first_place (λ (w : X). not (is_below cmp key w)) xs ≡ Some j → slice_get xs j ≡ Some z → is_eq (cmp z key) ≡ false → IsApartFrom cmp key xs) → (b : Bool) → is_lt (cmp x key) ≡ b → cond (not b) (Some 0) (option_map suc (first_place (λ (w : X). not (is_below cmp key w)) xs)) ≡ Some k → IsApartFrom cmp key (x ∷ xs)
      by_test rest true below e =
          let later = later_place (λ (w : X). not (is_below cmp key w)) (first_place (λ (w : X). not (is_below cmp key w)) xs) k e in
          (below_apart x below, rest later.0 y later.1 (subst (λ (j : ℕ). slice_get (x ∷ xs) j ≡ Some y) (sym later.2) there) other)
      by_test rest false left e = behind left (same_Some x y (subst (λ (j : ℕ). slice_get (x ∷ xs) j ≡ Some y) (sym (same_Some 0 k e)) there))

  pub apart_when_none : (xs : List X) → first_place (λ z. not (is_below cmp key z)) xs ≡ None → IsApartFrom cmp key xs
  apart_when_none xs e = all_weaker (λ (z : X). not (is_below cmp key z) ≡ false) (λ (z : X). is_eq (cmp key z) ≡ false) (λ z out. below_apart z (not-false _ out)) xs (none_passes (λ (z : X). not (is_below cmp key z)) xs e)
