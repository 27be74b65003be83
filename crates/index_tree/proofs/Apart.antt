-- Items of which no two compare Equal.
--     apart_from_ascending, apart_kept, apart_removed, apart_first, apart_rest      of ascending lists, and of parts
--     apart_to_front, apart_to_middle, apart_last      an item in the middle may as well stand first
--     apart_permuted      in any order
--     apart_at      two places whose items compare Equal are one
--     apart_finer, apart_mapped, apart_unmapped      an order that ties less, and through a function
use Rattle.std.proofs.Common.{◌≡◌, ℕ, zero, suc, ◌≤◌, Bool, true, false, cond, List, [], ◌∷◌, ◌++◌, map, filter, remove, slice_get, Some, IsPermutation, count_by, sym, refl, ap, subst, ◌∙◌, arith}
use Rattle.std.specs.declared.cmp.Ordering.{Ordering}
use Rattle.std.specs.declared.cmp.Ordering.TheVariants.{Less}
use Rattle.std.specs.Ordering.{is_eq}
use Rattle.std.specs.Cmp.{IsTotalOrder}
use Rattle.std.specs.List.{AllByRecursion}
use Rattle.std.proofs.lemmas.Bool.{true≢false}
use Rattle.std.proofs.lemmas.Cmp.{tied_itself}
use Rattle.std.proofs.lemmas.List.Sorted.{sum_by-IsPermutation}
use Rattle.std.proofs.lemmas.Option.{same_Some}
use Rattle.index_tree.specs.Ordered.{IsAscending, IsApartFrom, AreApart}
use Rattle.index_tree.proofs.Ascending.{apart_back, equal_is}
use Rattle.index_tree.proofs.Cuts.{count_yes, count_no, count_none, none_from_count}
use Rattle.index_tree.proofs.Elements.{some_is_none, all_kept, all_weaker, all_append, all_front, all_back, all_middle, all_but_middle, all_removed, all_mapped, all_unmapped, all_at}

module _ {X : Type 0} (cmp : X → X → Ordering) where
  pub apart_from_ascending : (xs : List X) → IsAscending cmp xs → AreApart cmp xs
  apart_from_ascending [] ascending = tt
  apart_from_ascending (x ∷ xs) ascending = (all_weaker (λ (y : X). cmp x y ≡ Less) (λ (y : X). is_eq (cmp x y) ≡ false) (λ y less. ap is_eq less) xs ascending.0, apart_from_ascending xs ascending.1)

  pub apart_kept : (test : X → Bool) (xs : List X) → AreApart cmp xs → AreApart cmp (filter test xs)
  apart_kept test [] apart = tt
  apart_kept test (x ∷ xs) apart = by_test (apart_kept test xs apart.1) (test x)
    where
      by_test : AreApart cmp (filter test xs) → (b : Bool) → AreApart cmp (cond b (x ∷ filter test xs) (filter test xs))
      by_test rest true = (all_kept (λ (y : X). is_eq (cmp x y) ≡ false) test xs apart.0, rest)
      by_test rest false = rest

  pub apart_removed : (xs : List X) (k : ℕ) → AreApart cmp xs → AreApart cmp (remove xs k)
  apart_removed [] zero apart = tt
  apart_removed [] (suc k) apart = tt
  apart_removed (x ∷ xs) zero apart = apart.1
  apart_removed (x ∷ xs) (suc k) apart = (all_removed (λ (y : X). is_eq (cmp x y) ≡ false) xs k apart.0, apart_removed xs k apart.1)

  pub apart_first : (xs ys : List X) → AreApart cmp (xs ++ ys) → AreApart cmp xs
  apart_first [] ys apart = tt
  apart_first (x ∷ xs) ys apart = (all_front (λ (y : X). is_eq (cmp x y) ≡ false) xs ys apart.0, apart_first xs ys apart.1)

  pub apart_rest : (xs ys : List X) → AreApart cmp (xs ++ ys) → AreApart cmp ys
  apart_rest [] ys apart = apart
  apart_rest (x ∷ xs) ys apart = apart_rest xs ys apart.1

  -- items apart under one order are apart under every order that ties no others
  pub apart_finer : (finer : X → X → Ordering) → ((x y : X) → is_eq (cmp x y) ≡ false → is_eq (finer x y) ≡ false) → (xs : List X) → AreApart cmp xs → AreApart finer xs
  apart_finer finer ties [] apart = tt
  apart_finer finer ties (x ∷ xs) apart = (all_weaker (λ (y : X). is_eq (cmp x y) ≡ false) (λ (y : X). is_eq (finer x y) ≡ false) (ties x) xs apart.0, apart_finer finer ties xs apart.1)

  module _ {S : Type 0} (f : S → X) where
    pub apart_mapped : (xs : List S) → AreApart (λ a b. cmp (f a) (f b)) xs → AreApart cmp (map f xs)
    apart_mapped [] apart = tt
    apart_mapped (x ∷ xs) apart = (all_mapped (λ (y : X). is_eq (cmp (f x) y) ≡ false) f xs apart.0, apart_mapped xs apart.1)

    pub apart_unmapped : (xs : List S) → AreApart cmp (map f xs) → AreApart (λ a b. cmp (f a) (f b)) xs
    apart_unmapped [] apart = tt
    apart_unmapped (x ∷ xs) apart = (all_unmapped (λ (y : X). is_eq (cmp (f x) y) ≡ false) f xs apart.0, apart_unmapped xs apart.1)

module _ {X : Type 0} (cmp : X → X → Ordering) (order : IsTotalOrder cmp) where
  pub apart_to_front : (xs : List X) (x : X) (ys : List X) → AreApart cmp (xs ++ x ∷ ys) → AreApart cmp (x ∷ (xs ++ ys))
  apart_to_front [] x ys apart = apart
  apart_to_front (w ∷ xs) x ys apart =
      let rest = apart_to_front xs x ys apart.1 in
      ((apart_back cmp order w x (all_middle (λ (y : X). is_eq (cmp w y) ≡ false) xs x ys apart.0), rest.0), (all_but_middle (λ (y : X). is_eq (cmp w y) ≡ false) xs x ys apart.0, rest.1))

  all_with_middle : (P : X → Type 0) (xs : List X) (x : X) (ys : List X) → P x → AllByRecursion P (xs ++ ys) → AllByRecursion P (xs ++ x ∷ ys)
  all_with_middle P xs x ys itself all = all_append P xs (x ∷ ys) (all_front P xs ys all) (itself, all_back P xs ys all)

  pub apart_to_middle : (xs : List X) (x : X) (ys : List X) → AreApart cmp (x ∷ (xs ++ ys)) → AreApart cmp (xs ++ x ∷ ys)
  apart_to_middle [] x ys apart = apart
  apart_to_middle (w ∷ xs) x ys apart =
      (all_with_middle (λ (y : X). is_eq (cmp w y) ≡ false) xs x ys (apart_back cmp order x w apart.0.0) apart.1.0, apart_to_middle xs x ys (apart.0.1, apart.1.1))

  -- one more at the end
  pub apart_last : (xs : List X) (x : X) → IsApartFrom cmp x xs → AreApart cmp xs → AreApart cmp (xs ++ x ∷ [])
  apart_last [] x new apart = (tt, tt)
  apart_last (w ∷ xs) x new apart =
      (all_append (λ (y : X). is_eq (cmp w y) ≡ false) xs (x ∷ []) apart.0 (apart_back cmp order x w new.0, tt), apart_last xs x new.1 apart.1)

  -- two places whose items compare Equal are one
  pub apart_at : (xs : List X) → AreApart cmp xs → (i j : ℕ) (x y : X) → slice_get xs i ≡ Some x → slice_get xs j ≡ Some y → is_eq (cmp x y) ≡ true → i ≡ j
  apart_at [] apart i j x y first second ties = absurd (some_is_none x (sym first))
  apart_at (w ∷ xs) apart zero zero x y first second ties = refl
  apart_at (w ∷ xs) apart zero (suc j) x y first second ties =
      let there = all_at (λ (z : X). is_eq (cmp w z) ≡ false) xs j y apart.0 second in
      absurd (true≢false (sym ties ∙ subst (λ (z : X). is_eq (cmp z y) ≡ false) (same_Some w x first) there))
  apart_at (w ∷ xs) apart (suc i) zero x y first second ties =
      let there = apart_back cmp order w x (all_at (λ (z : X). is_eq (cmp w z) ≡ false) xs i x apart.0 first) in
      absurd (true≢false (sym ties ∙ subst (λ (z : X). is_eq (cmp x z) ≡ false) (same_Some w y second) there))
  apart_at (w ∷ xs) apart (suc i) (suc j) x y first second ties = ap suc (apart_at xs apart.1 i j x y first second ties)

  at_most_once : (xs : List X) → AreApart cmp xs → (z : X) → count_by (λ y. is_eq (cmp z y)) xs ≤ 1
  at_most_once [] apart z = omega arith
  at_most_once (x ∷ xs) apart z = by_test (at_most_once xs apart.1 z) (is_eq (cmp z x)) refl
    where
      test : X → Bool
      test y = is_eq (cmp z y)

      by_test : count_by test xs ≤ 1 → (b : Bool) → test x ≡ b → count_by test (x ∷ xs) ≤ 1
      by_test rest true ties =
          let none = count_none test xs (all_weaker (λ (y : X). is_eq (cmp x y) ≡ false) (λ (y : X). test y ≡ false) (λ y other. ap is_eq (order.congr z x y (equal_is (cmp z x) ties)) ∙ other) xs apart.0) in
          omega (arith, count_yes test x xs ties, none)
      by_test rest false other = omega (arith, count_no test x xs other, rest)

  apart_from_count : (xs : List X) → ((z : X) → count_by (λ y. is_eq (cmp z y)) xs ≤ 1) → AreApart cmp xs
  apart_from_count [] once = tt
  apart_from_count (x ∷ xs) once =
      let here = count_yes (λ (y : X). is_eq (cmp x y)) x xs (ap is_eq (tied_itself order x)) in
      (none_from_count (λ (y : X). is_eq (cmp x y)) xs (omega (arith, here, once x)), apart_from_count xs (λ z. by_test z (is_eq (cmp z x)) refl))
    where
      by_test : (z : X) (b : Bool) → is_eq (cmp z x) ≡ b → count_by (λ (y : X). is_eq (cmp z y)) xs ≤ 1
      by_test z true ties = omega (arith, count_yes (λ (y : X). is_eq (cmp z y)) x xs ties, once z)
      by_test z false other = omega (arith, count_no (λ (y : X). is_eq (cmp z y)) x xs other, once z)

  -- items apart stay so in any order
  pub apart_permuted : (xs ys : List X) → IsPermutation xs ys → AreApart cmp xs → AreApart cmp ys
  apart_permuted xs ys permuted apart =
      apart_from_count ys (λ z. omega (arith, sum_by-IsPermutation (λ (y : X). cond (is_eq (cmp z y)) 1 0) xs ys permuted, at_most_once xs apart z))
