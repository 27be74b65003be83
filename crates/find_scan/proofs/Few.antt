-- Numbers below a bound, of which no two are the same, are no more than the bound.
use Rattle.std.proofs.Common.{◌≡◌, ℕ, ◌<◌, ◌≤◌, Bool, true, false, not, eqb, nat_eq, List, [], ◌∷◌, length, ◌⊎◌, inl, inr, refl, sym, subst, suc, ◌||◌, arith}
use Rattle.std.specs.List.{All, AllByRecursion, IsDistinct, list_any}
use Rattle.std.proofs.lemmas.Bool.{false≢true, not-true, and_parts, or_cases, eqb-true, eqb-false, ne_eqb}
use Rattle.std.proofs.lemmas.Map.Steps.{length-le_from_distinct_below}
use Rattle.row_types.specs.declared.columns.Column.{Column}
use Rattle.row_types.specs.Valid.{are_distinct}
use Rattle.request_types.specs.Fits.{AreNumbers}

others_differ : (x : ℕ) (xs : List ℕ) → list_any (λ y. nat_eq y x) xs ≡ false → AllByRecursion (λ y. eqb x y ≡ false) xs
others_differ x [] none = tt
others_differ x (y ∷ ys) none = by_test (nat_eq y x) refl (others_differ x ys) none
  where
    by_test : (b : Bool) → nat_eq y x ≡ b → (list_any (λ z. nat_eq z x) ys ≡ false → AllByRecursion (λ z. eqb x z ≡ false) ys) → (b || list_any (λ z. nat_eq z x) ys) ≡ false → AllByRecursion (λ z. eqb x z ≡ false) (y ∷ ys)
    by_test true e rest none = absurd (false≢true (sym none))
    by_test false e rest none = (ne_eqb x y (λ same. eqb-false y x e (sym same)), rest none)

distinct_is : (xs : List ℕ) → are_distinct nat_eq xs ≡ true → IsDistinct eqb xs
unfolding IsDistinct
distinct_is [] distinct = tt
distinct_is (x ∷ xs) distinct =
    let both = and_parts (not (list_any (λ y. nat_eq y x) xs)) (are_distinct nat_eq xs) distinct in
    (others_differ x xs (not-true _ both.0), distinct_is xs both.1)

below_bound : (bound q : ℕ) (xs : List ℕ) → All (λ n. n < bound) xs → list_any (eqb q) xs ≡ true → q < bound
below_bound bound q [] all any = absurd (false≢true any)
below_bound bound q (x ∷ xs) all any = by_case (or_cases (eqb q x) (list_any (eqb q) xs) any) (below_bound bound q xs (λ i d lt. all (suc i) d (omega (arith, lt))))
  where
    by_case : (eqb q x ≡ true) ⊎ (list_any (eqb q) xs ≡ true) → (list_any (eqb q) xs ≡ true → q < bound) → q < bound
    by_case (inl same) rest = subst (λ (n : ℕ). n < bound) (sym (eqb-true q x same)) (all 0 x (omega arith))
    by_case (inr later) rest = rest later

pub few_numbers : (columns : List Column) (numbers : List ℕ) → AreNumbers columns numbers → length numbers ≤ length columns
few_numbers columns numbers are = length-le_from_distinct_below numbers (length columns) (distinct_is numbers are.once) (λ q any. below_bound (length columns) q numbers are.within any)
