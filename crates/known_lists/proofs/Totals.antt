-- Sums over a list of which one item changes, and lists read at a place.
use Rattle.std.proofs.Common.{◌≡◌, ◌≢◌, ◌⊎◌, ℕ, zero, suc, ◌+◌, ◌<◌, ◌≤◌, List, [], ◌∷◌, ◌++◌, length, get_or, set, inl, inr, ⊎_elim, refl, sym, ap, subst, arith}
use mathlib.Core.Option.{some, some-injective, some-ne-none}
use lib.ListN.{get_elem?}
use Rattle.atomic_table.proofs.Lists.{at_set}
use Rattle.known_lists.specs.Lists.{total}

-- a word that is read and written back
pub set_back : (l : List ℕ) (i : ℕ) → set l i (get_or l i 0) ≡ l
set_back [] i = refl
set_back (x ∷ xs) zero = refl
set_back (x ∷ xs) (suc i) = ap (λ (t : List ℕ). x ∷ t) (set_back xs i)

module _ {A : Type 0} where
  pub within : (l : List A) (i : ℕ) (a : A) → get_elem? l i ≡ some a → i < length l
  within [] i a e = absurd (some-ne-none a (sym e))
  within (x ∷ xs) zero a e = omega arith
  within (x ∷ xs) (suc i) a e = let h = within xs i a e in omega arith

  -- where the last item of a longer list stands
  pub at_end : (l : List A) (a b : A) (j : ℕ) → get_elem? (l ++ a ∷ []) j ≡ some b → (get_elem? l j ≡ some b) ⊎ ((j ≡ length l) × (a ≡ b))
  at_end [] a b zero e = inr (refl, some-injective a b e)
  at_end [] a b (suc j) e = absurd (some-ne-none b (sym e))
  at_end (x ∷ xs) a b zero e = inl e
  at_end (x ∷ xs) a b (suc j) e = ⊎_elim (λ h. inl h) (λ t. inr (ap suc t.0, t.1)) (at_end xs a b j e)

  -- what holds of the new item and of the others holds of each
  pub over : (P : ℕ → A → Type 0) (l : List A) (i : ℕ) (w : A) → P i w → ((j : ℕ) (u : A) → j ≢ i → get_elem? l j ≡ some u → P j u) → (j : ℕ) (u : A) → get_elem? (set l i w) j ≡ some u → P j u
  over P l i w mine others j u e =
      ⊎_elim (λ (t : (j ≡ i) × (w ≡ u)). subst (λ (z : ℕ × A). P z.0 z.1) (λ k. (sym t.0 k, t.1 k)) mine) (λ (t : (j ≢ i) × (get_elem? l j ≡ some u)). others j u t.0 t.1) (at_set l i j w u e)

  -- the same, where the list got longer
  pub over_end : (P : ℕ → A → Type 0) (l : List A) (a : A) → P (length l) a → ((j : ℕ) (u : A) → get_elem? l j ≡ some u → P j u) → (j : ℕ) (u : A) → get_elem? (l ++ a ∷ []) j ≡ some u → P j u
  over_end P l a new others j u e =
      ⊎_elim (λ (h : get_elem? l j ≡ some u). others j u h) (λ (t : (j ≡ length l) × (a ≡ u)). subst (λ (z : ℕ × A). P z.0 z.1) (λ k. (sym t.0 k, t.1 k)) new) (at_end l a u j e)

  module _ (f : A → ℕ) where
    pub total_set : (l : List A) (i : ℕ) (v w : A) → get_elem? l i ≡ some v → total f (set l i w) + f v ≡ total f l + f w
    total_set [] i v w e = absurd (some-ne-none v (sym e))
    total_set (x ∷ xs) zero v w e = let same : f x ≡ f v = ap f (some-injective x v e) in omega arith
    total_set (x ∷ xs) (suc i) v w e = let h = total_set xs i v w e in omega arith

    pub total_snoc : (l : List A) (a : A) → total f (l ++ a ∷ []) ≡ total f l + f a
    total_snoc [] a = omega arith
    total_snoc (x ∷ xs) a = let h = total_snoc xs a in omega arith

    pub total_one : (l : List A) (i : ℕ) (v : A) → get_elem? l i ≡ some v → f v ≤ total f l
    total_one [] i v e = absurd (some-ne-none v (sym e))
    total_one (x ∷ xs) zero v e = let same : f x ≡ f v = ap f (some-injective x v e) in omega arith
    total_one (x ∷ xs) (suc i) v e = let h = total_one xs i v e in omega arith

    pub total_two : (l : List A) (i j : ℕ) (v w : A) → i ≢ j → get_elem? l i ≡ some v → get_elem? l j ≡ some w → f v + f w ≤ total f l
    total_two [] i j v w n e d = absurd (some-ne-none v (sym e))
    total_two (x ∷ xs) zero zero v w n e d = absurd (n refl)
    total_two (x ∷ xs) zero (suc j) v w n e d = let same : f x ≡ f v = ap f (some-injective x v e) in let h = total_one xs j w d in omega arith
    total_two (x ∷ xs) (suc i) zero v w n e d = let same : f x ≡ f w = ap f (some-injective x w d) in let h = total_one xs i v e in omega arith
    total_two (x ∷ xs) (suc i) (suc j) v w n e d = let h = total_two xs i j v w (λ k. n (ap suc k)) e d in omega arith

    pub total_few : (l : List A) → ((v : A) → f v ≤ 1) → total f l ≤ length l
    total_few [] h = omega arith
    total_few (x ∷ xs) h = let a = h x in let b = total_few xs h in omega arith
