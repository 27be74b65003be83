-- The number that digits write, read from the left.
use Rattle.std.proofs.Common.{◌≡◌, ℕ, zero, suc, ◌≤◌, ◌<◌, Bool, true, false, List, [], ◌∷◌, fold, length, drop, get_or, Some, None, refl, ap, sym, ◌∙◌, arith, drop-cons}
use Rattle.std.specs.Prelude.{nat_lt, if◌then◌else◌}
use Rattle.std.proofs.lemmas.Bool.{le-ltb, lt-ltb, ltb-false}
use Rattle.sql_parse.specs.Numbers.{with_digit, below}

-- It never falls as digits are read.
pub digits_grow : (n : ℕ) (bs : List ℕ) → n ≤ fold with_digit n bs
digits_grow n [] = omega arith
digits_grow n (b ∷ bs) = omega (arith, digits_grow (with_digit n b) bs)

-- A number that is not below a bound.
pub not_below : (most n : ℕ) → most ≤ n → below most n ≡ None
not_below most n over = ap (λ b. if b then Some n else None) (le-ltb n most over)

pub is_below : (most n : ℕ) → n < most → below most n ≡ Some n
is_below most n under = ap (λ b. if b then Some n else None) (lt-ltb n most under)

-- What has no 64 bits has none with more digits.
pub stays_large : (most n : ℕ) (bs : List ℕ) → below most n ≡ None → below most (fold with_digit n bs) ≡ None
stays_large most n bs none = not_below most (fold with_digit n bs) (omega (arith, over most n (nat_lt n most) refl none, digits_grow n bs)) where
  over : (most n : ℕ) (b : Bool) → nat_lt n most ≡ b → (if b then Some n else None) ≡ None → most ≤ n
  over most n true is none = absurd cc
  over most n false is none = ltb-false n most is

-- Behind the last digit nothing is left.
drop_past : {X : Type 0} (xs : List X) (i : ℕ) → length xs ≤ i → drop i xs ≡ []
drop_past [] zero le = refl
drop_past [] (suc i) le = refl
drop_past (x ∷ xs) zero le = absurd (omega (arith, le))
drop_past (x ∷ xs) (suc i) le = drop_past xs i (omega (arith, le))

-- The digit at a place makes the number too large, so the whole is.
pub stops : (most n : ℕ) (bs : List ℕ) (i d : ℕ) → i < length bs → None ≡ below most (with_digit n (get_or bs i d)) → below most (fold with_digit n (drop i bs)) ≡ None
stops most n bs i d lt none =
    ap (λ ds. below most (fold with_digit n ds)) (drop-cons bs i d lt)
    ∙ stays_large most (with_digit n (get_or bs i d)) (drop (suc i) bs) (sym none)

-- All digits are read.
pub is_read : (most n : ℕ) (bs : List ℕ) (i : ℕ) → length bs ≤ i → n < most → below most (fold with_digit n (drop i bs)) ≡ Some n
is_read most n bs i le lt = ap (λ ds. below most (fold with_digit n ds)) (drop_past bs i le) ∙ is_below most n lt
