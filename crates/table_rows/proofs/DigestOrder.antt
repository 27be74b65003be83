-- Digests go by the order of values, so where two differ they tell which value comes first.
use Rattle.std.proofs.Common.{◌≡◌, ℕ, zero, suc, ◌+◌, ◌-◌, ◌*◌, ◌^◌, min, ◌<◌, ◌≤◌, Bool, true, false, cond, nat_lt, List, [], ◌∷◌, ℤ, pos, negsuc, sym, refl, ap, subst, arith}
use Rattle.std.specs.declared.cmp.Ordering.{Ordering}
use Rattle.std.specs.declared.cmp.Ordering.TheVariants.{Less, Equal, Greater}
use Rattle.std.specs.Ordering.{MatchOrdering, ordering_then, nat_cmp, int_cmp, is_gt}
use Rattle.std.specs.Cmp.{ranks, int_ranks}
use Rattle.std.specs.Cmp.Lexicographic.{slice_cmp}
use Rattle.std.specs.Int.Signed.{◌<ℤ◌}
use Rattle.std.proofs.lemmas.Bool.{true≢false, ltb-true, ltb-false, le-ltb, cond-false}
use Rattle.std.proofs.lemmas.Int.{ints}
use Rattle.std.proofs.Math.Nat.{pow-suc, mul-le-mul_right}
use Rattle.row_types.specs.declared.values.Value.{Value}
use Rattle.row_types.specs.declared.values.Value.TheVariants.{Null, Int, Text}
use Rattle.row_types.specs.Order.{value_cmp, key_cmp, prefix_cmp}
use Rattle.row_types.proofs.Orders.{value_cmp_total, value_cmp-exact}
use Rattle.index_tree.proofs.Ascending.{less_back}
use Rattle.table_rows.specs.Digests.{number_digest, front, digest_of, key_digest}
use Rattle.table_rows.specs.StoreInside.{stands}
use Rattle.table_rows.specs.Marks.{by_digest}

-- there is a number of so many digits
some_number : (n : ℕ) → 0 < 256 ^ n
some_number zero = omega arith
some_number (suc n) = omega (arith, pow-suc 256 n, some_number n)

-- the first bytes are a number of so many digits
front_below : (n : ℕ) (text : List ℕ) → front n text < 256 ^ n
front_below zero text = omega arith
front_below (suc n) [] = some_number (suc n)
front_below (suc n) (b ∷ text) = by_byte (front_below n text) (nat_lt b 256) refl
  where
    by_byte : front n text < 256 ^ n → (t : Bool) → nat_lt b 256 ≡ t → cond t (b * 256 ^ n + front n text) (256 ^ suc n - 1) < 256 ^ suc n
    by_byte rest true is = omega (arith, rest, pow-suc 256 n, mul-le-mul_right (256 ^ n) (byte_is is))
      where
        byte_is : nat_lt b 256 ≡ true → b ≤ 255
        byte_is is = omega (arith, ltb-true b 256 is)
    by_byte rest false is = omega (arith, some_number (suc n))

module _ (n x y : ℕ) (s t : List ℕ) where
  -- a lower first byte
  lower_first : x < y → front (suc n) (x ∷ s) ≤ front (suc n) (y ∷ t)
  lower_first less = by_bytes (nat_lt x 256) (nat_lt y 256) refl refl
    where
      by_bytes : (p q : Bool) → nat_lt x 256 ≡ p → nat_lt y 256 ≡ q → cond p (x * 256 ^ n + front n s) (256 ^ suc n - 1) ≤ cond q (y * 256 ^ n + front n t) (256 ^ suc n - 1)
      by_bytes true true is_x is_y = omega (arith, front_below n s, mul-le-mul_right {m = x + 1} {n = y} (256 ^ n) (omega (arith, less)))
      by_bytes true false is_x is_y = whole (front_below (suc n) (x ∷ s))
        where
          whole : front (suc n) (x ∷ s) < 256 ^ suc n → x * 256 ^ n + front n s ≤ 256 ^ suc n - 1
          whole = rw is_x (λ below. omega (arith, below))
      by_bytes false true is_x is_y = absurd (omega (arith, less, ltb-false x 256 is_x, ltb-true y 256 is_y))
      by_bytes false false is_x is_y = omega arith

  -- the same first byte
  same_first : x ≡ y → front n s ≤ front n t → front (suc n) (x ∷ s) ≤ front (suc n) (y ∷ t)
  same_first same rest = subst (λ (z : ℕ). front (suc n) (x ∷ s) ≤ front (suc n) (z ∷ t)) same (by_byte (nat_lt x 256))
    where
      by_byte : (p : Bool) → cond p (x * 256 ^ n + front n s) (256 ^ suc n - 1) ≤ cond p (x * 256 ^ n + front n t) (256 ^ suc n - 1)
      by_byte true = omega (arith, rest)
      by_byte false = omega arith

front_upto : (n : ℕ) (s t : List ℕ) → is_gt (slice_cmp nat_cmp s t) ≡ false → front n s ≤ front n t
front_upto zero s t upto = omega arith
front_upto (suc n) [] t upto = omega arith
front_upto (suc n) (x ∷ s) [] upto = absurd (true≢false upto)
front_upto (suc n) (x ∷ s) (y ∷ t) upto = by_first (nat_cmp x y) (ranks x y) (front_upto n s t) upto
  where
    by_first : (o : Ordering) → MatchOrdering o (x < y) (x ≡ y) (y < x) → (is_gt (slice_cmp nat_cmp s t) ≡ false → front n s ≤ front n t) → is_gt (ordering_then o (slice_cmp nat_cmp s t)) ≡ false → front (suc n) (x ∷ s) ≤ front (suc n) (y ∷ t)
    by_first Less less rest upto = lower_first n x y s t less
    by_first Equal same rest upto = same_first n x y s t same (rest upto)
    by_first Greater more rest upto = absurd (true≢false upto)

above_zero : (n : ℕ) → number_digest (pos n) ≡ 2 ^ 61 + min n (2 ^ 61)
above_zero n = cond-false _ _ _ (le-ltb n 0 (omega arith))

below_zero : (n : ℕ) → number_digest (negsuc n) ≡ 2 ^ 61 - min (suc n) (2 ^ 61 - 1)
below_zero n = refl

less_number : (m n : ℤ) → m <ℤ n → number_digest m ≤ number_digest n
less_number (pos m) (pos n) less = omega (arith, ints, less, above_zero m, above_zero n)
less_number (pos m) (negsuc n) less = absurd (omega (arith, ints, less))
less_number (negsuc m) (pos n) less = omega (arith, below_zero m, above_zero n)
less_number (negsuc m) (negsuc n) less = omega (arith, ints, less, below_zero m, below_zero n)

number_some : (n : ℤ) → (0 < number_digest n) × (number_digest n ≤ 2 ^ 62)
number_some (pos n) = (omega (arith, above_zero n), omega (arith, above_zero n))
number_some (negsuc n) = (omega (arith, below_zero n), omega (arith, below_zero n))

number_upto : (m n : ℤ) → is_gt (int_cmp m n) ≡ false → number_digest m ≤ number_digest n
number_upto m n upto = by_order (int_cmp m n) (int_ranks m n) upto
  where
    by_order : (o : Ordering) → MatchOrdering o (m <ℤ n) (m ≡ n) (n <ℤ m) → is_gt o ≡ false → number_digest m ≤ number_digest n
    by_order Less less upto = less_number m n less
    by_order Equal same upto = subst (λ (k : ℤ). number_digest m ≤ number_digest k) same (omega arith)
    by_order Greater more upto = absurd (true≢false upto)

-- what comes no later has no higher digest
pub digest_upto : (a b : Value) → is_gt (value_cmp a b) ≡ false → digest_of a ≤ digest_of b
digest_upto Null b upto = omega arith
digest_upto (Int m) Null upto = absurd (true≢false upto)
digest_upto (Int m) (Int n) upto = number_upto m n upto
digest_upto (Int m) (Text t) upto = omega (arith, (number_some m).1)
digest_upto (Text s) Null upto = absurd (true≢false upto)
digest_upto (Text s) (Int n) upto = absurd (true≢false upto)
digest_upto (Text s) (Text t) upto = omega (arith, front_upto 7 s t upto)

-- a digest has 64 bits
pub digest_below : (v : Value) → digest_of v < 2 ^ 64
digest_below Null = omega arith
digest_below (Int n) = omega (arith, (number_some n).1)
digest_below (Text t) = omega (arith, front_below 7 t)

lower_value : (a b : Value) → digest_of a < digest_of b → value_cmp a b ≡ Less
lower_value a b lower = by_order (value_cmp a b) refl
  where
    by_order : (o : Ordering) → value_cmp a b ≡ o → o ≡ Less
    by_order Less is = refl
    by_order Equal is = absurd (omega (arith, lower, ap digest_of (value_cmp-exact a b is)))
    by_order Greater is = absurd (omega (arith, lower, digest_upto b a (ap is_gt (less_back value_cmp value_cmp_total a b is))))

higher_value : (a b : Value) → digest_of b < digest_of a → value_cmp a b ≡ Greater
higher_value a b higher = by_order (value_cmp a b) refl
  where
    by_order : (o : Ordering) → value_cmp a b ≡ o → o ≡ Greater
    by_order Less is = absurd (omega (arith, higher, digest_upto a b (ap is_gt is)))
    by_order Equal is = absurd (omega (arith, higher, ap digest_of (value_cmp-exact a b is)))
    by_order Greater is = refl

ahead_when_lower : (through : Bool) (cs vs : List Value) → key_digest false cs < key_digest through vs → stands through (prefix_cmp cs vs) ≡ true
ahead_when_lower true cs [] lower = refl
ahead_when_lower false cs [] lower = absurd (omega (arith, lower))
ahead_when_lower true [] (v ∷ vs) lower = refl
ahead_when_lower false [] (v ∷ vs) lower = refl
ahead_when_lower through (c ∷ cs) (v ∷ vs) lower = rw (lower_value c v lower) (by_side through)
  where
    by_side : (t : Bool) → stands t Less ≡ true
    by_side true = refl
    by_side false = refl

past_when_higher : (through : Bool) (cs vs : List Value) → key_digest through vs < key_digest false cs → stands through (prefix_cmp cs vs) ≡ false
past_when_higher true [] [] higher = absurd (omega (arith, higher))
past_when_higher true (c ∷ cs) [] higher = absurd (omega (arith, higher, digest_below c))
past_when_higher false cs [] higher = refl
past_when_higher through [] (v ∷ vs) higher = absurd (omega (arith, higher))
past_when_higher through (c ∷ cs) (v ∷ vs) higher = rw (higher_value c v higher) (by_side through)
  where
    by_side : (t : Bool) → stands t Greater ≡ false
    by_side true = refl
    by_side false = refl

-- the digests tell of a cut no other than the cells do
pub told_by_digests : (through : Bool) (cs vs : List Value) → by_digest (nat_cmp (key_digest false cs) (key_digest through vs)) (stands through (prefix_cmp cs vs)) ≡ stands through (prefix_cmp cs vs)
told_by_digests through cs vs = by_order (nat_cmp (key_digest false cs) (key_digest through vs)) (ranks (key_digest false cs) (key_digest through vs))
  where
    by_order : (o : Ordering) → MatchOrdering o (key_digest false cs < key_digest through vs) (key_digest false cs ≡ key_digest through vs) (key_digest through vs < key_digest false cs) → by_digest o (stands through (prefix_cmp cs vs)) ≡ stands through (prefix_cmp cs vs)
    by_order Less lower = sym (ahead_when_lower through cs vs lower)
    by_order Equal same = refl
    by_order Greater higher = sym (past_when_higher through cs vs higher)

-- keys that compare Equal have one digest
pub same_digest : (a b : List Value) → key_cmp a b ≡ Equal → key_digest false a ≡ key_digest false b
same_digest [] [] equal = refl
same_digest [] (y ∷ b) equal = absurd cc
same_digest (x ∷ a) [] equal = absurd cc
same_digest (x ∷ a) (y ∷ b) equal = by_first (value_cmp x y) refl equal
  where
    by_first : (o : Ordering) → value_cmp x y ≡ o → ordering_then o (key_cmp a b) ≡ Equal → digest_of x ≡ digest_of y
    by_first Less is equal = absurd cc
    by_first Equal is equal = ap digest_of (value_cmp-exact x y is)
    by_first Greater is equal = absurd cc
