-- The greatest of some numbers, and where it first stands.
--     best_push      one number more
use Rattle.std.proofs.Common.{◌≡◌, ℕ, zero, suc, ◌+◌, ◌<◌, ◌≤◌, max, ◌==◌, cond, Bool, true, false, ◌||◌, List, [], ◌∷◌, ◌++◌, length, fold, Option, Some, refl, sym, ap, ◌∙◌, arith, eqb-true, eq-eqb}
use Rattle.std.specs.List.{AllByRecursion, list_any, position_from}
use Rattle.std.proofs.lemmas.Bool.{true≢false, eqb-false}
use Rattle.std.proofs.lemmas.Option.{same_Some}
use Rattle.std.proofs.lemmas.List.Sums.{fold_push}
use Rattle.sql_plan.specs.Plans.{place_of}

module _ (test : ℕ → Bool) where
  -- where none passes, the first of more is the first of those
  place_behind : (n : ℕ) (xs : List ℕ) (y : ℕ) → AllByRecursion (λ x. test x ≡ false) xs → test y ≡ true → position_from test n (xs ++ y ∷ []) ≡ Some (n + length xs)
  place_behind n [] y none passes = rw passes (ap Some (omega arith))
  place_behind n (x ∷ xs) y none passes =
      let longer : n + 1 + length xs ≡ n + length (x ∷ xs) = omega arith in
      rw none.0 (place_behind (n + 1) xs y none.1 passes ∙ ap Some longer)

  -- where one passes, more behind change nothing
  place_before : (n : ℕ) (xs ys : List ℕ) → list_any test xs ≡ true → position_from test n (xs ++ ys) ≡ position_from test n xs
  place_before n [] ys some = absurd (true≢false (sym some))
  place_before n (x ∷ xs) ys some = by_test (place_before (n + 1) xs ys) (test x) refl some
    where
      by_test : (list_any test xs ≡ true → position_from test (n + 1) (xs ++ ys) ≡ position_from test (n + 1) xs) → (b : Bool) → test x ≡ b → (b || list_any test xs) ≡ true → position_from test n ((x ∷ xs) ++ ys) ≡ position_from test n (x ∷ xs)
      by_test rest true is any = rw is refl
      by_test rest false is any = rw is (rest any)

-- the greatest is at least each
all_below : (a : ℕ) (xs : List ℕ) → (a ≤ fold max a xs) × AllByRecursion (λ x. x ≤ fold max a xs) xs
all_below a [] = (omega arith, tt)
all_below a (x ∷ xs) =
    let rest = all_below (max a x) xs in
    (omega (arith, rest.0), (omega (arith, rest.0), rest.1))

-- and it is one of them, or the number that it began with
one_greatest : (a : ℕ) (xs : List ℕ) → (b : Bool) → list_any (λ x. x == fold max a xs) xs ≡ b → b ≡ false → fold max a xs ≡ a
one_greatest a [] b is none = refl
one_greatest a (x ∷ xs) b is none =
    let m = fold max (max a x) xs in
    let parts = neither (x == m) (list_any (λ y. y == m) xs) (is ∙ none) in
    let rest = one_greatest (max a x) xs false parts.1 refl in
    let other : x ≡ m → ⊥ = eqb-false x m parts.0 in
    omega (arith, rest, other)
  where
    neither : (c d : Bool) → (c || d) ≡ false → (c ≡ false) × (d ≡ false)
    neither true d e = absurd (true≢false e)
    neither false d e = (refl, e)

none_equal : (most more : ℕ) (xs : List ℕ) → AllByRecursion (λ x. x ≤ most) xs → most < more → AllByRecursion (λ x. (x == more) ≡ false) xs
none_equal most more [] below less = tt
none_equal most more (x ∷ xs) below less = (differs (x == more) refl, none_equal most more xs below.1 less)
  where
    differs : (b : Bool) → (x == more) ≡ b → (x == more) ≡ false
    differs true is = absurd (let e = eqb-true x more is in omega (arith, e, below.0))
    differs false is = is

abbrev pub best_in : List ℕ → Option ℕ
best_in ranks = place_of (fold max 0 ranks) ranks

pub most_push : (ranks : List ℕ) (rank : ℕ) → fold max 0 (ranks ++ rank ∷ []) ≡ max (fold max 0 ranks) rank
most_push ranks rank = fold_push max 0 ranks rank

-- a greater one is the best
pub best_more : (ranks : List ℕ) (rank : ℕ) → fold max 0 ranks < rank → best_in (ranks ++ rank ∷ []) ≡ Some (length ranks)
best_more ranks zero more = absurd (omega (arith, more))
best_more ranks (suc rank) more =
    let most : fold max 0 (ranks ++ suc rank ∷ []) ≡ suc rank = most_push ranks (suc rank) ∙ omega (arith, more) in
    ap (λ (m : ℕ). place_of m (ranks ++ suc rank ∷ [])) most
    ∙ place_behind (λ x. x == suc rank) 0 ranks (suc rank) (none_equal (fold max 0 ranks) (suc rank) ranks (all_below 0 ranks).1 more) (eq-eqb (suc rank) (suc rank) refl)
    ∙ ap Some (omega arith)

-- any other changes nothing
pub best_same : (ranks : List ℕ) (rank : ℕ) → rank ≤ fold max 0 ranks → best_in (ranks ++ rank ∷ []) ≡ best_in ranks
best_same ranks rank less =
    let most : fold max 0 (ranks ++ rank ∷ []) ≡ fold max 0 ranks = most_push ranks rank ∙ omega (arith, less) in
    ap (λ (m : ℕ). place_of m (ranks ++ rank ∷ [])) most ∙ by_most (fold max 0 ranks) refl
  where
    by_most : (m : ℕ) → fold max 0 ranks ≡ m → place_of m (ranks ++ rank ∷ []) ≡ place_of m ranks
    by_most zero is = refl
    by_most (suc m) is = place_before (λ x. x == suc m) 0 ranks (rank ∷ []) (there (list_any (λ x. x == fold max 0 ranks) ranks) refl)
      where
        there : (b : Bool) → list_any (λ x. x == fold max 0 ranks) ranks ≡ b → list_any (λ x. x == suc m) ranks ≡ true
        there true some = ap (λ (n : ℕ). list_any (λ x. x == n) ranks) (sym is) ∙ some
        there false none = absurd (let e = one_greatest 0 ranks false none refl in omega (arith, e, is))

-- the best is one of them
place_within : (test : ℕ → Bool) (n : ℕ) (xs : List ℕ) (k : ℕ) → position_from test n xs ≡ Some k → k < n + length xs
place_within test n [] k found = absurd cc
place_within test n (x ∷ xs) k found = by_test (place_within test (n + 1) xs k) (test x) found
  where
    by_test : (position_from test (n + 1) xs ≡ Some k → k < n + 1 + length xs) → (b : Bool) → cond b (Some n) (position_from test (n + 1) xs) ≡ Some k → k < n + length (x ∷ xs)
    by_test rest true is = let same = same_Some n k is in omega (arith, same)
    by_test rest false is = let within = rest is in omega (arith, within)

pub best_within : (ranks : List ℕ) (k : ℕ) → best_in ranks ≡ Some k → k < length ranks
best_within ranks k found = by_most (fold max 0 ranks) found
  where
    by_most : (m : ℕ) → place_of m ranks ≡ Some k → k < length ranks
    by_most zero none = absurd cc
    by_most (suc m) there = omega (arith, place_within (λ x. x == suc m) 0 ranks k there)
