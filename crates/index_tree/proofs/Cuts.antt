-- Where a list that a test parts splits into those that pass and those that don't.
--     IsCut test xs cut      the first so many pass, and no other does
--     Falls test xs          what follows one that fails fails too
--     parted_from_falls, falls_from_parted      such lists are the parted ones
--     parted_at_end      the cuts in front of all items and behind them all
--     cut_at_count, partitioned, count_in_slice      the cut is the number of those that pass, and a search by halves finds it
--     front_is, rest_is, front_before, rest_behind, put_is      those that pass, those that don't, and one put between
--     first_place_is, last_place_is      the first that fails, and the last that passes
use Rattle.std.proofs.Common.{◌≡◌, ℕ, zero, suc, ◌-◌, ◌<◌, ◌≤◌, Bool, true, false, not, cond, List, [], ◌∷◌, ◌++◌, length, get_or, take, drop, Some, None, filter, count_by, nat_lt, sym, refl, ap, subst, ◌∙◌, arith}
use Rattle.std.specs.List.{AllByRecursion, AllWithin, insert}
use Rattle.std.specs.List.Sorted.{IsPartitionPoint, IsPartitionedBy}
use Rattle.std.proofs.lemmas.Bool.{true≢false, cond-true, lt-ltb}
use Rattle.std.proofs.lemmas.Bool.Decides.{nat_tests}
use Rattle.std.proofs.lemmas.List.{take-append-drop}
use Rattle.std.proofs.lemmas.List.Elements.{All-from_recursion}
use Rattle.std.proofs.lemmas.List.Sums.{sum_by-cons}
use Rattle.index_tree.specs.Contents.{one_before}
use Rattle.index_tree.specs.Parts.{IsParted, put_between, first_place, last_place}
use Rattle.index_tree.proofs.Elements.{all_pass}

module _ {X : Type 0} (test : X → Bool) where
  -- the first so many pass the test, and no other does
  abbrev pub IsCut : List X → ℕ → Type 0
  IsCut [] cut = cut ≡ 0
  IsCut (x ∷ xs) zero = AllByRecursion (λ y. test y ≡ false) (x ∷ xs)
  IsCut (x ∷ xs) (suc cut) = (test x ≡ true) × IsCut xs cut

  -- an element that fails is followed by ones that fail
  abbrev pub Falls : List X → Type 0
  Falls [] = Unit {0}
  Falls (x ∷ xs) = (test x ≡ false → AllByRecursion (λ y. test y ≡ false) xs) × Falls xs

  pub count_yes : (x : X) (xs : List X) → test x ≡ true → count_by test (x ∷ xs) ≡ suc (count_by test xs)
  count_yes x xs passes = let e : cond {A = ℕ} (test x) 1 0 ≡ 1 = rw passes refl in omega (arith, sum_by-cons (λ (y : X). cond (test y) 1 0) x xs, e)

  pub count_no : (x : X) (xs : List X) → test x ≡ false → count_by test (x ∷ xs) ≡ count_by test xs
  count_no x xs fails = let e : cond {A = ℕ} (test x) 1 0 ≡ 0 = rw fails refl in omega (arith, sum_by-cons (λ (y : X). cond (test y) 1 0) x xs, e)

  pub count_none : (xs : List X) → AllByRecursion (λ y. test y ≡ false) xs → count_by test xs ≡ 0
  count_none [] none = refl
  count_none (x ∷ xs) none = count_no x xs none.0 ∙ count_none xs none.1

  pub none_from_count : (xs : List X) → count_by test xs ≡ 0 → AllByRecursion (λ y. test y ≡ false) xs
  none_from_count [] none = tt
  none_from_count (x ∷ xs) none = by_test (none_from_count xs) (test x) refl
    where
      by_test : (count_by test xs ≡ 0 → AllByRecursion (λ (y : X). test y ≡ false) xs) → (b : Bool) → test x ≡ b → AllByRecursion (λ (y : X). test y ≡ false) (x ∷ xs)
      by_test rest true passes = absurd (omega (arith, count_yes x xs passes, none))
      by_test rest false fails = (fails, rest (sym (count_no x xs fails) ∙ none))

  cut_step : (x : X) (xs : List X) → Falls (x ∷ xs) → IsCut xs (count_by test xs) → (b : Bool) → test x ≡ b → IsCut (x ∷ xs) (count_by test (x ∷ xs))
  cut_step x xs falls rest true passes = let e = count_yes x xs passes in subst (IsCut (x ∷ xs)) (sym e) (passes, rest)
  cut_step x xs falls rest false fails = let none = falls.0 fails in let e = count_no x xs fails ∙ count_none xs none in subst (IsCut (x ∷ xs)) (sym e) (fails, none)

  -- where those that fail stand last, the cut is the number of those that pass
  pub cut_at_count : (xs : List X) → Falls xs → IsCut xs (count_by test xs)
  cut_at_count [] falls = refl
  cut_at_count (x ∷ xs) falls = cut_step x xs falls (cut_at_count xs falls.1) (test x) refl

  none_from_within : (xs : List X) → AllWithin (λ y. test y ≡ false) xs 0 (length xs) → AllByRecursion (λ y. test y ≡ false) xs
  none_from_within [] within = tt
  none_from_within (x ∷ xs) within = (within 0 x (omega arith) (omega arith), none_from_within xs (λ k d low high. within (suc k) d (omega arith) (omega arith)))

  -- a partition point is the number of those that pass
  pub count_at_point : (xs : List X) (cut : ℕ) → cut ≤ length xs → IsPartitionPoint (λ y. test y ≡ true) (λ y. test y ≡ false) xs cut → count_by test xs ≡ cut
  count_at_point [] cut bound point = omega (arith, bound)
  count_at_point (x ∷ xs) zero bound point = count_none (x ∷ xs) (none_from_within (x ∷ xs) point.1)
  count_at_point (x ∷ xs) (suc cut) bound point =
      let first : test x ≡ true = point.0 0 x (omega arith) (omega arith) in
      let rest : count_by test xs ≡ cut = count_at_point xs cut (omega (arith, bound)) (λ k d low high. point.0 (suc k) d (omega arith) (omega arith), λ k d low high. point.1 (suc k) d (omega arith) (omega arith)) in
      count_yes x xs first ∙ ap suc rest

  -- the same, at a slice of the list
  pub count_in_slice : (xs slice : List X) (cut : ℕ) → slice ≡ xs → cut ≤ length slice → IsPartitionPoint (λ y. test y ≡ true) (λ y. test y ≡ false) slice cut → cut ≡ count_by test xs
  count_in_slice xs slice cut same bound point = sym (subst (λ (ys : List X). count_by test ys ≡ cut) same (count_at_point slice cut bound point))

  pub filter_none : (xs : List X) → AllByRecursion (λ y. test y ≡ false) xs → filter test xs ≡ []
  filter_none [] none = refl
  filter_none (x ∷ xs) none = rw none.0 (filter_none xs none.1)

  pub filter_all : (xs : List X) → AllByRecursion (λ y. test y ≡ true) xs → filter test xs ≡ xs
  filter_all [] all = refl
  filter_all (x ∷ xs) all = rw all.0 (ap (λ (ys : List X). x ∷ ys) (filter_all xs all.1))

  pub cut_none : (xs : List X) → AllByRecursion (λ y. test y ≡ false) xs → IsCut xs 0
  cut_none [] none = refl
  cut_none (x ∷ xs) none = none

  pub rest_all : (xs : List X) → AllByRecursion (λ y. test y ≡ false) xs → filter (λ y. not (test y)) xs ≡ xs
  rest_all [] none = refl
  rest_all (x ∷ xs) none = rw none.0 (ap (λ (ys : List X). x ∷ ys) (rest_all xs none.1))

  -- those that pass are the front
  pub front_is : (xs : List X) (cut : ℕ) → IsCut xs cut → filter test xs ≡ take cut xs
  front_is [] zero is_cut = refl
  front_is [] (suc cut) is_cut = refl
  front_is (x ∷ xs) zero is_cut = filter_none (x ∷ xs) is_cut
  front_is (x ∷ xs) (suc cut) is_cut = rw is_cut.0 (ap (λ (ys : List X). x ∷ ys) (front_is xs cut is_cut.1))

  -- those that fail are the rest
  pub rest_is : (xs : List X) (cut : ℕ) → IsCut xs cut → filter (λ y. not (test y)) xs ≡ drop cut xs
  rest_is [] zero is_cut = refl
  rest_is [] (suc cut) is_cut = refl
  rest_is (x ∷ xs) zero is_cut = rest_all (x ∷ xs) is_cut
  rest_is (x ∷ xs) (suc cut) is_cut = rw is_cut.0 (rest_is xs cut is_cut.1)

  pub parted_at_cut : (xs : List X) (cut : ℕ) → IsCut xs cut → IsParted test xs
  parted_at_cut xs cut is_cut = rw (front_is xs cut is_cut, rest_is xs cut is_cut) (take-append-drop cut xs)

  pub parted_from_falls : (xs : List X) → Falls xs → IsParted test xs
  parted_from_falls xs falls = parted_at_cut xs _ (cut_at_count xs falls)

  -- where one that fails stands first, none passes
  head_of_front : (x : X) (xs front back : List X) → AllByRecursion (λ y. test y ≡ true) front → test x ≡ false → front ++ back ≡ x ∷ xs → (front ≡ []) × (back ≡ x ∷ xs)
  head_of_front x xs [] back pass fails e = (refl, e)
  head_of_front x xs (y ∷ ys) back pass fails e = let same : y ≡ x = cc in absurd (true≢false (sym pass.0 ∙ ap test same ∙ fails))

  all_fail : (xs : List X) → filter test xs ≡ [] → AllByRecursion (λ y. test y ≡ false) xs
  all_fail [] e = tt
  all_fail (x ∷ xs) e = by_test (all_fail xs) (test x) refl e
    where
      by_test : (filter test xs ≡ [] → AllByRecursion (λ (y : X). test y ≡ false) xs) → (b : Bool) → test x ≡ b → cond b (x ∷ filter test xs) (filter test xs) ≡ [] → AllByRecursion (λ (y : X). test y ≡ false) (x ∷ xs)
      by_test rest true passes e = absurd cc
      by_test rest false fails e = (fails, rest e)

  -- a parted list has those that fail last
  pub falls_from_parted : (xs : List X) → IsParted test xs → Falls xs
  falls_from_parted [] parted = tt
  falls_from_parted (x ∷ xs) parted = by_test (falls_from_parted xs) (test x) refl parted
    where
      by_test : (IsParted test xs → Falls xs) → (b : Bool) → test x ≡ b → cond b (x ∷ filter test xs) (filter test xs) ++ cond (not b) (x ∷ filter (λ (y : X). not (test y)) xs) (filter (λ (y : X). not (test y)) xs) ≡ x ∷ xs → Falls (x ∷ xs)
      by_test rest true passes e = (λ fails. absurd (true≢false (sym passes ∙ fails)), rest cc)
      by_test rest false fails e =
          let split = head_of_front x xs (filter test xs) (x ∷ filter (λ (y : X). not (test y)) xs) (all_pass test xs) fails e in
          let none = all_fail xs split.0 in
          let whole : IsParted test xs = rw (filter_none xs none) (rest_all xs none) in
          (λ _. none, rest whole)

  passes_before : (xs : List X) → Falls xs → (i j : ℕ) (d : X) → i ≤ j → j < length xs → test (get_or xs j d) ≡ true → test (get_or xs i d) ≡ true
  passes_before [] falls i j d low high passes = absurd (omega arith)
  passes_before (x ∷ xs) falls zero zero d low high passes = passes
  passes_before (x ∷ xs) falls (suc i) zero d low high passes = absurd (omega arith)
  passes_before (x ∷ xs) falls (suc i) (suc j) d low high passes = passes_before xs falls.1 i j d (omega arith) (omega arith) passes
  passes_before (x ∷ xs) falls zero (suc j) d low high passes = by_test (test x) refl
    where
      by_test : (b : Bool) → test x ≡ b → test x ≡ true
      by_test true e = e
      by_test false e = absurd (true≢false (sym passes ∙ All-from_recursion (λ (y : X). test y ≡ false) xs (falls.0 e) j d (omega arith)))

  -- what a search by halves asks of the test
  pub partitioned : (xs : List X) → IsParted test xs → IsPartitionedBy test xs
  partitioned xs parted = passes_before xs (falls_from_parted xs parted)

  -- the first so many of a parted list pass, and no other does
  pub cut_of_parted : (xs : List X) → IsParted test xs → IsCut xs (count_by test xs)
  cut_of_parted xs parted = cut_at_count xs (falls_from_parted xs parted)

  -- one put at the cut stands between those that pass and the others
  pub put_is : (x : X) (xs : List X) → IsParted test xs → (cut : ℕ) → cut ≡ count_by test xs → insert xs cut x ≡ put_between test x xs
  put_is x xs parted cut counted =
      let is_cut = subst (IsCut xs) (sym counted) (cut_of_parted xs parted) in
      rw (front_is xs cut is_cut, rest_is xs cut is_cut) refl

  -- those before the cut, and those behind it
  pub front_before : (xs : List X) → IsParted test xs → (cut : ℕ) → cut ≡ count_by test xs → filter test xs ≡ take cut xs
  front_before xs parted cut counted = front_is xs cut (subst (IsCut xs) (sym counted) (cut_of_parted xs parted))

  pub rest_behind : (xs : List X) → IsParted test xs → (cut : ℕ) → cut ≡ count_by test xs → filter (λ y. not (test y)) xs ≡ drop cut xs
  rest_behind xs parted cut counted = rest_is xs cut (subst (IsCut xs) (sym counted) (cut_of_parted xs parted))

  last_none : (xs : List X) → AllByRecursion (λ y. test y ≡ false) xs → last_place test xs ≡ None
  last_none [] none = refl
  last_none (x ∷ xs) none = rw (last_none xs none.1, none.0) refl

  -- the last that passes stands just before the cut
  pub last_place_is : (xs : List X) (cut : ℕ) → IsCut xs cut → last_place test xs ≡ one_before cut
  last_place_is [] cut is_cut = rw is_cut refl
  last_place_is (x ∷ xs) zero is_cut = last_none (x ∷ xs) is_cut
  last_place_is (x ∷ xs) (suc zero) is_cut = rw (last_place_is xs zero is_cut.1, is_cut.0) refl
  last_place_is (x ∷ xs) (suc (suc cut)) is_cut = rw (last_place_is xs (suc cut) is_cut.1) refl

  -- the first that fails stands right behind it
  pub first_place_is : (xs : List X) (cut : ℕ) → IsCut xs cut → first_place (λ y. not (test y)) xs ≡ cond (nat_lt cut (length xs)) (Some cut) None
  first_place_is [] cut is_cut = rw is_cut refl
  first_place_is (x ∷ xs) zero is_cut = rw is_cut.0 (grind (arith, nat_tests))
  first_place_is (x ∷ xs) (suc cut) is_cut = rw (is_cut.0, first_place_is xs cut is_cut.1) (grind (arith, nat_tests))

  cut_le-length : (xs : List X) (cut : ℕ) → IsCut xs cut → cut ≤ length xs
  cut_le-length [] cut is_cut = omega (arith, is_cut)
  cut_le-length (x ∷ xs) zero is_cut = omega arith
  cut_le-length (x ∷ xs) (suc cut) is_cut = omega (arith, cut_le-length xs cut is_cut.1)

  -- what a search from the cut answers on either side of it
  pub first_behind : (xs : List X) → IsParted test xs → (cut : ℕ) → cut ≡ count_by test xs → first_place (λ y. not (test y)) xs ≡ cond (nat_lt cut (length xs)) (Some cut) None
  first_behind xs parted cut counted = rw counted (first_place_is xs _ (cut_of_parted xs parted))

  pub none_before : (xs : List X) → IsParted test xs → (cut : ℕ) → cut ≡ count_by test xs → cut ≡ 0 → last_place test xs ≡ None
  none_before xs parted cut counted none = last_place_is xs _ (cut_of_parted xs parted) ∙ ap one_before (sym counted ∙ none)

  pub last_before : (xs : List X) → IsParted test xs → (cut : ℕ) → cut ≡ count_by test xs → (cut ≡ 0 → ⊥) → last_place test xs ≡ cond (nat_lt (cut - 1) (length xs)) (Some (cut - 1)) None
  last_before xs parted zero counted some = absurd (some refl)
  last_before xs parted (suc cut) counted some =
      let is_cut = cut_of_parted xs parted in
      let bound : cut < length xs = omega (arith, counted, cut_le-length xs _ is_cut) in
      let same : suc cut - 1 ≡ cut = omega arith in
      last_place_is xs _ is_cut ∙ ap one_before (sym counted) ∙ sym (rw same (cond-true _ (Some cut) None (lt-ltb _ _ bound)))

falls_at_end : {X : Type 0} (b : Bool) (xs : List X) → Falls (λ x. b) xs
falls_at_end b [] = tt
falls_at_end {X} b (x ∷ xs) = (λ fails. all_alike fails xs, falls_at_end b xs)
  where
    all_alike : b ≡ false → (ys : List X) → AllByRecursion (λ y. b ≡ false) ys
    all_alike fails [] = tt
    all_alike fails (y ∷ ys) = (fails, all_alike fails ys)

-- a cut in front of all items, and one behind them all
pub parted_at_end : {X : Type 0} (b : Bool) (xs : List X) → IsParted (λ x. b) xs
parted_at_end b xs = parted_from_falls (λ x. b) xs (falls_at_end b xs)
