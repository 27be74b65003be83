-- A tree of small items that stand for others, as slots stand for rows: lists through a function.
--     map_kept, map_put_between, map_removed      a filter, an insert and a removal
--     put_between_then      an insert beside which the new item comes to stand for something
--     parted_through, first_place_through, last_place_through      what a cut by what they stand for says of the items
use Rattle.std.proofs.Common.{◌≡◌, ℕ, zero, suc, Bool, true, false, not, cond, List, [], ◌∷◌, map, filter, remove, Option, Some, option_map, refl, ap, ◌∙◌}
use Rattle.std.specs.List.{AllByRecursion}
use Rattle.std.proofs.lemmas.List.{map-append}
use Rattle.index_tree.specs.Parts.{IsParted, put_between, first_place, last_place, later_or_first}
use Rattle.index_tree.proofs.Cuts.{Falls, falls_from_parted, parted_from_falls}
use Rattle.index_tree.proofs.Elements.{all_unmapped, all_weaker, filter_agree, map_agree}

module _ {S X : Type 0} (f : S → X) (test : X → Bool) where
  -- a filter by what an item stands for is the filter of what they stand for
  pub map_kept : (xs : List S) → map f (filter (λ s. test (f s)) xs) ≡ filter test (map f xs)
  map_kept [] = refl
  map_kept (x ∷ xs) = by_test (map_kept xs) (test (f x))
    where
      by_test : map f (filter (λ (s : S). test (f s)) xs) ≡ filter test (map f xs) → (b : Bool) → map f (cond b (x ∷ filter (λ (s : S). test (f s)) xs) (filter (λ (s : S). test (f s)) xs)) ≡ cond b (f x ∷ filter test (map f xs)) (filter test (map f xs))
      by_test rest true = ap (λ (ys : List X). f x ∷ ys) rest
      by_test rest false = rest

  falls_through : (xs : List S) → Falls test (map f xs) → Falls (λ s. test (f s)) xs
  falls_through [] falls = tt
  falls_through (x ∷ xs) falls = (λ fails. all_unmapped (λ (y : X). test y ≡ false) f xs (falls.0 fails), falls_through xs falls.1)

  -- where the test parts what they stand for it parts them
  pub parted_through : (xs : List S) → IsParted test (map f xs) → IsParted (λ s. test (f s)) xs
  parted_through xs parted = parted_from_falls (λ (s : S). test (f s)) xs (falls_through xs (falls_from_parted test (map f xs) parted))

  -- and a place among them is a place among what they stand for
  pub first_place_through : (xs : List S) → first_place test (map f xs) ≡ first_place (λ s. test (f s)) xs
  first_place_through [] = refl
  first_place_through (x ∷ xs) = ap (λ (o : Option ℕ). cond (test (f x)) (Some 0) (option_map suc o)) (first_place_through xs)

  pub last_place_through : (xs : List S) → last_place test (map f xs) ≡ last_place (λ s. test (f s)) xs
  last_place_through [] = refl
  last_place_through (x ∷ xs) = ap (λ (o : Option ℕ). later_or_first o (test (f x))) (last_place_through xs)

-- an insert by what an item stands for
pub map_put_between : {S X : Type 0} (f : S → X) (test : X → Bool) (s : S) (xs : List S) → map f (put_between (λ t. test (f t)) s xs) ≡ put_between test (f s) (map f xs)
map_put_between {S} {X} f test s xs =
    map-append f (filter (λ (t : S). test (f t)) xs) (s ∷ filter (λ (t : S). not (test (f t))) xs)
    ∙ rw (map_kept f test xs, map_kept f (λ (x : X). not (test x)) xs) refl

module _ {S X : Type 0} (f : S → X) where
  -- the same, where the new item comes to stand for something while the others stand for what they did
  pub put_between_then : (g : S → X) (test : X → Bool) (s : S) (xs : List S) → AllByRecursion (λ t. f t ≡ g t) xs → map g (put_between (λ t. test (f t)) s xs) ≡ put_between test (g s) (map f xs)
  put_between_then g test s xs same =
      let front = filter_agree (λ (t : S). test (f t)) (λ (t : S). test (g t)) xs (all_weaker (λ (t : S). f t ≡ g t) (λ (t : S). test (f t) ≡ test (g t)) (λ t e. ap test e) xs same) in
      let back = filter_agree (λ (t : S). not (test (f t))) (λ (t : S). not (test (g t))) xs (all_weaker (λ (t : S). f t ≡ g t) (λ (t : S). not (test (f t)) ≡ not (test (g t))) (λ t e. ap (λ (x : X). not (test x)) e) xs same) in
      rw (front, back, map_agree f g xs same) (map_put_between g test s xs)

  pub map_removed : (xs : List S) (k : ℕ) → map f (remove xs k) ≡ remove (map f xs) k
  map_removed [] zero = refl
  map_removed [] (suc k) = refl
  map_removed (x ∷ xs) zero = refl
  map_removed (x ∷ xs) (suc k) = ap (λ (ys : List X). f x ∷ ys) (map_removed xs k)
