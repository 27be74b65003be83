-- One step of a round over the orders: what is done, and what is left.
use Rattle.std.proofs.Common.{◌≡◌, ℕ, zero, suc, ◌+◌, ◌<◌, ◌≤◌, List, [], ◌∷◌, length, map, set, get_or, take, drop, sym, ap, subst, ◌∙◌, arith}
use Rattle.std.specs.List.{AllByRecursion}
use Rattle.std.proofs.lemmas.List.{take_more_set, drop-set-lt, drop_more, take_all, map-set, set-get_or, get_or-map}
use Rattle.index_tree.proofs.Elements.{all_append}

module _ {X : Type 0} where
  -- the item that was changed is done
  pub all_done : (P : X → Type 0) (xs : List X) (i : ℕ) (y : X) → i < length xs → P y → AllByRecursion P (take i xs) → AllByRecursion P (take (i + 1) (set xs i y))
  all_done P xs i y within here done = subst (AllByRecursion P) (sym (take_more_set xs i y within)) (all_append P (take i xs) (y ∷ []) done (here, tt))

  -- those behind it are left
  pub all_left : (P : X → Type 0) (xs : List X) (i : ℕ) (y : X) → i < length xs → AllByRecursion P (drop i xs) → AllByRecursion P (drop (i + 1) (set xs i y))
  all_left P xs i y within left =
      subst (AllByRecursion P) (sym (drop-set-lt (i + 1) xs i y (omega arith))) (subst (AllByRecursion P) (drop_more xs i y within) left).1

  pub first_left : (P : X → Type 0) (xs : List X) (i : ℕ) (d : X) → i < length xs → AllByRecursion P (drop i xs) → P (get_or xs i d)
  first_left P xs i d within left = (subst (AllByRecursion P) (drop_more xs i d within) left).0

  pub all_of_taken : (P : X → Type 0) (xs : List X) (i : ℕ) → length xs ≤ i → AllByRecursion P (take i xs) → AllByRecursion P xs
  all_of_taken P xs i all = subst (AllByRecursion P) (take_all i xs all)

  pub all_set : (P : X → Type 0) (xs : List X) (i : ℕ) (y : X) → P y → AllByRecursion P xs → AllByRecursion P (set xs i y)
  all_set P [] i y here all = tt
  all_set P (x ∷ xs) zero y here all = (here, all.1)
  all_set P (x ∷ xs) (suc i) y here all = (all.0, all_set P xs i y here all.1)

  pub at_index : (P : X → Type 0) (xs : List X) (i : ℕ) (d : X) → i < length xs → AllByRecursion P xs → P (get_or xs i d)
  at_index P [] i d within all = absurd (omega (arith, within))
  at_index P (x ∷ xs) zero d within all = all.0
  at_index P (x ∷ xs) (suc i) d within all = at_index P xs i d (omega (arith, within)) all.1

  pub same_mapped : {Y : Type 0} (f : X → Y) (xs : List X) (i : ℕ) (y : X) → i < length xs → f y ≡ f (get_or xs i y) → map f (set xs i y) ≡ map f xs
  same_mapped f xs i y within same =
      map-set f xs i y ∙ ap (set (map f xs) i) (same ∙ sym (get_or-map f xs i y (f y) within)) ∙ set-get_or (map f xs) i (f y)
