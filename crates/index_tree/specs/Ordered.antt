-- Items in the order that a comparison gives.
use Rattle.std.specs.Prelude.{◌≡◌, Bool, true, false, not, List, [], ◌∷◌, Contains}
use Rattle.std.specs.List.{AllByRecursion}
use Rattle.std.specs.declared.cmp.Ordering.{Ordering}
use Rattle.std.specs.declared.cmp.Ordering.TheVariants.{Less}
use Rattle.std.specs.Ordering.{is_lt, is_eq, is_gt}
use Rattle.index_tree.specs.Parts.{put_between}

module _ {X : Type 0} (cmp : X → X → Ordering) where
  -- each item stands before all later ones, so none comes twice
  abbrev pub IsAscending : List X → Type 0
  IsAscending [] = Unit {0}
  IsAscending (x ∷ xs) = AllByRecursion (λ y. cmp x y ≡ Less) xs × IsAscending xs

  -- none of the items compares Equal to this one
  abbrev pub IsApartFrom : X → List X → Type 0
  IsApartFrom x xs = AllByRecursion (λ y. is_eq (cmp x y) ≡ false) xs

  -- no item compares Equal to one at another place
  abbrev pub AreApart : List X → Type 0
  AreApart [] = Unit {0}
  AreApart (x ∷ xs) = IsApartFrom x xs × AreApart xs

  -- where the test holds of an item it holds of each item before it
  abbrev pub IsClosedDown : (X → Bool) → Type 0
  IsClosedDown test = (x y : X) → cmp x y ≡ Less → test y ≡ true → test x ≡ true

  -- whether the second item stands before the first
  abbrev pub is_below : X → X → Bool
  is_below x y = is_lt (cmp y x)

  -- whether the second item stands before the first or at it
  abbrev pub is_through : X → X → Bool
  is_through x y = not (is_gt (cmp y x))

  -- whether the second item compares otherwise than Equal to the first
  abbrev pub is_other : X → X → Bool
  is_other x y = not (is_eq (cmp y x))

  -- the items with one more: those before it, itself, and all others
  abbrev pub with_item : X → List X → List X
  with_item x xs = put_between (is_below x) x xs

  -- the items sorted
  abbrev pub in_order : List X → List X
  in_order [] = []
  in_order (x ∷ xs) = with_item x (in_order xs)

-- what is an item of the one is an item of the other
abbrev pub HaveSameMembers : {X : Type 0} → List X → List X → Type 0
HaveSameMembers {X} xs ys = (x : X) → (Contains xs x → Contains ys x) × (Contains ys x → Contains xs x)
