-- Lists that a test parts: what passes stands before what does not.
use Rattle.std.specs.Prelude.{◌≡◌, ℕ, suc, Bool, not, List, [], ◌∷◌, ◌++◌, Option, Some, None, cond, filter}
use Rattle.std.specs.Option.{option_map}

module _ {X : Type 0} (test : X → Bool) where
  -- those that pass stand before all others
  abbrev pub IsParted : List X → Type 0
  IsParted xs = filter test xs ++ filter (λ x. not (test x)) xs ≡ xs

  -- those that pass, then the new one, then all others
  abbrev pub put_between : X → List X → List X
  put_between x xs = filter test xs ++ x ∷ filter (λ y. not (test y)) xs

-- how many stand before the first that passes the test, where one passes
abbrev pub first_place : {X : Type 0} → (X → Bool) → List X → Option ℕ
first_place test [] = None
first_place test (x ∷ xs) = cond (test x) (Some 0) (option_map suc (first_place test xs))

-- a later place if there is one, one further on, and else the first if it passes
abbrev pub later_or_first : Option ℕ → Bool → Option ℕ
later_or_first (Some later) passes = Some (suc later)
later_or_first None passes = cond passes (Some 0) None

-- how many stand before the last that passes the test, where one passes
abbrev pub last_place : {X : Type 0} → (X → Bool) → List X → Option ℕ
last_place test [] = None
last_place test (x ∷ xs) = later_or_first (last_place test xs) (test x)
