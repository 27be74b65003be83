-- A small tree's items.
use Rattle.std.specs.Prelude.{ℕ, List, [], ◌∷◌}

-- the first three odd numbers, in their order
abbrev pub odds : List ℕ
odds = 1 ∷ 3 ∷ 5 ∷ []
