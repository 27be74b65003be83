-- Histories, and which entries of one a pass made.
use Rattle.std.specs.Prelude.{ℕ, ◌+◌, ◌<◌, List, [], ◌∷◌, if◌then◌else◌, ◌==◌}

-- of a history the entries that were made in turns of the pass n, in their order
abbrev pub made_by : {E : Type 0} → (E → ℕ) → ℕ → List E → List E
made_by maker n [] = []
made_by maker n (e ∷ es) = if maker e == n then e ∷ made_by maker n es else made_by maker n es

-- each entry was made in a turn of one of the passes that so many seats are for: one seat is that of the dealing
abbrev pub AllMadeBelow : {E : Type 0} → (E → ℕ) → ℕ → List E → Type 0
AllMadeBelow maker seats [] = Unit {0}
AllMadeBelow maker seats (e ∷ es) = (maker e + 1 < seats) × AllMadeBelow maker seats es
