-- Records and their places.
use Rattle.std.specs.Prelude.{ℕ, ◌+◌, List, [], ◌∷◌, length, map}
use Rattle.redo_journal.specs.declared.record.Record.{Record}

-- the payloads of these records
abbrev pub payloads_of : List Record → List (List ℕ)
payloads_of = map (λ r. r.payload)

-- the records with these payloads, the first of them at this place
abbrev pub placed : ℕ → List (List ℕ) → List Record
placed place [] = []
placed place (payload ∷ payloads) =
    record { place = place; payload = payload } ∷ placed (place + (5 + length payload)) payloads
