-- The columns that an index goes by.
use Rattle.std.specs.Prelude.{ℕ, List, [], ◌∷◌, ◌++◌, map, get_or, if◌then◌else◌}
use Rattle.row_types.specs.declared.indexes.IndexDef.{IndexDef}
use Rattle.row_types.specs.Valid.{is_primary}

-- The parts of the primary index, which is the first of its kind.
abbrev pub primary_of : List IndexDef → List ℕ
primary_of [] = []
primary_of (index ∷ indexes) = if is_primary index.kind then index.parts else primary_of indexes

-- The parts of each index.
abbrev pub parts_of : List IndexDef → List (List ℕ)
parts_of indexes = map (λ (index : IndexDef). index.parts) indexes

-- The parts of the index with this number.
abbrev pub parts_at : List IndexDef → ℕ → List ℕ
parts_at indexes index = get_or (parts_of indexes) index []

-- An index goes by its parts, and where they are the same by the primary key.
abbrev pub index_columns : List IndexDef → ℕ → List ℕ
index_columns indexes index = parts_at indexes index ++ primary_of indexes
