-- A set and its payload, written out.
use Rattle.std.specs.Prelude.{ℕ, List, [], ◌∷◌, ◌++◌, true, false, codes, pos, negsuc}
use Rattle.row_types.specs.declared.values.Value.TheVariants.{Null, Int, Text}
use Rattle.row_types.specs.declared.columns.Kind.TheVariants as kinds
use Rattle.row_types.specs.declared.indexes.IndexKind.TheVariants.{Primary, Unique}
use Rattle.row_types.specs.declared.tables.Schema.{Schema}
use Rattle.change_set.specs.declared.change.Change.{Change}
use Rattle.change_set.specs.declared.change.Change.TheVariants.{Put, Delete, Count}

-- An integer below 256.
abbrev pub byte_value : ℕ → List ℕ
byte_value n = 1 ∷ 0 ∷ 0 ∷ 0 ∷ 0 ∷ 0 ∷ 0 ∷ 0 ∷ n ∷ []

-- The row (1, 7) comes into table 0, which is the first one of it, and its counter goes up to 2.
abbrev pub first_row : List Change
first_row = Put 0 (Int (pos 1) ∷ Int (pos 7) ∷ []) ∷ Count 0 2 ∷ []

-- The payload of that.
abbrev pub first_payload : List ℕ
first_payload =
    0 ∷ 0 ∷ 0 ∷ 2 ∷ 1 ∷ 0 ∷ 0 ∷ byte_value 1 ++ byte_value 7 ++ 3 ∷ 0 ∷ 0 ∷ 0 ∷ 0 ∷ 0 ∷ 0 ∷ 0 ∷ 0 ∷ 0 ∷ 2 ∷ []

-- The row with the key 1 goes from table 0.
abbrev pub gone_row : List Change
gone_row = Delete 0 (Int (pos 1) ∷ []) ∷ []

-- The row (1, ab, 7) comes, the row with the key (2, -5) goes, and the counter goes up to 9.
abbrev pub some_set : List Change
some_set =
    Put 0 (Int (pos 1) ∷ Text (codes "ab") ∷ Int (pos 7) ∷ [])
    ∷ Delete 0 (Int (pos 2) ∷ Int (negsuc 4) ∷ [])
    ∷ Count 0 9 ∷ []

-- A counted id, and a code of 4 bytes at most that no two rows share.
abbrev pub coded_schema : Schema
coded_schema = record {
  tables = record {
    db = codes "test";
    name = codes "a";
    columns =
        record { name = codes "id"; kind = kinds.Int; null = false; auto = true; preset = Null }
        ∷ record { name = codes "code"; kind = kinds.Bytes 4; null = true; auto = false; preset = Null } ∷ [];
    indexes =
        record { name = codes "PRIMARY"; kind = Primary; parts = 0 ∷ [] }
        ∷ record { name = codes "by_code"; kind = Unique; parts = 1 ∷ [] } ∷ [];
  } ∷ [];
}
