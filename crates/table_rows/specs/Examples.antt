-- A small table, written out.
use Rattle.std.specs.Prelude.{◌≡◌, ℕ, ◌<◌, length, List, [], ◌∷◌, codes, true, false, ℤ, pos}
use Rattle.row_types.specs.declared.columns.Column.{Column}
use Rattle.row_types.specs.declared.columns.Kind.TheVariants.{Int, Bytes}
use Rattle.row_types.specs.declared.indexes.IndexDef.{IndexDef}
use Rattle.row_types.specs.declared.indexes.IndexKind.TheVariants.{Primary, Unique, Plain}
use Rattle.row_types.specs.declared.tables.Schema.{Schema}
use Rattle.row_types.specs.declared.values.Value.{Value}
use Rattle.row_types.specs.declared.values.Value.TheVariants as values
use Rattle.table_rows.specs.declared.slot_ref.SlotRef.{SlotRef}
use Rattle.table_rows.specs.Rows.{State}

-- A number, a text of 4 bytes at most which may be missing, and another number.
abbrev pub some_columns : List Column
some_columns =
    record { name = codes "id"; kind = Int; null = false; auto = false; preset = values.Null }
    ∷ record { name = codes "code"; kind = Bytes 4; null = true; auto = false; preset = values.Null }
    ∷ record { name = codes "n"; kind = Int; null = false; auto = false; preset = values.Null } ∷ []

-- An index of each kind.
abbrev pub some_indexes : List IndexDef
some_indexes =
    record { name = codes "PRIMARY"; kind = Primary; parts = 0 ∷ 2 ∷ [] }
    ∷ record { name = codes "by_code"; kind = Unique; parts = 1 ∷ [] }
    ∷ record { name = codes "by_n"; kind = Plain; parts = 2 ∷ [] } ∷ []

-- They make the only table.
abbrev pub some_schema : Schema
some_schema = record { tables = record { db = codes "test"; name = codes "t"; columns = some_columns; indexes = some_indexes } ∷ [] }

-- A row of two numbers and what stands between them.
abbrev pub some_row : ℕ → Value → ℕ → List Value
some_row id code n = values.Int (pos id) ∷ code ∷ values.Int (pos n) ∷ []

-- The table with two rows in slots 1 and 0, of 81 and 86 bytes, and a third slot; and this limit.
abbrev pub two_rows : ℕ → State
two_rows bytes_max = record {
  schema = some_schema;
  bytes_max = bytes_max;
  tables = record { entries = (some_row 1 values.Null 9, 1) ∷ (some_row 2 (values.Text (codes "ab")) 5, 0) ∷ []; room = 3; counter = 0 } ∷ [];
}

-- A row of 88 bytes.
abbrev pub third_row : List Value
third_row = some_row 3 (values.Text (codes "abcd")) 7

-- The slot with this number.
abbrev pub slot_named : ℕ → SlotRef
slot_named number = record { 0 = number }

-- A table with a counted id, and the row (1, 7) in slot 0, and a second slot; and this counter.
abbrev pub numbered : ℕ → State
numbered counter = record {
  schema = record {
    tables = record {
      db = codes "test";
      name = codes "a";
      columns =
          record { name = codes "id"; kind = Int; null = false; auto = true; preset = values.Null }
          ∷ record { name = codes "v"; kind = Int; null = true; auto = false; preset = values.Null } ∷ [];
      indexes = record { name = codes "PRIMARY"; kind = Primary; parts = 0 ∷ [] } ∷ [];
    } ∷ [];
  };
  bytes_max = 1000;
  tables = record { entries = (values.Int (pos 1) ∷ values.Int (pos 7) ∷ [], 0) ∷ []; room = 2; counter = counter } ∷ [];
}

-- A row with this id.
abbrev pub numbered_row : ℤ → List Value
numbered_row id = values.Int id ∷ values.Null ∷ []

-- What a test keeps: the table.
pub record IsPlay (state : State) : Type 0 where
  pub schema : state.schema ≡ some_schema
  pub tables : 0 < length state.tables
