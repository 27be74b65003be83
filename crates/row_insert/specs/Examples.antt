-- A table of people, and rows that come to it.
use Rattle.std.specs.Prelude.{ℕ, List, [], ◌∷◌, codes, true, false, pos}
use Rattle.row_types.specs.declared.values.Value.{Value}
use Rattle.row_types.specs.declared.values.Value.TheVariants as values
use Rattle.row_types.specs.declared.columns.Column.{Column}
use Rattle.row_types.specs.declared.columns.Kind.TheVariants.{Int, Bytes}
use Rattle.row_types.specs.declared.indexes.IndexDef.{IndexDef}
use Rattle.row_types.specs.declared.indexes.IndexKind.TheVariants.{Primary, Unique, Plain}
use Rattle.row_types.specs.declared.tables.Schema.{Schema}
use Rattle.request_types.specs.declared.inserts.InsertSpec.{InsertSpec}
use Rattle.table_rows.specs.Rows.{State}

-- A number `id`, a text `name` of 4 bytes at most that may be NULL, and a number
-- `n` that may be NULL, and is 0 where it is left out.
abbrev pub people_columns : List Column
people_columns =
    record { name = codes "id"; kind = Int; null = false; auto = false; preset = values.Null }
    ∷ record { name = codes "name"; kind = Bytes 4; null = true; auto = false; preset = values.Null }
    ∷ record { name = codes "n"; kind = Int; null = true; auto = false; preset = values.Int (pos 0) } ∷ []

-- The id is the primary key, and names are unique.
abbrev pub people_indexes : List IndexDef
people_indexes =
    record { name = codes "PRIMARY"; kind = Primary; parts = 0 ∷ [] }
    ∷ record { name = codes "by_n"; kind = Plain; parts = 2 ∷ [] }
    ∷ record { name = codes "by_name"; kind = Unique; parts = 1 ∷ [] } ∷ []

-- They are the only table.
abbrev pub people : Schema
people = record {
  tables = record {
    db = codes "test";
    name = codes "t";
    columns = people_columns;
    indexes = people_indexes;
  } ∷ [];
}

-- A row of them.
abbrev pub person : ℕ → List ℕ → ℕ → List Value
person id name n = values.Int (pos id) ∷ values.Text name ∷ values.Int (pos n) ∷ []

-- The tables with one person in them, of 87 bytes.
abbrev pub one_person : ℕ → State
one_person bytes_max = record {
  schema = people;
  bytes_max = bytes_max;
  tables = record { entries = (person 1 (codes "ann") 5, 0) ∷ []; room = 1; counter = 0 } ∷ [];
}

-- An insert of these values for these columns.
abbrev pub insert_of : List ℕ → List Value → InsertSpec
insert_of columns named = record { table = 0; columns = columns; values = named }

-- A counted `id` and a number `v` that may be NULL.
abbrev pub numbered_columns : List Column
numbered_columns =
    record { name = codes "id"; kind = Int; null = false; auto = true; preset = values.Null }
    ∷ record { name = codes "v"; kind = Int; null = true; auto = false; preset = values.Null } ∷ []

-- They are the only table, whose id is the primary key.
abbrev pub numbered_rows : Schema
numbered_rows = record {
  tables = record {
    db = codes "test";
    name = codes "a";
    columns = numbered_columns;
    indexes = record { name = codes "PRIMARY"; kind = Primary; parts = 0 ∷ [] } ∷ [];
  } ∷ [];
}

-- The tables with the row (1, 7) in them, and this counter.
abbrev pub one_numbered : ℕ → State
one_numbered counter = record {
  schema = numbered_rows;
  bytes_max = 1000;
  tables = record { entries = (values.Int (pos 1) ∷ values.Int (pos 7) ∷ [], 0) ∷ []; room = 1; counter = counter } ∷ [];
}
