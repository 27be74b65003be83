-- A schema, open ids and lines, written out.
use Rattle.std.specs.Prelude.{ℕ, List, [], ◌∷◌, codes, Some, None, true, false, pos}
use Rattle.request_types.specs.declared.ports.Port.TheVariants.{Writing}
use Rattle.row_types.specs.declared.columns.Column.{Column}
use Rattle.row_types.specs.declared.columns.Kind.TheVariants.{Int, Bytes}
use Rattle.row_types.specs.declared.indexes.IndexDef.{IndexDef}
use Rattle.row_types.specs.declared.indexes.IndexKind.TheVariants as kinds
use Rattle.row_types.specs.declared.tables.Schema.{Schema}
use Rattle.row_types.specs.declared.values.Value.TheVariants as values
use Rattle.open_index.specs.declared.handles.Handle.{Handle}
use Rattle.open_index.specs.declared.handles.OpenColumn.{OpenColumn}
use Rattle.open_index.specs.declared.requests.Auth.{Auth}
use Rattle.open_index.specs.declared.requests.Resolved.{Resolved}
use Rattle.open_index.specs.Line.{reads}

-- A table `test.t` of people: a number `id`, a text `name` of 32 bytes at most, and a number `n`.
abbrev pub people_columns : List Column
people_columns =
    record { name = codes "id"; kind = Int; null = false; auto = false; preset = values.Null }
    ∷ record { name = codes "name"; kind = Bytes 32; null = true; auto = false; preset = values.Null }
    ∷ record { name = codes "n"; kind = Int; null = false; auto = false; preset = values.Int (pos 0) } ∷ []

-- It has an index over `id`, and one over `n`.
abbrev pub people_indexes : List IndexDef
people_indexes =
    record { name = codes "PRIMARY"; kind = kinds.Primary; parts = 0 ∷ [] }
    ∷ record { name = codes "by_n"; kind = kinds.Plain; parts = 2 ∷ [] } ∷ []

-- It is the only table.
abbrev pub people : Schema
people = record {
  tables = record {
    db = codes "test";
    name = codes "t";
    columns = people_columns;
    indexes = people_indexes;
  } ∷ [];
}

-- Its columns, as an open id has them.
abbrev pub id_column : OpenColumn
id_column = record { number = 0; kind = Int }

-- A text, of 32 bytes at most.
abbrev pub name_column : OpenColumn
name_column = record { number = 1; kind = Bytes 32 }

-- The last one.
abbrev pub n_column : OpenColumn
n_column = record { number = 2; kind = Int }

-- The primary index, opened on these columns and these for filters.
abbrev pub by_id : List OpenColumn → List OpenColumn → Handle
by_id columns filter_columns = record {
  table = 0;
  index = 0;
  parts = id_column ∷ [];
  columns = columns;
  filter_columns = filter_columns;
}

-- The id 1 stands for it with the columns `id`, `name` and `n`, the id 3 with `id`, and `n` and
-- `id` for filters.
abbrev pub ids : List (ℕ × Handle)
ids =
    (1, by_id (id_column ∷ name_column ∷ n_column ∷ []) [])
    ∷ (3, by_id (id_column ∷ []) (n_column ∷ id_column ∷ [])) ∷ []

-- A port without a secret.
abbrev pub free : Auth
free = record { secret = None; passed = false }

-- A port with the secret `k`, which wasn't told yet.
abbrev pub locked : Auth
locked = record { secret = Some (codes "k"); passed = false }

-- What becomes of a line on the writing port.
abbrev pub written : Auth → List ℕ → Resolved × List (ℕ × Handle) × Auth
written auth line = reads people Writing ids auth line
