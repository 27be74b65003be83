-- Tables without rows, and slots for more rows.
use Rattle.std.specs.Prelude.{◌≡◌, ℕ, ◌+◌, ◌≤◌, [], length, map, max}
use Rattle.std.specs.List.{AllZip}
use Rattle.row_types.specs.declared.tables.TableDef.{TableDef}
use Rattle.row_types.specs.declared.tables.Schema.{Schema}
use Rattle.row_types.specs.Counted.{counted_of}
use Rattle.table_rows.specs.Counters.{first_counter}
use Rattle.table_rows.specs.Rows.{Rows, State, with_rows, rows_of, room_of}

-- A table without rows and slots.
abbrev pub empty_rows : TableDef → Rows
empty_rows def = record { entries = []; room = 0; counter = first_counter (counted_of def.columns) }

-- A state in which no table has a row or a slot.
abbrev pub empty_state : Schema → ℕ → State
empty_state schema bytes_max =
    record { schema = schema; bytes_max = bytes_max; tables = map empty_rows schema.tables }

-- How many slots a table has where so many more rows find one: those that it has, or as many as are wanted.
abbrev pub room_for : ℕ → Rows → ℕ
room_for more rows = max rows.room (length rows.entries + more)

-- The same state, in which so many more rows find a slot in this table.
abbrev pub with_slots : State → ℕ → ℕ → State
with_slots state table more =
    with_rows state table (record (rows_of state table) { room = room_for more (rows_of state table) })

-- The same state but for more slots in this table.
pub record IsWidened (table : ℕ) (before after : State) : Type 0 where
  pub rows : after ≡ with_rows before table (record (rows_of before table) { room = room_of after table })
  pub room : room_of before table ≤ room_of after table

-- The same rows and counter in as many slots or more.
abbrev pub AreRoomier : Rows → Rows → Type 0
AreRoomier before after =
    (after.entries ≡ before.entries) × (before.room ≤ after.room) × (after.counter ≡ before.counter)

-- The same state in as many slots or more.
pub record IsRoomier (before after : State) : Type 0 where
  pub schema : after.schema ≡ before.schema
  pub bytes_max : after.bytes_max ≡ before.bytes_max
  pub tables : AllZip AreRoomier before.tables after.tables
