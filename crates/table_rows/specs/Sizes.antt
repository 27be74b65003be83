-- The bytes that rows count, which the limits speak of.
use Rattle.std.specs.Prelude.{ℕ, ◌+◌, ◌-◌, Bool, ◌&&◌, nat_lt, List, Option, Some, None, sum_by}
use Rattle.row_types.specs.declared.values.Value.{Value}
use Rattle.row_types.specs.Size.{row_size}
use Rattle.table_rows.specs.Entries.{Entry}
use Rattle.table_rows.specs.declared.slot_ref.SlotRef.{SlotRef}
use Rattle.table_rows.specs.Rows.{Rows, State, entries_of}
use Rattle.table_rows.specs.Slots.{row_of}

-- The most bytes that all rows may count, whatever a server's own limit is.
abbrev pub most_bytes : ℕ
most_bytes = 268435456

-- The bytes of some entries.
abbrev pub entries_size : List Entry → ℕ
entries_size entries = sum_by (λ (entry : Entry). row_size entry.0) entries

-- The bytes of all rows of all tables.
abbrev pub total : State → ℕ
total state = sum_by (λ (rows : Rows). entries_size rows.entries) state.tables

-- The bytes of the row that is to go.
abbrev pub size_instead : Option SlotRef → List Entry → ℕ
size_instead None entries = 0
size_instead (Some slot) entries = row_size (row_of slot.0 entries)

-- The bytes of all rows once this row is in a table, in place of that in the slot where one is named.
abbrev pub total_with : State → ℕ → List Value → Option SlotRef → ℕ
total_with state table row instead =
    total state - size_instead instead (entries_of state table) + row_size row

-- A change is one too many where it makes the rows more than they were, and more than may be.
abbrev pub is_full : ℕ → ℕ → ℕ → Bool
is_full bytes_max before after = nat_lt before after && nat_lt bytes_max after
