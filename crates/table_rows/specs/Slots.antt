-- Rows by their slots, and what a change makes of them.
use Rattle.std.specs.Prelude.{◌≡◌, ℕ, ◌<◌, ◌==◌, Bool, false, not, List, [], Option, Some, None, filter, find}
use Rattle.std.specs.List.{list_any}
use Rattle.std.specs.Option.{option_map}
use Rattle.index_tree.specs.Ordered.{with_item}
use Rattle.row_types.specs.declared.values.Value.{Value}
use Rattle.row_types.specs.declared.indexes.IndexDef.{IndexDef}
use Rattle.table_rows.specs.Entries.{Entry, entry_cmp}
use Rattle.table_rows.specs.Counters.{raised}
use Rattle.table_rows.specs.Rows.{Rows, State, indexes_of, entries_of, counted_at, counter_of, with_counted, with_entries}
use Rattle.table_rows.specs.Indexes.{primary_of}

-- Whether an entry is the one in this slot.
abbrev pub is_in : ℕ → Entry → Bool
is_in slot entry = entry.1 == slot

-- Whether the slot has a row.
abbrev pub is_live : ℕ → List Entry → Bool
is_live slot entries = list_any (is_in slot) entries

-- The row of an entry, and the empty row where there is none.
abbrev pub row_in : Option Entry → List Value
row_in None = []
row_in (Some entry) = entry.0

-- The row in a slot.
abbrev pub row_of : ℕ → List Entry → List Value
row_of slot entries = row_in (find (is_in slot) entries)

-- The row in a slot, if it has one.
abbrev pub row_if : ℕ → List Entry → Option (List Value)
row_if slot entries = option_map (λ (entry : Entry). entry.0) (find (is_in slot) entries)

-- All entries but the one in this slot.
abbrev pub without : ℕ → List Entry → List Entry
without slot entries = filter (λ entry. not (is_in slot entry)) entries

-- The entries with this row in this slot, whatever it had before.
abbrev pub with_row : List IndexDef → ℕ → List Value → List Entry → List Entry
with_row indexes slot row entries = with_item (entry_cmp (primary_of indexes)) (row, slot) (without slot entries)

-- The slot is one of the table's, and has no row.
pub record IsVacant (slot : ℕ) (rows : Rows) : Type 0 where
  pub within : slot < rows.room
  pub free : is_live slot rows.entries ≡ false

-- Whether a slot of a table has a row.
abbrev pub is_live_in : State → ℕ → ℕ → Bool
is_live_in state table slot = is_live slot (entries_of state table)

-- That row.
abbrev pub row_at : State → ℕ → ℕ → List Value
row_at state table slot = row_of slot (entries_of state table)

-- The same, if it has one.
abbrev pub row_found : State → ℕ → ℕ → Option (List Value)
row_found state table slot = row_if slot (entries_of state table)

-- Its entries with this row in this slot, whatever it had before.
abbrev pub entries_with : State → ℕ → ℕ → List Value → List Entry
entries_with state table slot row = with_row (indexes_of state table) slot row (entries_of state table)

-- The state with this row in this slot of a table, and the counter above its value.
abbrev pub with_row_at : State → ℕ → ℕ → List Value → State
with_row_at state table slot row =
    with_counted state table (entries_with state table slot row) (raised (counted_at state table) row (counter_of state table))

-- The state without the row in this slot.
abbrev pub without_at : State → ℕ → ℕ → State
without_at state table slot = with_entries state table (without slot (entries_of state table))
