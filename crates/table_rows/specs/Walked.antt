-- The entries that a walk goes through, and slots with the rows in them.
use Rattle.std.specs.Prelude.{ℕ, Bool, true, false, List, [], map, filter, reverse, Option, Some, None}
use Rattle.row_types.specs.declared.values.Value.{Value}
use Rattle.table_rows.specs.declared.edge.Edge.{Edge}
use Rattle.table_rows.specs.declared.edge.Edge.TheVariants.{With, Without}
use Rattle.table_rows.specs.Entries.{Slots, Entry, row_under}
use Rattle.table_rows.specs.StoreWalks.{is_from, is_to}

-- The low edge at a key: all that begin with it are let in, or, `through` them, what stands behind.
abbrev pub low_edge : Bool → List Value → Edge (List Value)
low_edge false key = With key
low_edge true key = Without key

-- The high edge at a key: what stands before it, or, `through` them, all that begin with it too.
abbrev pub high_edge : Bool → List Value → Edge (List Value)
high_edge false key = Without key
high_edge true key = With key

-- The entries from a key on.
abbrev pub upward : List ℕ → List Value → Bool → List Entry → List Entry
upward columns key through entries = filter (is_from columns (low_edge through key)) entries

-- The entries up to a key, the last one first.
abbrev pub downward : List ℕ → List Value → Bool → List Entry → List Entry
downward columns key through entries = reverse (filter (is_to columns (high_edge through key)) entries)

-- The row, if there is one, and else an empty one.
abbrev pub row_or_empty : Option (List Value) → List Value
row_or_empty None = []
row_or_empty (Some row) = row

-- The entry of a slot that has a row.
abbrev pub entry_under : Slots → ℕ → Entry
entry_under slots slot = (row_or_empty (row_under slots slot), slot)

-- Those of several slots.
abbrev pub entries_under : Slots → List ℕ → List Entry
entries_under slots under = map (entry_under slots) under
