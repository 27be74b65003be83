-- The order of rows.
use Rattle.std.specs.Prelude.{ℕ, if◌then◌else◌, List, [], ◌∷◌, map}
use Rattle.std.specs.declared.cmp.Ordering.{Ordering}
use Rattle.std.specs.Ordering.{ordering_then}
use Rattle.row_types.specs.declared.values.Value.{Value}
use Rattle.row_types.specs.Order.{value_cmp, key_cmp}
use Rattle.index_tree.specs.Ordered.{in_order}
use Rattle.table_rows.specs.Entries.{Entry, cell_at, cells}
use Rattle.sql_value.specs.declared.orders.OrderKey.{OrderKey}
use Rattle.sql_plan.specs.declared.picking.Picked.{Picked}

-- How two rows compare by one column: NULL first, or, downward, last.
abbrev pub key_cmp_by : OrderKey → List Value → List Value → Ordering
key_cmp_by key a b =
    if key.down then value_cmp (cell_at b key.column) (cell_at a key.column)
    else value_cmp (cell_at a key.column) (cell_at b key.column)

-- The first column whose cells differ decides, and where none does the primary key.
abbrev pub row_cmp : List OrderKey → List ℕ → List Value → List Value → Ordering
row_cmp [] primary a b = key_cmp (cells primary a) (cells primary b)
row_cmp (key ∷ order) primary a b = ordering_then (key_cmp_by key a b) (row_cmp order primary a b)

-- The same of rows beside their slots.
abbrev pub entry_cmp_by : List OrderKey → List ℕ → Entry → Entry → Ordering
entry_cmp_by order primary a b = row_cmp order primary a.0 b.0

-- Rows in this order.
abbrev pub sorted : List OrderKey → List ℕ → List Entry → List Entry
sorted order primary entries = in_order (entry_cmp_by order primary) entries

-- A row beside its slot.
abbrev pub entry_of : Picked → Entry
entry_of picked = (picked.row.now, picked.slot.0)

-- Rows beside their slots.
abbrev pub entries_in : List Picked → List Entry
entries_in picked = map entry_of picked
