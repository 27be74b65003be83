-- One table's rows, and the columns by which they are kept.
use Rattle.std.specs.Prelude.{ℕ, ◌==◌, Bool, false, List, [], ◌++◌, length, get_or, Option, Some, None}
use Rattle.table_rows.specs.declared.slot_ref.SlotRef.{SlotRef}
use Rattle.row_types.specs.declared.values.Value.{Value}
use Rattle.index_tree.specs.Ordered.{with_item, in_order}
use Rattle.table_rows.specs.Entries.{Entry, entry_cmp, walk}
use Rattle.table_rows.specs.Contents.{Contents}
use Rattle.row_types.specs.declared.tables.TableDef.{TableDef}
use Rattle.row_types.specs.Counted.{counted_of}
use Rattle.table_rows.specs.Rows.{Rows, State, indexes_of, rows_of, counted_at}
use Rattle.table_rows.specs.Widths.{empty_rows}
use Rattle.table_rows.specs.Indexes.{primary_of, parts_of}
use Rattle.table_rows.specs.Slots.{without}

-- The columns of the primary key, those of each index, the counted column, and the rows.
pub record Table : Type 0 where
  pub key : List ℕ
  pub orders : List (List ℕ)
  pub counted : Option ℕ
  pub rows : Rows

-- A store's rows, without its vacant slots, and a counter.
abbrev pub rows_kept : Contents → ℕ → Rows
rows_kept store counter = record { entries = walk store.key store.slots; room = length store.slots; counter = counter }

-- The same beside the columns.
abbrev pub table_in : Contents → Option ℕ → ℕ → Table
table_in store counted counter =
    record { key = store.key; orders = store.orders; counted = counted; rows = rows_kept store counter }

-- The table with this number, as it is kept: in the orders of its indexes.
abbrev pub kept_of : State → ℕ → Table
kept_of state table =
    record {
      key = primary_of (indexes_of state table);
      orders = parts_of (indexes_of state table);
      counted = counted_at state table;
      rows = rows_of state table;
    }

-- A table of this shape without rows.
abbrev pub empty_table : TableDef → Table
empty_table def = record {
  key = primary_of def.indexes;
  orders = parts_of def.indexes;
  counted = counted_of def.columns;
  rows = empty_rows def;
}

-- The table with other entries in as many slots.
abbrev pub with_these : Table → List Entry → Table
with_these table entries =
    record table { rows = record table.rows { entries = entries } }

-- The table with this row in this slot, whatever it had before.
abbrev pub with_row_in : Table → ℕ → List Value → Table
with_row_in table slot row =
    with_these table (with_item (entry_cmp table.key) (row, slot) (without slot table.rows.entries))

-- The table without the row in this slot.
abbrev pub without_in : Table → ℕ → Table
without_in table slot = with_these table (without slot table.rows.entries)

-- The table with another counter.
abbrev pub with_count : Table → ℕ → Table
with_count table counter =
    record table { rows = record table.rows { counter = counter } }

-- The same table in other slots.
abbrev pub with_room : Table → ℕ → Table
with_room table room =
    record table { rows = record table.rows { room = room } }

-- The columns of an index.
abbrev pub parts_by : Table → ℕ → List ℕ
parts_by table index = get_or table.orders index []

-- The columns that its walk goes by.
abbrev pub columns_by : Table → ℕ → List ℕ
columns_by table index = parts_by table index ++ table.key

-- The rows in the order of an index.
abbrev pub walk_by : Table → ℕ → List Entry
walk_by table index = in_order (entry_cmp (columns_by table index)) table.rows.entries

-- Whether this slot is the one that is meant, if one is.
abbrev pub is_named : Option SlotRef → ℕ → Bool
is_named None slot = false
is_named (Some meant) slot = meant.0 == slot
