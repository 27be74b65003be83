-- What tables hold: the rows of each, in the order of its primary key.
use Rattle.std.specs.Prelude.{ℕ, List, [], get_or, set, Option}
use Rattle.row_types.specs.Counted.{counted_of}
use Rattle.row_types.specs.declared.columns.Column.{Column}
use Rattle.row_types.specs.declared.indexes.IndexDef.{IndexDef}
use Rattle.row_types.specs.declared.tables.TableDef.{TableDef}
use Rattle.row_types.specs.declared.tables.Schema.{Schema}
use Rattle.table_rows.specs.Entries.{Entry}

-- The rows of one table, each beside its slot, ascending by primary key. Every slot is below `room`. The counter is the
-- next number of the counted column, and 0 where there is no such column.
pub record Rows : Type 0 where
  pub entries : List Entry
  pub room : ℕ
  pub counter : ℕ

-- A schema, the rows of each of its tables, and how many bytes a change may fill.
pub record State : Type 0 where
  pub schema : Schema
  pub bytes_max : ℕ
  pub tables : List Rows

-- What a number stands for that is no table's.
abbrev pub no_table : TableDef
no_table = record { db = []; name = []; columns = []; indexes = [] }

-- And its rows.
abbrev pub no_rows : Rows
no_rows = record { entries = []; room = 0; counter = 0 }

-- The shape of the table with this number.
abbrev pub def_of : State → ℕ → TableDef
def_of state table = get_or state.schema.tables table no_table

-- Its columns.
abbrev pub columns_of : State → ℕ → List Column
columns_of state table = (def_of state table).columns

-- Its indexes.
abbrev pub indexes_of : State → ℕ → List IndexDef
indexes_of state table = (def_of state table).indexes

-- Its rows, with the number of its slots.
abbrev pub rows_of : State → ℕ → Rows
rows_of state table = get_or state.tables table no_rows

-- Its rows alone.
abbrev pub entries_of : State → ℕ → List Entry
entries_of state table = (rows_of state table).entries

-- How many slots it has.
abbrev pub room_of : State → ℕ → ℕ
room_of state table = (rows_of state table).room

-- Its counted column, if it has one.
abbrev pub counted_at : State → ℕ → Option ℕ
counted_at state table = counted_of (columns_of state table)

-- Its counter.
abbrev pub counter_of : State → ℕ → ℕ
counter_of state table = (rows_of state table).counter

-- The state with other rows in this table.
abbrev pub with_rows : State → ℕ → Rows → State
with_rows state table rows =
    record state { tables = set state.tables table rows }

-- The same, in as many slots, and another counter.
abbrev pub with_counted : State → ℕ → List Entry → ℕ → State
with_counted state table entries counter =
    with_rows state table (record (rows_of state table) { entries = entries; counter = counter })

-- The same rows and another counter.
abbrev pub with_counter : State → ℕ → ℕ → State
with_counter state table counter = with_rows state table (record (rows_of state table) { counter = counter })

-- Other rows in as many slots, and the same counter.
abbrev pub with_entries : State → ℕ → List Entry → State
with_entries state table entries =
    with_rows state table (record (rows_of state table) { entries = entries })
