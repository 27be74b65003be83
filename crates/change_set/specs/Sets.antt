-- Changes, and the order in which a set has them.
use Rattle.std.specs.Prelude.{ℕ, List, [], get_or}
use Rattle.std.specs.declared.cmp.Ordering.{Ordering}
use Rattle.std.specs.Ordering.{nat_cmp, ordering_then}
use Rattle.row_types.specs.declared.values.Value.{Value}
use Rattle.row_types.specs.declared.tables.TableDef.{TableDef}
use Rattle.row_types.specs.declared.tables.Schema.{Schema}
use Rattle.row_types.specs.Order.{key_cmp}
use Rattle.table_rows.specs.Entries.{cells}
use Rattle.table_rows.specs.Rows.{no_table}
use Rattle.table_rows.specs.Indexes.{primary_of}
use Rattle.change_set.specs.declared.change.Change.{Change}
use Rattle.change_set.specs.declared.change.Change.TheVariants.{Put, Delete, Count}

-- The table that a change is of.
abbrev pub table_of : Change → ℕ
table_of (Put table row) = table
table_of (Delete table key) = table
table_of (Count table counter) = table

-- The shape of the table with this number.
abbrev pub def_in : Schema → ℕ → TableDef
def_in schema table = get_or schema.tables table no_table

-- The columns of its primary key.
abbrev pub key_columns : Schema → ℕ → List ℕ
key_columns schema table = primary_of (def_in schema table).indexes

-- The primary key of the row that a change is of. A counter has none.
abbrev pub key_of : Schema → Change → List Value
key_of schema (Put table row) = cells (key_columns schema table) row
key_of schema (Delete table key) = key
key_of schema (Count table counter) = []

-- The rows of a table come before its counter.
abbrev pub rank : Change → ℕ
rank (Put table row) = 0
rank (Delete table key) = 0
rank (Count table counter) = 1

-- Changes go by table, in a table its rows by primary key, and then its counter.
abbrev pub change_cmp : Schema → Change → Change → Ordering
change_cmp schema a b =
    ordering_then (nat_cmp (table_of a) (table_of b))
    (ordering_then (nat_cmp (rank a) (rank b)) (key_cmp (key_of schema a) (key_of schema b)))
