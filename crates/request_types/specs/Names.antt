-- Tables, indexes and columns by their names. Names are equal byte by byte.
use Rattle.std.specs.Prelude.{ℕ, List, Option, Bool, ◌&&◌}
use Rattle.std.specs.List.{position_from}
use Rattle.std.specs.Str.{bytes_eq}
use Rattle.row_types.specs.declared.columns.Column.{Column}
use Rattle.row_types.specs.declared.indexes.IndexDef.{IndexDef}
use Rattle.row_types.specs.declared.tables.TableDef.{TableDef}

-- Whether a table has this name in this database.
abbrev pub is_table : List ℕ → List ℕ → TableDef → Bool
is_table db name t = bytes_eq t.db db && bytes_eq t.name name

-- The number of the first table with these two names: that of the database, then that of the table.
abbrev pub table_named : List TableDef → List ℕ → List ℕ → Option ℕ
table_named tables db name = position_from (is_table db name) 0 tables

-- The number of the first index of this name.
abbrev pub index_named : List IndexDef → List ℕ → Option ℕ
index_named indexes name = position_from (λ (i : IndexDef). bytes_eq i.name name) 0 indexes

-- The number of the first column of this name.
abbrev pub column_named : List Column → List ℕ → Option ℕ
column_named columns name = position_from (λ (c : Column). bytes_eq c.name name) 0 columns
