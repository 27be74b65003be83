-- Columns as they are read.
--     read_columns      from the tables of a schema
use Rattle.std.proofs.Common.{◌≡◌, ℕ, ◌<◌, List, length, get_or, ap, ◌∙◌}
use Rattle.std.proofs.lemmas.List.{get_or_default}
use Rattle.row_types.specs.declared.columns.Column.{Column}
use Rattle.row_types.specs.declared.tables.TableDef.{TableDef}
use Rattle.table_rows.specs.Rows.{State, no_table, columns_of}

pub read_columns : (tables : List TableDef) (state : State) (table : ℕ) (d : TableDef) (columns : List Column) → tables ≡ state.schema.tables → table < length state.schema.tables → columns ≡ (get_or tables table d).columns → columns ≡ columns_of state table
read_columns tables state table d columns same within is =
    is ∙ ap (λ (defs : List TableDef). (get_or defs table d).columns) same
    ∙ ap (λ (t : TableDef). t.columns) (get_or_default state.schema.tables table d no_table within)
