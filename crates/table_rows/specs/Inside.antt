-- What holds inside of tables.
use Rattle.std.specs.Prelude.{◌≡◌, map}
use Rattle.row_types.specs.declared.tables.TableDef.{TableDef}
use Rattle.table_rows.specs.declared.tables.Tables.TheInside.{Inside}
use Rattle.row_types.specs.Counted.{counted_of}
use Rattle.table_rows.specs.Rows.{State}
use Rattle.table_rows.specs.Indexes.{primary_of, parts_of}
use Rattle.table_rows.specs.Sizes.{total}
use Rattle.table_rows.specs.Valid.{IsValidState}
use Rattle.table_rows.specs.Table.{Table}

-- The rows of the tables, one by one.
abbrev pub seen : Inside → State
seen tables = record {
  schema = tables.schema;
  bytes_max = tables.bytes_max;
  tables = map (λ (table : Table). table.rows) tables.stores.items;
}

-- The rows are valid, their bytes are counted, and each table is kept in the orders of its indexes, with its counted
-- column.
pub record IsInside (tables : Inside) : Type 0 where
  pub valid : IsValidState (seen tables)
  pub counted : tables.total ≡ total (seen tables)
  pub keys : map (λ (table : Table). table.key) tables.stores.items
      ≡ map (λ (def : TableDef). primary_of def.indexes) tables.schema.tables
  pub counted_columns : map (λ (table : Table). table.counted) tables.stores.items
      ≡ map (λ (def : TableDef). counted_of def.columns) tables.schema.tables
  pub orders : map (λ (table : Table). table.orders) tables.stores.items
      ≡ map (λ (def : TableDef). parts_of def.indexes) tables.schema.tables
