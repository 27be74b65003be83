-- A valid schema has numbers of 32 bits.
use Rattle.std.proofs.Common.{List, [], ◌∷◌, arith}
use Rattle.std.specs.List.{AllByRecursion}
use Rattle.std.proofs.lemmas.List.Elements.{All-from_recursion}
use Rattle.row_types.specs.declared.tables.TableDef.{TableDef}
use Rattle.row_types.specs.declared.tables.Schema.{Schema}
use Rattle.row_types.specs.Valid.{IsTable, IsValid}
use Rattle.open_index.specs.Open.{IsTableNumbered, IsNumbered}

tables_numbered : (tables : List TableDef) → AllByRecursion IsTable tables → AllByRecursion IsTableNumbered tables
tables_numbered [] all = tt
tables_numbered (t ∷ ts) all = ((omega (arith, all.0.columns.most), omega (arith, all.0.indexes.most)), tables_numbered ts all.1)

pub numbered : (schema : Schema) → IsValid schema → IsNumbered schema
numbered schema valid = record {
  tables = omega (arith, valid.most);
  each = All-from_recursion IsTableNumbered schema.tables (tables_numbered schema.tables valid.tables);
}
