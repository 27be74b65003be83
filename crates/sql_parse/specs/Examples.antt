-- A small schema, and expressions and statements written out.
use Rattle.std.specs.Prelude.{ℕ, List, [], ◌∷◌, map, codes, true, false, ℤ, pos, Option, None}
use Rattle.row_types.specs.declared.columns.Column.{Column}
use Rattle.row_types.specs.declared.columns.Kind.TheVariants.{Int, Bytes}
use Rattle.row_types.specs.declared.indexes.IndexDef.{IndexDef}
use Rattle.row_types.specs.declared.indexes.IndexKind.TheVariants.{Primary}
use Rattle.row_types.specs.declared.tables.TableDef.{TableDef}
use Rattle.row_types.specs.declared.tables.Schema.{Schema}
use Rattle.row_types.specs.declared.values.Value.TheVariants as values
use Rattle.sql_value.specs.declared.exprs.ArithOp.TheVariants.{Difference}
use Rattle.sql_value.specs.declared.exprs.Expr.{Expr}
use Rattle.sql_value.specs.declared.exprs.Expr.TheVariants as exprs
use Rattle.sql_value.specs.declared.orders.Limit.{Limit}
use Rattle.sql_value.specs.declared.changes.Cell.TheVariants.{Of}
use Rattle.sql_value.specs.declared.statements.Statement.{Statement}
use Rattle.sql_value.specs.declared.statements.Statement.TheVariants.{Select, Insert}

-- A number, a text which may be missing, and another number.
abbrev pub some_columns : List Column
some_columns =
    record { name = codes "id"; kind = Int; null = false; auto = false; preset = values.Null }
    ∷ record { name = codes "name"; kind = Bytes 32; null = true; auto = false; preset = values.Null }
    ∷ record { name = codes "n"; kind = Int; null = false; auto = false; preset = values.Null } ∷ []

abbrev pub table_in_db : List ℕ → List ℕ → TableDef
table_in_db db name = record {
  db = db;
  name = name;
  columns = some_columns;
  indexes = record { name = codes "PRIMARY"; kind = Primary; parts = 0 ∷ [] } ∷ [];
}

-- test.t, test.u and other.u.
abbrev pub some_schema : Schema
some_schema = record {
  tables = table_in_db (codes "test") (codes "t") ∷ table_in_db (codes "test") (codes "u") ∷ table_in_db (codes "other") (codes "u") ∷ [];
}

abbrev pub number : ℕ → Expr
number n = exprs.Literal (values.Int (pos n))

abbrev pub text : List ℕ → Expr
text bytes = exprs.Literal (values.Text bytes)

abbrev pub id : Expr
id = exprs.Column 0

abbrev pub n : Expr
n = exprs.Column 2

abbrev pub minus : Expr → Expr → Expr
minus a b = exprs.Arith Difference a b

-- These items of all rows of a table, cut so.
abbrev pub selected : ℕ → List Expr → Option Limit → Statement
selected table shown cut = Select (record { table = table; items = shown; condition = None; order = []; limit = cut })

-- A row of these values, one for each column.
abbrev pub inserted : ℕ → List ℕ → List Expr → Statement
inserted table places made = Insert (record { table = table; columns = places; groups = map Of made ∷ [] })
