-- Conditions on a small table.
use Rattle.std.specs.Prelude.{◌≡◌, ℕ, ◌<◌, List, [], ◌∷◌, length, codes, false, pos}
use Rattle.row_types.specs.declared.values.Value.{Value}
use Rattle.row_types.specs.declared.values.Value.TheVariants.{Null, Int}
use Rattle.row_types.specs.declared.columns.Column.{Column}
use Rattle.row_types.specs.declared.columns.Kind.TheVariants as kinds
use Rattle.row_types.specs.declared.tables.Schema.{Schema}
use Rattle.table_rows.specs.Rows.{State}
use Rattle.row_types.specs.declared.indexes.IndexDef.{IndexDef}
use Rattle.row_types.specs.declared.indexes.IndexKind.TheVariants.{Primary, Unique, Plain}
use Rattle.request_types.specs.declared.filters.FilterOp.{FilterOp}
use Rattle.sql_value.specs.declared.exprs.Expr.{Expr}
use Rattle.sql_value.specs.declared.exprs.Expr.TheVariants as exprs

-- The indexes of a table whose columns are id, name and n.
abbrev pub some_indexes : List IndexDef
some_indexes =
    record { name = codes "PRIMARY"; kind = Primary; parts = 0 ∷ [] }
    ∷ record { name = codes "by_n"; kind = Plain; parts = 2 ∷ [] }
    ∷ record { name = codes "by_name"; kind = Unique; parts = 1 ∷ [] } ∷ []

-- An integer.
abbrev pub int : ℕ → Value
int n = Int (pos n)

-- A column beside a number.
abbrev pub compared_with : FilterOp → Expr → ℕ → Expr
compared_with op a n = exprs.Compare op a (exprs.Literal (int n))

-- The id, and n.
abbrev pub id : Expr
id = exprs.Column 0

abbrev pub n : Expr
n = exprs.Column 2

-- Two numbers.
abbrev pub number_columns : List Column
number_columns =
    record { name = codes "id"; kind = kinds.Int; null = false; auto = false; preset = Null }
    ∷ record { name = codes "n"; kind = kinds.Int; null = false; auto = false; preset = Null } ∷ []

-- An index by each of them.
abbrev pub number_indexes : List IndexDef
number_indexes =
    record { name = codes "PRIMARY"; kind = Primary; parts = 0 ∷ [] }
    ∷ record { name = codes "by_n"; kind = Plain; parts = 1 ∷ [] } ∷ []

-- They make the only table.
abbrev pub numbers : Schema
numbers = record {
  tables = record { db = codes "test"; name = codes "t"; columns = number_columns; indexes = number_indexes } ∷ [];
}

-- What a test keeps: the table.
pub record IsPlay (state : State) : Type 0 where
  pub schema : state.schema ≡ numbers
  pub tables : 0 < length state.tables
