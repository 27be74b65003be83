-- Whether a statement that was read names tables and columns that are there.
use Rattle.std.specs.Prelude.{ℕ, nat_lt, nat_eq, Bool, true, false, ◌&&◌, List, length, Option, Some, None, slice_get}
use Rattle.std.specs.List.{list_all}
use Rattle.row_types.specs.declared.tables.TableDef.{TableDef}
use Rattle.row_types.specs.declared.tables.Schema.{Schema}
use Rattle.row_types.specs.Valid.{are_distinct}
use Rattle.sql_value.specs.declared.exprs.Expr.{Expr}
use Rattle.sql_value.specs.declared.exprs.Expr.TheOpen.{Expr-F}
use Rattle.sql_value.specs.declared.exprs.Expr.TheFolds.{fold-Expr}
use Rattle.sql_value.specs.declared.orders.OrderKey.{OrderKey}
use Rattle.sql_value.specs.declared.changes.Cell.{Cell}
use Rattle.sql_value.specs.declared.changes.Cell.TheVariants.{Preset, Of}
use Rattle.sql_value.specs.declared.changes.Assign.{Assign}
use Rattle.sql_value.specs.declared.statements.InsertStmt.{InsertStmt}
use Rattle.sql_value.specs.declared.statements.Statement.{Statement}
use Rattle.sql_value.specs.declared.statements.Statement.TheVariants.{Select, Insert, Update, Delete}

-- Whether each of these is so.
abbrev pub are_all : List Bool → Bool
are_all = list_all (λ b. b)

-- Whether a part names columns below this place alone, if its operands do.
abbrev pub part_within : ℕ → Expr-F Bool → Bool
part_within most (Expr-F.Literal value) = true
part_within most (Expr-F.Column place) = nat_lt place most
part_within most (Expr-F.Negate a) = a
part_within most (Expr-F.Arith op a b) = a && b
part_within most (Expr-F.Compare op a b) = a && b
part_within most (Expr-F.IsNull a) = a
part_within most (Expr-F.InList a all) = a && are_all all
part_within most (Expr-F.Not a) = a
part_within most (Expr-F.And a b) = a && b
part_within most (Expr-F.Or a b) = a && b

-- Whether an expression names columns below this place alone; below 0 there is none.
abbrev pub is_within : ℕ → Expr → Bool
is_within most = fold-Expr Bool (part_within most)

abbrev pub cell_within : ℕ → Cell → Bool
cell_within most Preset = true
cell_within most (Of e) = is_within most e

abbrev pub condition_within : ℕ → Option Expr → Bool
condition_within most None = true
condition_within most (Some e) = is_within most e

abbrev pub keys_within : ℕ → List OrderKey → Bool
keys_within most order = list_all (λ (key : OrderKey). nat_lt key.column most) order

abbrev pub rows_within : ℕ → Option Expr → List OrderKey → Bool
rows_within most condition order = keys_within most order && condition_within most condition

-- The groups of an INSERT name no column, and the list names none twice.
abbrev pub insert_within : ℕ → InsertStmt → Bool
insert_within most insert =
    list_all (λ place. nat_lt place most) insert.columns
    && are_distinct nat_eq insert.columns
    && list_all (λ cells. list_all (cell_within 0) cells) insert.groups

abbrev pub assigns_within : ℕ → List Assign → Bool
assigns_within most assigns =
    list_all (λ (a : Assign). nat_lt a.column most && cell_within most a.cell) assigns

-- The columns that a statement names are among the first so many.
abbrev pub statement_within : ℕ → Statement → Bool
statement_within most (Select spec) =
    list_all (is_within most) spec.items && rows_within most spec.condition spec.order
statement_within most (Insert insert) = insert_within most insert
statement_within most (Update update) =
    assigns_within most update.assigns && rows_within most update.condition update.order
statement_within most (Delete delete) = rows_within most delete.condition delete.order

-- The number of the table that a statement is about.
abbrev pub table_of : Statement → ℕ
table_of (Select spec) = spec.table
table_of (Insert insert) = insert.table
table_of (Update update) = update.table
table_of (Delete delete) = delete.table

-- Its table is there, and has the columns that it names.
abbrev pub names_stand : Schema → Statement → Bool
names_stand schema statement = by (slice_get schema.tables (table_of statement)) where
  by : Option TableDef → Bool
  by None = false
  by (Some t) = statement_within (length t.columns) statement
