-- Which statements fit a schema: numbers in range, and parts of the kinds that their places ask for.
use Rattle.std.specs.Prelude.{◌≡◌, ℕ, ◌≤◌, ◌<◌, List, [], ◌∷◌, length, Option, Some, None, slice_get, IsSomeAnd, IfSome, ⊤}
use Rattle.std.specs.List.{All}
use Rattle.row_types.specs.declared.columns.Column.{Column}
use Rattle.row_types.specs.declared.tables.TableDef.{TableDef}
use Rattle.row_types.specs.declared.tables.Schema.{Schema}
use Rattle.request_types.specs.Fits.{AreNumbers}
use Rattle.sql_value.specs.declared.exprs.Expr.{Expr}
use Rattle.sql_value.specs.declared.kinds.ExprKind.{ExprKind}
use Rattle.sql_value.specs.declared.kinds.ExprKind.TheVariants.{Condition, Number, Text, Null}
use Rattle.sql_value.specs.declared.orders.OrderKey.{OrderKey}
use Rattle.sql_value.specs.declared.changes.Cell.{Cell}
use Rattle.sql_value.specs.declared.changes.Cell.TheVariants.{Preset, Of}
use Rattle.sql_value.specs.declared.changes.Assign.{Assign}
use Rattle.sql_value.specs.declared.statements.SelectSpec.{SelectSpec}
use Rattle.sql_value.specs.declared.statements.InsertStmt.{InsertStmt}
use Rattle.sql_value.specs.declared.statements.UpdateStmt.{UpdateStmt}
use Rattle.sql_value.specs.declared.statements.DeleteStmt.{DeleteStmt}
use Rattle.sql_value.specs.declared.statements.Statement.{Statement}
use Rattle.sql_value.specs.declared.statements.Statement.TheVariants.{Select, Insert, Update, Delete}
use Rattle.sql_value.specs.Kinds.{kind_of_cells, kind_of}

-- A value of any kind.
abbrev pub IsValue : Option ExprKind → Type 0
IsValue (Some Number) = ⊤
IsValue (Some Text) = ⊤
IsValue (Some Null) = ⊤
IsValue (Some Condition) = ⊥
IsValue None = ⊥

-- A value of this kind. NULL is of each.
abbrev pub IsOf : ExprKind → Option ExprKind → Type 0
IsOf kind (Some Null) = ⊤
IsOf kind other = other ≡ Some kind

-- A condition on rows of these columns.
abbrev pub IsCondition : List Column → Expr → Type 0
IsCondition columns e = kind_of columns e ≡ Some Condition

-- A cell of the column at this place, which the table has. Its expression may name the columns of
-- the one list alone.
abbrev pub CellFits : List Column → List Column → ℕ → Cell → Type 0
CellFits named columns place Preset = place < length columns
CellFits named columns place (Of e) =
    IsSomeAnd (slice_get columns place) (λ c. IsOf (kind_of_cells c.kind) (kind_of named e))

-- The cells of a group, by place: one for each column, and none of them names a column.
abbrev pub GroupFits : List Column → List ℕ → List Cell → Type 0
GroupFits columns [] [] = ⊤
GroupFits columns [] (cell ∷ cells) = ⊥
GroupFits columns (place ∷ places) [] = ⊥
GroupFits columns (place ∷ places) (cell ∷ cells) =
    CellFits [] columns place cell × GroupFits columns places cells

-- A condition and an order that rows of these columns have.
pub record RowsFit (columns : List Column) (condition : Option Expr) (order : List OrderKey) :
    Type 0 where
  pub met : IfSome condition (IsCondition columns)
  pub sorted : All (λ (key : OrderKey). key.column < length columns) order

-- A SELECT has values for items, and at least one.
pub record SelectFitsTable (table : TableDef) (spec : SelectSpec) : Type 0 where
  pub some : 1 ≤ length spec.items
  pub items : All (λ e. IsValue (kind_of table.columns e)) spec.items
  pub rows : RowsFit table.columns spec.condition spec.order

-- An INSERT names columns of its table, none twice, and has at least one group for them.
pub record InsertFitsTable (table : TableDef) (insert : InsertStmt) : Type 0 where
  pub columns : AreNumbers table.columns insert.columns
  pub some : 1 ≤ length insert.groups
  pub groups : All (GroupFits table.columns insert.columns) insert.groups

-- An UPDATE has cells of their columns' kinds, and at least one.
pub record UpdateFitsTable (table : TableDef) (update : UpdateStmt) : Type 0 where
  pub some : 1 ≤ length update.assigns
  pub assigns :
      All (λ (a : Assign). CellFits table.columns table.columns a.column a.cell) update.assigns
  pub rows : RowsFit table.columns update.condition update.order

-- A DELETE says which rows alone.
abbrev pub DeleteFitsTable : TableDef → DeleteStmt → Type 0
DeleteFitsTable table delete = RowsFit table.columns delete.condition delete.order

-- A statement fits a schema that has its table.
abbrev pub StatementFits : Schema → Statement → Type 0
StatementFits schema (Select spec) =
    IsSomeAnd (slice_get schema.tables spec.table) (λ t. SelectFitsTable t spec)
StatementFits schema (Insert insert) =
    IsSomeAnd (slice_get schema.tables insert.table) (λ t. InsertFitsTable t insert)
StatementFits schema (Update update) =
    IsSomeAnd (slice_get schema.tables update.table) (λ t. UpdateFitsTable t update)
StatementFits schema (Delete delete) =
    IsSomeAnd (slice_get schema.tables delete.table) (λ t. DeleteFitsTable t delete)
