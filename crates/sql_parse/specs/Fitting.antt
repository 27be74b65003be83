-- Whether the parts of a statement that was read are of the kinds that their places ask for.
use Rattle.std.specs.Prelude.{ℕ, Bool, true, false, ◌&&◌, List, [], ◌∷◌, Option, Some, None, slice_get}
use Rattle.std.specs.List.{list_all}
use Rattle.row_types.specs.declared.columns.Kind.{Kind}
use Rattle.row_types.specs.declared.columns.Kind.TheVariants.{Int, Bytes}
use Rattle.row_types.specs.declared.columns.Column.{Column}
use Rattle.row_types.specs.declared.tables.Schema.{Schema}
use Rattle.sql_value.specs.declared.exprs.Expr.{Expr}
use Rattle.sql_value.specs.declared.kinds.ExprKind.{ExprKind}
use Rattle.sql_value.specs.declared.kinds.ExprKind.TheVariants.{Condition, Number, Text, Null}
use Rattle.sql_value.specs.declared.changes.Cell.{Cell}
use Rattle.sql_value.specs.declared.changes.Cell.TheVariants.{Preset, Of}
use Rattle.sql_value.specs.declared.changes.Assign.{Assign}
use Rattle.sql_value.specs.declared.statements.Statement.{Statement}
use Rattle.sql_value.specs.declared.statements.Statement.TheVariants.{Select, Insert, Update, Delete}
use Rattle.sql_value.specs.Kinds.{kind_of}
use Rattle.sql_parse.specs.Names.{columns_of}
use Rattle.sql_parse.specs.Standing.{table_of}

-- Whether this is a value of any kind.
abbrev pub is_value : Option ExprKind → Bool
is_value (Some Number) = true
is_value (Some Text) = true
is_value (Some Null) = true
is_value (Some Condition) = false
is_value None = false

abbrev pub is_truth : Option ExprKind → Bool
is_truth (Some Condition) = true
is_truth _ = false

-- Whether this goes into a column of the kind. NULL goes into each.
abbrev pub goes_into : Kind → Option ExprKind → Bool
goes_into kind (Some Null) = true
goes_into Int (Some Number) = true
goes_into (Bytes most) (Some Text) = true
goes_into _ _ = false

abbrev pub condition_fits : List Column → Option Expr → Bool
condition_fits columns None = true
condition_fits columns (Some e) = is_truth (kind_of columns e)

-- Whether a cell goes into the column, if that is there. Its expression may name the columns of the
-- one list.
abbrev pub cell_into : List Column → Cell → Option Column → Bool
cell_into named cell None = false
cell_into named Preset (Some c) = true
cell_into named (Of e) (Some c) = goes_into c.kind (kind_of named e)

abbrev pub cell_fits : List Column → List Column → ℕ → Cell → Bool
cell_fits named columns place cell = cell_into named cell (slice_get columns place)

-- Whether there is a cell for each of the columns, and goes into it.
abbrev pub group_fits : List Column → List ℕ → List Cell → Bool
group_fits columns [] [] = true
group_fits columns [] (cell ∷ cells) = false
group_fits columns (place ∷ places) [] = false
group_fits columns (place ∷ places) (cell ∷ cells) =
    cell_fits [] columns place cell && group_fits columns places cells

-- Whether items are values, conditions conditions, and cells go into their columns.
abbrev pub statement_fits : List Column → Statement → Bool
statement_fits columns (Select spec) =
    list_all (λ e. is_value (kind_of columns e)) spec.items && condition_fits columns spec.condition
statement_fits columns (Insert insert) =
    list_all (λ cells. group_fits columns insert.columns cells) insert.groups
statement_fits columns (Update update) =
    list_all (λ (a : Assign). cell_fits columns columns a.column a.cell) update.assigns
    && condition_fits columns update.condition
statement_fits columns (Delete delete) = condition_fits columns delete.condition

abbrev pub kinds_fit : Schema → Statement → Bool
kinds_fit schema statement = statement_fits (columns_of schema (table_of statement)) statement
