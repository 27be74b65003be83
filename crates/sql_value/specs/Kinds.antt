-- What sort of thing an expression gives, whatever the row; nothing where its parts don't go together.
use Rattle.std.specs.Prelude.{ℕ, List, fold, slice_get, Option, Some, None, option_map}
use Rattle.row_types.specs.declared.values.Value.{Value}
use Rattle.row_types.specs.declared.values.Value.TheVariants as values
use Rattle.row_types.specs.declared.columns.Kind.{Kind}
use Rattle.row_types.specs.declared.columns.Kind.TheVariants.{Int, Bytes}
use Rattle.row_types.specs.declared.columns.Column.{Column}
use Rattle.sql_value.specs.declared.exprs.Expr.{Expr}
use Rattle.sql_value.specs.declared.exprs.Expr.TheOpen.{Expr-F}
use Rattle.sql_value.specs.declared.exprs.Expr.TheFolds.{fold-Expr}
use Rattle.sql_value.specs.declared.kinds.ExprKind.{ExprKind}
use Rattle.sql_value.specs.declared.kinds.ExprKind.TheVariants.{Condition, Number, Text, Null}

-- What a value is.
abbrev pub kind_of_value : Value → ExprKind
kind_of_value values.Null = Null
kind_of_value (values.Int n) = Number
kind_of_value (values.Text t) = Text

-- What the cells of a column are, where they aren't NULL.
abbrev pub kind_of_cells : Kind → ExprKind
kind_of_cells Int = Number
kind_of_cells (Bytes most) = Text

-- What the cells of the column at this place are, if the table has it.
abbrev pub kind_at : List Column → ℕ → Option ExprKind
kind_at columns place = option_map (λ (c : Column). kind_of_cells c.kind) (slice_get columns place)

-- What two numbers make is a number. NULL goes for one.
abbrev pub numeric : Option ExprKind → Option ExprKind → Option ExprKind
numeric (Some Number) (Some Number) = Some Number
numeric (Some Number) (Some Null) = Some Number
numeric (Some Null) (Some Number) = Some Number
numeric (Some Null) (Some Null) = Some Number
numeric _ _ = None

-- Two values of one kind compare: that is a condition. NULL goes with both kinds.
abbrev pub alike : Option ExprKind → Option ExprKind → Option ExprKind
alike (Some Number) (Some Number) = Some Condition
alike (Some Number) (Some Null) = Some Condition
alike (Some Text) (Some Text) = Some Condition
alike (Some Text) (Some Null) = Some Condition
alike (Some Null) (Some Number) = Some Condition
alike (Some Null) (Some Text) = Some Condition
alike (Some Null) (Some Null) = Some Condition
alike _ _ = None

-- What two conditions make is a condition.
abbrev pub logical : Option ExprKind → Option ExprKind → Option ExprKind
logical (Some Condition) (Some Condition) = Some Condition
logical _ _ = None

-- A value is one of those of a list: that is a condition, where each of them compares with it.
abbrev pub listed : Option ExprKind → List (Option ExprKind) → Option ExprKind
listed a all = fold (λ kind b. logical kind (alike a b)) (alike a a) all

-- A part of an expression, with what its operands give in their places.
abbrev pub part_kind : List Column → Expr-F (Option ExprKind) → Option ExprKind
part_kind columns (Expr-F.Literal value) = Some (kind_of_value value)
part_kind columns (Expr-F.Column place) = kind_at columns place
part_kind columns (Expr-F.Negate a) = numeric a a
part_kind columns (Expr-F.Arith op a b) = numeric a b
part_kind columns (Expr-F.Compare op a b) = alike a b
part_kind columns (Expr-F.IsNull a) = alike a a
part_kind columns (Expr-F.InList a all) = listed a all
part_kind columns (Expr-F.Not a) = logical a a
part_kind columns (Expr-F.And a b) = logical a b
part_kind columns (Expr-F.Or a b) = logical a b

-- What an expression gives on rows of these columns.
abbrev pub kind_of : List Column → Expr → Option ExprKind
kind_of columns = fold-Expr (Option ExprKind) (part_kind columns)
