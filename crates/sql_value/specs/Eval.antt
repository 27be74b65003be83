-- What an expression is worth on a row.
use Rattle.std.specs.Prelude.{List, fold}
use Rattle.row_types.specs.declared.values.Value.{Value as Cell}
use Rattle.request_types.specs.declared.filters.FilterOp.TheVariants.{Equal}
use Rattle.sql_value.specs.declared.exprs.Expr.{Expr}
use Rattle.sql_value.specs.declared.exprs.Expr.TheOpen.{Expr-F}
use Rattle.sql_value.specs.declared.exprs.Expr.TheFolds.{fold-Expr}
use Rattle.sql_value.specs.declared.truths.Truth.TheVariants.{No}
use Rattle.sql_value.specs.declared.worth.Evaluated.{Evaluated}
use Rattle.sql_value.specs.declared.worth.Evaluated.TheVariants.{Truth, Value}
use Rattle.sql_value.specs.Worth.{negated, combined, compared, null_test, opposite, both, either, cell_at}

-- x IN (a, b, ..) is x = a OR x = b OR .., and where nothing is listed false.
abbrev pub is_among : Evaluated → List Evaluated → Evaluated
is_among x all = fold (λ found a. either found (compared Equal x a)) (Truth No) all

-- A part of an expression, with what its operands are worth in their places.
abbrev pub part_of : List Cell → Expr-F Evaluated → Evaluated
part_of row (Expr-F.Literal value) = Value value
part_of row (Expr-F.Column place) = Value (cell_at row place)
part_of row (Expr-F.Negate a) = negated a
part_of row (Expr-F.Arith op a b) = combined op a b
part_of row (Expr-F.Compare op a b) = compared op a b
part_of row (Expr-F.IsNull a) = null_test a
part_of row (Expr-F.InList a all) = is_among a all
part_of row (Expr-F.Not a) = opposite a
part_of row (Expr-F.And a b) = both a b
part_of row (Expr-F.Or a b) = either a b

-- What an expression is worth on a row: every operand is, then what stands above it.
abbrev pub eval_of : List Cell → Expr → Evaluated
eval_of row = fold-Expr Evaluated (part_of row)
