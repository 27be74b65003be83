-- What an expression is worth, and what it gives, by its uppermost part.
use Rattle.std.proofs.Common.{◌≡◌, ℕ, List, map, sym, ap, ◌∙◌}
use Rattle.row_types.specs.declared.values.Value.{Value as Cell}
use Rattle.request_types.specs.declared.filters.FilterOp.{FilterOp}
use Rattle.sql_value.specs.declared.exprs.ArithOp.{ArithOp}
use Rattle.sql_value.specs.declared.exprs.Expr.{Expr}
use Rattle.sql_value.specs.declared.exprs.Expr.TheOpen.{Expr-F}
use Rattle.sql_value.specs.declared.exprs.Expr.TheFolds.{fold-roll-Expr}
use Rattle.sql_value.specs.declared.exprs.Expr.TheVariants as exprs
use Rattle.sql_value.specs.declared.worth.Evaluated.{Evaluated}
use Rattle.sql_value.specs.declared.worth.Evaluated.TheVariants.{Value}
use Rattle.sql_value.specs.Worth.{negated, combined, compared, null_test, opposite, both, either, cell_at}
use Rattle.sql_value.specs.Eval.{eval_of, part_of, is_among}

pub worth-Literal : (row : List Cell) (value : Cell) → eval_of row (exprs.Literal value) ≡ Value value
worth-Literal row value = ap (eval_of row) (sym (exprs.rolls-Literal value)) ∙ fold-roll-Expr Evaluated (part_of row) (Expr-F.Literal value)

pub worth-Column : (row : List Cell) (place : ℕ) → eval_of row (exprs.Column place) ≡ Value (cell_at row place)
worth-Column row place = ap (eval_of row) (sym (exprs.rolls-Column place)) ∙ fold-roll-Expr Evaluated (part_of row) (Expr-F.Column place)

pub worth-Negate : (row : List Cell) (a : Expr) → eval_of row (exprs.Negate a) ≡ negated (eval_of row a)
worth-Negate row a = ap (eval_of row) (sym (exprs.rolls-Negate a)) ∙ fold-roll-Expr Evaluated (part_of row) (Expr-F.Negate a)

pub worth-Arith : (row : List Cell) (op : ArithOp) (a b : Expr) → eval_of row (exprs.Arith op a b) ≡ combined op (eval_of row a) (eval_of row b)
worth-Arith row op a b = ap (eval_of row) (sym (exprs.rolls-Arith op a b)) ∙ fold-roll-Expr Evaluated (part_of row) (Expr-F.Arith op a b)

pub worth-Compare : (row : List Cell) (op : FilterOp) (a b : Expr) → eval_of row (exprs.Compare op a b) ≡ compared op (eval_of row a) (eval_of row b)
worth-Compare row op a b = ap (eval_of row) (sym (exprs.rolls-Compare op a b)) ∙ fold-roll-Expr Evaluated (part_of row) (Expr-F.Compare op a b)

pub worth-IsNull : (row : List Cell) (a : Expr) → eval_of row (exprs.IsNull a) ≡ null_test (eval_of row a)
worth-IsNull row a = ap (eval_of row) (sym (exprs.rolls-IsNull a)) ∙ fold-roll-Expr Evaluated (part_of row) (Expr-F.IsNull a)

pub worth-InList : (row : List Cell) (a : Expr) (all : List Expr) → eval_of row (exprs.InList a all) ≡ is_among (eval_of row a) (map (eval_of row) all)
worth-InList row a all = ap (eval_of row) (sym (exprs.rolls-InList a all)) ∙ fold-roll-Expr Evaluated (part_of row) (Expr-F.InList a all)

pub worth-Not : (row : List Cell) (a : Expr) → eval_of row (exprs.Not a) ≡ opposite (eval_of row a)
worth-Not row a = ap (eval_of row) (sym (exprs.rolls-Not a)) ∙ fold-roll-Expr Evaluated (part_of row) (Expr-F.Not a)

pub worth-And : (row : List Cell) (a b : Expr) → eval_of row (exprs.And a b) ≡ both (eval_of row a) (eval_of row b)
worth-And row a b = ap (eval_of row) (sym (exprs.rolls-And a b)) ∙ fold-roll-Expr Evaluated (part_of row) (Expr-F.And a b)

pub worth-Or : (row : List Cell) (a b : Expr) → eval_of row (exprs.Or a b) ≡ either (eval_of row a) (eval_of row b)
worth-Or row a b = ap (eval_of row) (sym (exprs.rolls-Or a b)) ∙ fold-roll-Expr Evaluated (part_of row) (Expr-F.Or a b)
