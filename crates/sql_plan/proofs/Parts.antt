-- What a fold makes of an expression, by its uppermost part.
use Rattle.std.proofs.Common.{◌≡◌, ℕ, List, map, sym, ap, ◌∙◌}
use Rattle.request_types.specs.declared.filters.FilterOp.{FilterOp}
use Rattle.row_types.specs.declared.values.Value.{Value}
use Rattle.sql_value.specs.declared.exprs.ArithOp.{ArithOp}
use Rattle.sql_value.specs.declared.exprs.Expr.{Expr}
use Rattle.sql_value.specs.declared.exprs.Expr.TheOpen.{Expr-F}
use Rattle.sql_value.specs.declared.exprs.Expr.TheFolds.{fold-Expr, fold-roll-Expr}
use Rattle.sql_value.specs.declared.exprs.Expr.TheVariants as exprs

module _ {A : Type 0} (f : Expr-F A → A) where
  pub fold-Literal : (value : Value) → fold-Expr A f (exprs.Literal value) ≡ f (Expr-F.Literal value)
  fold-Literal value = ap (fold-Expr A f) (sym (exprs.rolls-Literal value)) ∙ fold-roll-Expr A f (Expr-F.Literal value)

  pub fold-Column : (place : ℕ) → fold-Expr A f (exprs.Column place) ≡ f (Expr-F.Column place)
  fold-Column place = ap (fold-Expr A f) (sym (exprs.rolls-Column place)) ∙ fold-roll-Expr A f (Expr-F.Column place)

  pub fold-Negate : (a : Expr) → fold-Expr A f (exprs.Negate a) ≡ f (Expr-F.Negate (fold-Expr A f a))
  fold-Negate a = ap (fold-Expr A f) (sym (exprs.rolls-Negate a)) ∙ fold-roll-Expr A f (Expr-F.Negate a)

  pub fold-Arith : (op : ArithOp) (a b : Expr) → fold-Expr A f (exprs.Arith op a b) ≡ f (Expr-F.Arith op (fold-Expr A f a) (fold-Expr A f b))
  fold-Arith op a b = ap (fold-Expr A f) (sym (exprs.rolls-Arith op a b)) ∙ fold-roll-Expr A f (Expr-F.Arith op a b)

  pub fold-Compare : (op : FilterOp) (a b : Expr) → fold-Expr A f (exprs.Compare op a b) ≡ f (Expr-F.Compare op (fold-Expr A f a) (fold-Expr A f b))
  fold-Compare op a b = ap (fold-Expr A f) (sym (exprs.rolls-Compare op a b)) ∙ fold-roll-Expr A f (Expr-F.Compare op a b)

  pub fold-IsNull : (a : Expr) → fold-Expr A f (exprs.IsNull a) ≡ f (Expr-F.IsNull (fold-Expr A f a))
  fold-IsNull a = ap (fold-Expr A f) (sym (exprs.rolls-IsNull a)) ∙ fold-roll-Expr A f (Expr-F.IsNull a)

  pub fold-InList : (a : Expr) (all : List Expr) → fold-Expr A f (exprs.InList a all) ≡ f (Expr-F.InList (fold-Expr A f a) (map (fold-Expr A f) all))
  fold-InList a all = ap (fold-Expr A f) (sym (exprs.rolls-InList a all)) ∙ fold-roll-Expr A f (Expr-F.InList a all)

  pub fold-Not : (a : Expr) → fold-Expr A f (exprs.Not a) ≡ f (Expr-F.Not (fold-Expr A f a))
  fold-Not a = ap (fold-Expr A f) (sym (exprs.rolls-Not a)) ∙ fold-roll-Expr A f (Expr-F.Not a)

  pub fold-And : (a b : Expr) → fold-Expr A f (exprs.And a b) ≡ f (Expr-F.And (fold-Expr A f a) (fold-Expr A f b))
  fold-And a b = ap (fold-Expr A f) (sym (exprs.rolls-And a b)) ∙ fold-roll-Expr A f (Expr-F.And a b)

  pub fold-Or : (a b : Expr) → fold-Expr A f (exprs.Or a b) ≡ f (Expr-F.Or (fold-Expr A f a) (fold-Expr A f b))
  fold-Or a b = ap (fold-Expr A f) (sym (exprs.rolls-Or a b)) ∙ fold-roll-Expr A f (Expr-F.Or a b)
