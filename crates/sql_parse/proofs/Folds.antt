-- What an expression names, and what it gives, by its uppermost part.
use Rattle.std.proofs.Common.{◌≡◌, ℕ, Bool, ◌&&◌, List, Option, sym, ap, ◌∙◌}
use Rattle.std.specs.Prelude.{nat_lt}
use Rattle.row_types.specs.declared.columns.Column.{Column as ColumnDef}
use Rattle.sql_value.specs.declared.exprs.ArithOp.{ArithOp}
use Rattle.sql_value.specs.declared.exprs.Expr.{Expr}
use Rattle.sql_value.specs.declared.exprs.Expr.TheOpen.{Expr-F}
use Rattle.sql_value.specs.declared.exprs.Expr.TheFolds.{fold-roll-Expr}
use Rattle.sql_value.specs.declared.exprs.Expr.TheVariants as exprs
use Rattle.sql_value.specs.declared.kinds.ExprKind.{ExprKind}
use Rattle.sql_value.specs.Kinds.{kind_at, numeric, part_kind, kind_of}
use Rattle.sql_parse.specs.Standing.{part_within, is_within}

pub within-Column : (most place : ℕ) → is_within most (exprs.Column place) ≡ nat_lt place most
within-Column most place = ap (is_within most) (sym (exprs.rolls-Column place)) ∙ fold-roll-Expr Bool (part_within most) (Expr-F.Column place)

pub within-Negate : (most : ℕ) (a : Expr) → is_within most (exprs.Negate a) ≡ is_within most a
within-Negate most a = ap (is_within most) (sym (exprs.rolls-Negate a)) ∙ fold-roll-Expr Bool (part_within most) (Expr-F.Negate a)

pub within-Arith : (most : ℕ) (op : ArithOp) (a b : Expr) → is_within most (exprs.Arith op a b) ≡ (is_within most a && is_within most b)
within-Arith most op a b = ap (is_within most) (sym (exprs.rolls-Arith op a b)) ∙ fold-roll-Expr Bool (part_within most) (Expr-F.Arith op a b)

pub kind-Column : (columns : List ColumnDef) (place : ℕ) → kind_of columns (exprs.Column place) ≡ kind_at columns place
kind-Column columns place = ap (kind_of columns) (sym (exprs.rolls-Column place)) ∙ fold-roll-Expr (Option ExprKind) (part_kind columns) (Expr-F.Column place)

pub kind-Negate : (columns : List ColumnDef) (a : Expr) → kind_of columns (exprs.Negate a) ≡ numeric (kind_of columns a) (kind_of columns a)
kind-Negate columns a = ap (kind_of columns) (sym (exprs.rolls-Negate a)) ∙ fold-roll-Expr (Option ExprKind) (part_kind columns) (Expr-F.Negate a)
