use Rattle.std.proofs.Common.{◌≡◌, take}
use Rattle.sql_value.proofs.+copy.Given as goal

abbrev pub invariant-copies::copy_exprs-loop-expr : goal.invariant-copies::copy_exprs-loop-expr
invariant-copies::copy_exprs-loop-expr l = l.copies.items ≡ take l.expr-index l.exprs
