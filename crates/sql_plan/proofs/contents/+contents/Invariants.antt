use Rattle.std.proofs.Common.{◌≡◌, map, fold, drop}
use Rattle.sql_plan.specs.Tests.{joined, contents_of}
use Rattle.sql_plan.proofs.contents.+contents.Given as goal

abbrev pub invariant-listed-loop-expr : goal.invariant-listed-loop-expr
invariant-listed-loop-expr l = fold joined l.found (map contents_of (drop l.expr-index l.expr-items)) ≡ fold joined l.fn.a (map contents_of l.all)
