use Rattle.std.proofs.Common.{◌≡◌, map, drop}
use Rattle.sql_parse.specs.Standing.{are_all, is_within}
use Rattle.sql_parse.proofs.naming.+within.Given as goal

-- what is left decides
abbrev pub invariant-all_within-loop-expr : goal.invariant-all_within-loop-expr
invariant-all_within-loop-expr l =
    are_all (map (is_within l.most) (drop l.expr-index l.expr-items)) ≡ are_all (map (is_within l.most) l.exprs)
