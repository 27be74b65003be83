use Rattle.std.proofs.Common.{◌≡◌, map, fold, drop}
use Rattle.sql_value.specs.Kinds.{alike, logical, listed, kind_of}
use Rattle.sql_value.proofs.kinds.+kind.Given as goal

abbrev pub invariant-listed-loop-expr : goal.invariant-listed-loop-expr
invariant-listed-loop-expr l =
    fold (λ kind b. logical kind (alike l.a b)) l.kind (map (kind_of l.columns) (drop l.expr-index l.expr-items))
    ≡ listed l.a (map (kind_of l.columns) l.all)
