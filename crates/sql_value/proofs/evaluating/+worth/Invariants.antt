use Rattle.std.proofs.Common.{◌≡◌, map, fold, drop}
use Rattle.request_types.specs.declared.filters.FilterOp.TheVariants.{Equal}
use Rattle.sql_value.specs.Worth.{evaluated, compared, either}
use Rattle.sql_value.specs.Eval.{eval_of, is_among}
use Rattle.sql_value.proofs.evaluating.+worth.Given as goal

abbrev pub invariant-among-loop-expr : goal.invariant-among-loop-expr
invariant-among-loop-expr l =
    fold (λ found b. either found (compared Equal (evaluated l.a) b)) (evaluated l.found) (map (eval_of l.row) (drop l.expr-index l.expr-items))
    ≡ is_among (evaluated l.a) (map (eval_of l.row) l.all)
