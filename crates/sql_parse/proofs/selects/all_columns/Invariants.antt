use Rattle.std.proofs.Common.{◌≡◌, ◌++◌, map, drop}
use Rattle.sql_value.specs.declared.exprs.Expr.TheVariants as exprs
use Rattle.sql_parse.specs.Statements.{places_from, all_columns}
use Rattle.sql_parse.proofs.selects.all_columns.Given as goal

-- the columns so far, and those from here on
abbrev pub invariant-loop-place : goal.invariant-loop-place
invariant-loop-place l =
    l.all ++ map (λ place. exprs.Column place) (places_from l.place (drop l.place l.columns)) ≡ all_columns l.columns
