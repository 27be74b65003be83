use Rattle.std.proofs.Common.{◌≡◌, ◌-◌}
use Rattle.sql_parse.specs.Input.{separated, separated_from}
use Rattle.sql_parse.specs.Statements.{order_key}
use Rattle.sql_parse.proofs.clauses.order_keys.Given as goal

-- what was found, and what is left, make the whole
abbrev pub invariant-loop-turn : goal.invariant-loop-turn
invariant-loop-turn l =
    separated (order_key l.reading.columns.now) l.initial.tokens ≡ separated_from (order_key l.reading.columns.now) (l._turn-end - l._turn) l.found l.tokens
