use Rattle.std.proofs.Common.{◌≡◌, ◌-◌}
use Rattle.sql_parse.specs.Input.{separated, separated_from}
use Rattle.sql_parse.specs.Statements.{value}
use Rattle.sql_parse.proofs.selects.values.Given as goal

-- what was found, and what is left, make the whole
abbrev pub invariant-loop-turn : goal.invariant-loop-turn
invariant-loop-turn l =
    separated (value l.reading.columns.now 0) l.initial.tokens ≡ separated_from (value l.reading.columns.now 0) (l._turn-end - l._turn) l.found l.tokens
