use Rattle.std.proofs.Common.{◌≡◌, ◌-◌}
use Rattle.sql_parse.specs.Input.{separated, separated_from}
use Rattle.sql_parse.specs.Statements.{column}
use Rattle.sql_parse.proofs.inserts.column_list.Given as goal

-- what was found, and what is left, make the whole
abbrev pub invariant-loop-turn : goal.invariant-loop-turn
invariant-loop-turn l =
    separated (column l.reading.columns.now) l.initial.tokens ≡ separated_from (column l.reading.columns.now) (l._turn-end - l._turn) l.found l.tokens
