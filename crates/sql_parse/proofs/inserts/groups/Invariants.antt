use Rattle.std.proofs.Common.{◌≡◌, ◌-◌}
use Rattle.sql_parse.specs.Input.{separated, separated_from}
use Rattle.sql_parse.specs.Statements.{wide_group}
use Rattle.sql_parse.proofs.inserts.groups.Given as goal

-- what was found, and what is left, make the whole
abbrev pub invariant-loop-turn : goal.invariant-loop-turn
invariant-loop-turn l =
    separated (wide_group l.reading.columns.now l.is_asked l.width) l.initial.tokens ≡ separated_from (wide_group l.reading.columns.now l.is_asked l.width) (l._turn-end - l._turn) l.found l.tokens
