use Rattle.std.proofs.Common.{◌≡◌, ◌-◌}
use Rattle.sql_parse.specs.Input.{separated, separated_from}
use Rattle.sql_parse.specs.Statements.{cell}
use Rattle.sql_parse.proofs.inserts.cells.Given as goal

-- what was found, and what is left, make the whole
abbrev pub invariant-loop-turn : goal.invariant-loop-turn
invariant-loop-turn l =
    separated (cell l.reading.columns.now 1) l.initial.tokens ≡ separated_from (cell l.reading.columns.now 1) (l._turn-end - l._turn) l.found l.tokens
