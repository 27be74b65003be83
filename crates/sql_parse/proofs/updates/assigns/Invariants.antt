use Rattle.std.proofs.Common.{◌≡◌, ◌-◌}
use Rattle.sql_parse.specs.Input.{separated, separated_from}
use Rattle.sql_parse.specs.Statements.{assign}
use Rattle.sql_parse.proofs.updates.assigns.Given as goal

-- what was found, and what is left, make the whole
abbrev pub invariant-loop-turn : goal.invariant-loop-turn
invariant-loop-turn l =
    separated (assign l.reading.columns.now) l.initial.tokens ≡ separated_from (assign l.reading.columns.now) (l._turn-end - l._turn) l.found l.tokens
