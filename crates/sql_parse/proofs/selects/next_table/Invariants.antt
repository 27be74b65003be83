use Rattle.std.proofs.Common.{◌≡◌, ◌-◌}
use Rattle.sql_parse.specs.Statements.{next_table, table_ahead_from}
use Rattle.sql_parse.proofs.selects.next_table.Given as goal

-- the next FROM of what is left is that of the whole
abbrev pub invariant-loop-turn : goal.invariant-loop-turn
invariant-loop-turn l =
    next_table l.schema l.initial.tokens ≡ table_ahead_from l.schema (l._turn-end - l._turn) l.tokens
