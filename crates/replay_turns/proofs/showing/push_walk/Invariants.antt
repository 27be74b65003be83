use Rattle.std.proofs.Common.{◌≡◌, ◌++◌, map, length}
use Rattle.table_rows.specs.Entries.{Entry}
use Rattle.replay_turns.specs.Shown.{rows_lines}
use Rattle.replay_turns.proofs.showing.push_walk.Given as goal

-- the lines of the rows that are left are those that are missing
abbrev pub invariant-loop-row : goal.invariant-loop-row
invariant-loop-row l =
    l.text.items ++ rows_lines (map (λ (entry : Entry). entry.0) l.walk) ≡ l.fn.text.items ++ rows_lines (map (λ (entry : Entry). entry.0) l.fn.walk)

abbrev pub decreases-loop-row : goal.decreases-loop-row
decreases-loop-row l = length l.walk
