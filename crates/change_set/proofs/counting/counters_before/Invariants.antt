use Rattle.std.proofs.Common.{◌≡◌, ◌≤◌, length}
use Rattle.table_rows.specs.Undoing.{since, undone_all}
use Rattle.change_set.specs.Touched.{counters}
use Rattle.change_set.proofs.counting.counters_before.Given as goal

abbrev pub invariant-loop-at : goal.invariant-loop-at
invariant-loop-at l = (l.at ≤ length l.undo.entries) × (l.counters.items ≡ counters (undone_all (since l.at l.undo.entries) l.tables))

abbrev pub decreases-loop-at : goal.decreases-loop-at
decreases-loop-at l = l.at
