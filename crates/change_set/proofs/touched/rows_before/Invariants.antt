use Rattle.std.proofs.Common.{◌≤◌, length}
use Rattle.std.specs.BTreeMap.{get}
use Rattle.table_rows.specs.Undoing.{since}
use Rattle.change_set.specs.Touched.{slot_cmp, TellsBefore}
use Rattle.change_set.proofs.touched.rows_before.Given as goal

abbrev pub invariant-loop-at : goal.invariant-loop-at
invariant-loop-at l = (l.at ≤ length l.undo.entries) × TellsBefore (get slot_cmp l.befores) (since l.at l.undo.entries)

abbrev pub decreases-loop-at : goal.decreases-loop-at
decreases-loop-at l = l.at
