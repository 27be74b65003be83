use Rattle.std.proofs.Common.{◌≡◌, ◌++◌, map, take}
use Rattle.table_rows.specs.Undoing.{since}
use Rattle.change_set.specs.Touched.{old_seen, olds_of}
use Rattle.change_set.proofs.touched.push_olds.Given as goal

abbrev pub invariant-loop-at : goal.invariant-loop-at
invariant-loop-at l = map old_seen l.olds.items ≡ map old_seen l.fn.olds.items ++ olds_of l.tables (since 0 l.undo.entries) (take l.at l.undo.entries)
