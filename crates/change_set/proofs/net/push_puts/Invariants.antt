use Rattle.std.proofs.Common.{◌≡◌, ◌++◌, map, take}
use Rattle.change_set.specs.Touched.{old_seen, puts_of}
use Rattle.change_set.proofs.net.push_puts.Given as goal

abbrev pub invariant-loop-at : goal.invariant-loop-at
invariant-loop-at l = l.changes.items ≡ l.fn.changes.items ++ puts_of l.tables (map old_seen l.olds) (take l.at l.undo.entries)
