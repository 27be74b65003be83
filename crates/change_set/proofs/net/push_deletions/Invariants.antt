use Rattle.std.proofs.Common.{◌≡◌, ◌++◌, map, take}
use Rattle.std.specs.List.{flat_map}
use Rattle.change_set.specs.Touched.{old_seen, deletion_of}
use Rattle.change_set.proofs.net.push_deletions.Given as goal

abbrev pub invariant-loop-old : goal.invariant-loop-old
invariant-loop-old l = l.changes.items ≡ l.fn.changes.items ++ flat_map (deletion_of l.tables) (map old_seen (take l.old-index l.olds))
