use Rattle.std.proofs.Common.{◌≡◌, ◌++◌}
use Rattle.table_rows.specs.Undoing.{since, undone_all}
use Rattle.change_set.specs.Touched.{counts_of}
use Rattle.change_set.proofs.counting.push_counts.Given as goal

abbrev pub invariant-loop-table : goal.invariant-loop-table
invariant-loop-table l = l.changes.items ≡ l.fn.changes.items ++ counts_of (undone_all (since 0 l.undo.entries) l.tables) l.tables l.table
