use Rattle.std.proofs.Common.{◌≡◌, take}
use Rattle.change_set.specs.Touched.{counters}
use Rattle.change_set.proofs.counting.counters_now.Given as goal

abbrev pub invariant-loop-table : goal.invariant-loop-table
invariant-loop-table l = l.counters.items ≡ take l.table (counters l.tables)
