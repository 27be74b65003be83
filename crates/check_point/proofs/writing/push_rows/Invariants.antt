use Rattle.std.proofs.Common.{◌≡◌, ◌++◌, length}
use Rattle.std.specs.List.{AllByRecursion, flat_map}
use Rattle.table_rows.specs.Entries.{Entry}
use Rattle.change_set.specs.Fitting.{AreValuesHeld}
use Rattle.change_set.specs.Payload.{IsShort, change_bytes}
use Rattle.check_point.specs.Written.{puts_of}
use Rattle.check_point.proofs.writing.push_rows.Given as goal

-- the bytes of the rows that are left are those that are missing
abbrev pub invariant-loop-row : goal.invariant-loop-row
invariant-loop-row l = record {
  bytes : l.out.items ++ flat_map change_bytes (puts_of l.table l.walk) ≡ l.fn.out.items ++ flat_map change_bytes (puts_of l.table l.fn.walk);
  held : AreValuesHeld (puts_of l.table l.walk) → AreValuesHeld (puts_of l.table l.fn.walk);
  short : AllByRecursion (λ (entry : Entry). AllByRecursion IsShort entry.0) l.walk;
}

abbrev pub decreases-loop-row : goal.decreases-loop-row
decreases-loop-row l = length l.walk
