use Rattle.std.proofs.Common.{◌≡◌, ◌++◌, List, length}
use Rattle.table_rows.specs.Entries.{Entry}
use Rattle.find_scan.specs.Gathering.{AreWideFor, gives, front_of}
use Rattle.find_scan.proofs.walking.gather.Given as goal

-- the rows that are left give what all of them give
abbrev pub invariant-loop-walk : goal.invariant-loop-walk
invariant-loop-walk l = record {
  wide : AreWideFor l.filters l.walk;
  given : (later : List Entry) → gives l.filters l.selection (front_of l.front.is_asked l.front.parts.now l.front.key.now l.walk ++ later)
      ≡ gives l.filters l.fn.selection (front_of l.front.is_asked l.front.parts.now l.front.key.now l.fn.walk ++ later);
}

abbrev pub decreases-loop-walk : goal.decreases-loop-walk
decreases-loop-walk l = length l.walk
