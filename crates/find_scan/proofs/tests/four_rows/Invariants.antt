use Rattle.find_scan.specs.Examples.{IsPlay}
use Rattle.find_scan.proofs.tests.four_rows.Given as goal

abbrev pub invariant-loop-id : goal.invariant-loop-id
invariant-loop-id l = IsPlay l.tables
