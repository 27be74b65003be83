use Rattle.std.proofs.Common.{◌≡◌, length}
use Rattle.std.specs.List.{AllByRecursion}
use Rattle.find_scan.specs.Examples.{IsNumber}
use Rattle.find_scan.proofs.tests.numbers.Given as goal

abbrev pub invariant-loop-number : goal.invariant-loop-number
invariant-loop-number l = record {
  values : AllByRecursion IsNumber l.values;
  length : length l.values ≡ l.number-index;
}
