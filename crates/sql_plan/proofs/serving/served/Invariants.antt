use Rattle.std.proofs.Common.{◌≡◌, ◌+◌, length, drop}
use Rattle.sql_plan.specs.Tests.{tests_of}
use Rattle.sql_plan.specs.Plans.{key_of, bound_of}
use Rattle.sql_plan.proofs.serving.served.Given as goal

-- each part so far is tested by `=`
abbrev pub invariant-loop-depth : goal.invariant-loop-depth
invariant-loop-depth l = record {
  depth : length (key_of (tests_of l.condition) l.parts) ≡ l.depth + length (key_of (tests_of l.condition) (drop l.depth l.parts));
  bound : bound_of (tests_of l.condition) l.parts ≡ bound_of (tests_of l.condition) (drop l.depth l.parts);
}
