use Rattle.std.proofs.Common.{◌≡◌, ◌++◌, drop}
use Rattle.sql_plan.specs.Tests.{tests_of}
use Rattle.sql_plan.specs.Plans.{key_of}
use Rattle.sql_plan.proofs.serving.key_of.Given as goal

abbrev pub invariant-loop-part : goal.invariant-loop-part
invariant-loop-part l = l.key.items ++ key_of (tests_of l.condition) (drop l.part-index l.parts) ≡ key_of (tests_of l.condition) l.parts
