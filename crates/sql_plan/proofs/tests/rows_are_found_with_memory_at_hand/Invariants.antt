use Rattle.sql_plan.specs.Examples.{IsPlay}
use Rattle.sql_plan.proofs.tests.rows_are_found_with_memory_at_hand.Given as goal

abbrev pub invariant-loop-id : goal.invariant-loop-id
invariant-loop-id g l = IsPlay l.tables
