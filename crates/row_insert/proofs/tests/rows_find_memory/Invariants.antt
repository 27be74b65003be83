use Rattle.std.proofs.Common.{◌≡◌}
use Rattle.row_insert.specs.Examples.{people}
use Rattle.row_insert.proofs.tests.rows_find_memory.Given as goal

abbrev pub invariant-loop-id : goal.invariant-loop-id
invariant-loop-id g l = (l.schema ≡ people) × (l.tables.schema ≡ people)
