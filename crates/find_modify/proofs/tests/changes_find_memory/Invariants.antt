use Rattle.std.proofs.Common.{◌≡◌}
use Rattle.row_insert.specs.Examples.{people}
use Rattle.find_modify.proofs.tests.changes_find_memory.Given as goal

abbrev pub invariant-loop-kind : goal.invariant-loop-kind
invariant-loop-kind g l = l.tables.schema ≡ people
