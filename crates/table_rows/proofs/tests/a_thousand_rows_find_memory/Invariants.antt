use Rattle.table_rows.specs.Examples.{IsPlay}
use Rattle.table_rows.proofs.tests.a_thousand_rows_find_memory.Given as goal

abbrev pub invariant-loop-id : goal.invariant-loop-id
invariant-loop-id g l = IsPlay l.tables
