use Rattle.std.proofs.Common.{◌≡◌, drop}
use Rattle.table_rows.specs.Indexes.{primary_of}
use Rattle.sql_plan.proofs.serving.primary_parts.Given as goal

abbrev pub invariant-loop-index : goal.invariant-loop-index
invariant-loop-index l = primary_of (drop l.index-index l.indexes) ≡ primary_of l.indexes
