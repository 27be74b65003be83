use Rattle.std.proofs.Common.{◌≡◌, take}
use Rattle.sql_plan.proofs.edges.copy_key.Given as goal

abbrev pub invariant-loop-value : goal.invariant-loop-value
invariant-loop-value l = l.copy.items ≡ take l.value-index l.key
