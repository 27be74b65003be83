use Rattle.std.proofs.Common.{◌≡◌, take}
use Rattle.sql_value.proofs.changes.copy_groups.Given as goal

abbrev pub invariant-loop-cells : goal.invariant-loop-cells
invariant-loop-cells l = l.copies.items ≡ take l.cells-index l.groups
