use Rattle.std.proofs.Common.{◌≡◌, take}
use Rattle.sql_value.proofs.changes.copy_assigns.Given as goal

abbrev pub invariant-loop-assign : goal.invariant-loop-assign
invariant-loop-assign l = l.copies.items ≡ take l.assign-index l.assigns
