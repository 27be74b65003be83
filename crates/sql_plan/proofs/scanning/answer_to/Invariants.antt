use Rattle.std.proofs.Common.{◌≡◌, take}
use Rattle.sql_plan.specs.Ranges.{slots_in}
use Rattle.sql_plan.specs.Sorted.{entries_in}
use Rattle.sql_plan.proofs.scanning.answer_to.Given as goal

abbrev pub invariant-loop-row : goal.invariant-loop-row
invariant-loop-row l = l.slots.items ≡ slots_in (entries_in (take l.row-index l.row-items))
