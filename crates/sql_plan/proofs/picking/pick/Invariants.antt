use Rattle.std.proofs.Common.{◌≡◌, ◌+◌, ◌≤◌, length}
use Rattle.std.specs.List.{take_while}
use Rattle.std.specs.Prelude.{option_copied}
use Rattle.table_rows.specs.StoreWalks.{is_to}
use Rattle.sql_plan.specs.Sorted.{entries_in}
use Rattle.sql_plan.proofs.Picks.{ArePicked}
use Rattle.sql_plan.proofs.picking.pick.Given as goal

-- what was picked, and what is still to come up to the end of the range
abbrev pub invariant-loop-slot : goal.invariant-loop-slot
invariant-loop-slot l = record {
  picked : ArePicked (option_copied l.condition) (take_while (is_to l.end.columns.now l.end.edge.now) l.fn.walk) (entries_in l.picked.items) (take_while (is_to l.end.columns.now l.end.edge.now) l.walk);
  looked : l.looker.looked + length (take_while (is_to l.end.columns.now l.end.edge.now) l.walk) ≤ l.fn.looker.looked + length (take_while (is_to l.end.columns.now l.end.edge.now) l.fn.walk);
  state : l.looker.state ≡ l.fn.looker.state;
}

abbrev pub decreases-loop-slot : goal.decreases-loop-slot
decreases-loop-slot l = length l.walk
