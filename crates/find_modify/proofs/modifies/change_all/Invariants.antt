use Rattle.std.proofs.Common.{◌≡◌, ◌≤◌, length, drop}
use Rattle.table_rows.specs.Named.{AreSlots}
use Rattle.find_modify.specs.Change.{changed_all}
use Rattle.table_rows.specs.GoingBack.{IsNoted}
use Rattle.find_modify.proofs.modifies.change_all.Given as goal

abbrev pub invariant-loop-slot : goal.invariant-loop-slot
invariant-loop-slot l = record {
  made : changed_all l.table l.columns l.change (drop l.slot-index l.slots) l.tables ≡ changed_all l.table l.columns l.change l.slots l.fn.tables;
  noted : IsNoted l.fn.tables l.tables l.fn.undo.entries l.undo.entries;
  slots : AreSlots l.tables l.table (drop l.slot-index l.slots);
  spare : length (drop l.slot-index l.slots) ≤ l.undo.spare;
}
