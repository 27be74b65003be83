use Rattle.std.proofs.Common.{take}
use Rattle.table_rows.specs.Database.{database_of}
use Rattle.table_rows.specs.GoingBack.{CanGoBack}
use Rattle.change_set.specs.Steps.{AreCleared, AreChanging}
use Rattle.change_set.proofs.clearing.clear_all.Given as goal

abbrev pub invariant-loop-change : goal.invariant-loop-change
invariant-loop-change l = record {
  cleared : AreCleared (take l.change-index l.changes) l.fn.tables l.tables;
  changing : AreChanging (database_of l.fn.tables) (take l.change-index l.changes);
  back : CanGoBack l.fn.tables l.tables l.fn.undo.entries l.undo.entries;
}
