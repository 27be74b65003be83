use Rattle.std.proofs.Common.{take}
use Rattle.table_rows.specs.GoingBack.{CanGoBack}
use Rattle.change_set.specs.Steps.{AreFilled}
use Rattle.change_set.proofs.filling.put_all.Given as goal

abbrev pub invariant-loop-change : goal.invariant-loop-change
invariant-loop-change l = record {
  filled : AreFilled (take l.change-index l.changes) l.fn.tables l.tables;
  back : CanGoBack l.fn.tables l.tables l.fn.undo.entries l.undo.entries;
}
