use Rattle.std.proofs.Common.{◌≡◌, length, drop}
use Rattle.find_modify.specs.Cells.{changed_row}
use Rattle.find_modify.proofs.cells.changed_row.Given as goal

abbrev pub invariant-loop-place : goal.invariant-loop-place
invariant-loop-place l = record {
  made : changed_row l.change.kind (drop l.place l.columns) (drop l.place l.values) l.cells.items ≡ changed_row l.change.kind l.columns l.values l.row;
  long : length l.cells.items ≡ length l.row;
}
