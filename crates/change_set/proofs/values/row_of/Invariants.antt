use Rattle.std.proofs.Common.{◌≡◌, drop}
use Rattle.change_set.specs.Reading.{cells_at}
use Rattle.change_set.proofs.CellLoop.{with_front}
use Rattle.change_set.proofs.values.row_of.Given as goal

abbrev pub invariant-loop-column : goal.invariant-loop-column
invariant-loop-column l = with_front l.cells.items (cells_at (drop l.column-index l.columns) l.rest) ≡ cells_at l.columns l.bytes
