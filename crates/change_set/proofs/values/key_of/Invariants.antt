use Rattle.std.proofs.Common.{◌≡◌, drop}
use Rattle.change_set.specs.Fitting.{columns_at}
use Rattle.change_set.specs.Reading.{cells_at}
use Rattle.change_set.proofs.CellLoop.{with_front}
use Rattle.change_set.proofs.values.key_of.Given as goal

abbrev pub invariant-loop-place : goal.invariant-loop-place
invariant-loop-place l = with_front l.cells.items (cells_at (columns_at l.columns (drop l.place-index l.places)) l.rest) ≡ cells_at (columns_at l.columns l.places) l.bytes
