use Rattle.std.proofs.Common.{◌≡◌, map, take}
use Rattle.table_rows.specs.Entries.{cell_at}
use Rattle.change_set.proofs.net.key_of.Given as goal

abbrev pub invariant-loop-column : goal.invariant-loop-column
invariant-loop-column l = l.key.items ≡ map (cell_at l.row) (take l.column-index l.columns)
