use Rattle.std.proofs.Common.{◌≡◌, drop}
use Rattle.std.specs.List.{position_from}
use Rattle.table_rows.specs.Checks.{clashes, dup_index, others}
use Rattle.table_rows.proofs.dups.dup_index.Given as goal

abbrev pub invariant-loop-i : goal.invariant-loop-i
invariant-loop-i l =
    position_from (clashes (others l.instead l.table.rows.entries) l.row) l.i (drop l.i l.indexes) ≡ dup_index l.indexes l.row (others l.instead l.table.rows.entries)
