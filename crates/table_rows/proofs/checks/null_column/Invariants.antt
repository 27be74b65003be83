use Rattle.std.proofs.Common.{◌≡◌, drop, zip}
use Rattle.std.specs.List.{position_from}
use Rattle.table_rows.specs.Checks.{is_null_in, null_column}
use Rattle.table_rows.proofs.checks.null_column.Given as goal

abbrev pub invariant-loop-i : goal.invariant-loop-i
invariant-loop-i l = position_from is_null_in l.i (zip (drop l.i l.columns) (drop l.i l.row)) ≡ null_column l.columns l.row
