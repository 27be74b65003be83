use Rattle.std.proofs.Common.{◌≡◌, drop}
use Rattle.std.specs.List.{list_any}
use Rattle.table_rows.specs.Entries.{cells}
use Rattle.table_rows.specs.Checks.{is_null}
use Rattle.table_rows.proofs.checks.has_null.Given as goal

abbrev pub invariant-loop-column : goal.invariant-loop-column
invariant-loop-column l = list_any is_null (cells (drop l.column-index l.columns) l.row) ≡ list_any is_null (cells l.columns l.row)
