use Rattle.std.proofs.Common.{◌≡◌, drop}
use Rattle.std.specs.List.{position_from}
use Rattle.row_types.specs.declared.columns.Column.{Column}
use Rattle.row_types.specs.Counted.{counted_of}
use Rattle.table_rows.proofs.counters.counted_of.Given as goal

abbrev pub invariant-loop-place : goal.invariant-loop-place
invariant-loop-place l = position_from (λ (c : Column). c.auto) l.place (drop l.place l.columns) ≡ counted_of l.columns
