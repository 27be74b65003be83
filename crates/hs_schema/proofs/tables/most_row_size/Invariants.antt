use Rattle.std.proofs.Common.{◌≡◌, ◌+◌, ◌*◌, ◌^◌, ◌≤◌, take}
use Rattle.std.specs.Prelude.{sum_by}
use Rattle.row_types.specs.Valid.{column_size}
use Rattle.hs_schema.proofs.tables.most_row_size.Given as goal

abbrev pub invariant-loop-column : goal.invariant-loop-column
invariant-loop-column l = record {
  size : l.size ≡ 64 + sum_by (λ c. column_size c.kind) (take l.column-index l.columns);
  bound : l.size ≤ 64 + 2 ^ 33 * l.column-index;
}
