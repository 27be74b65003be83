use Rattle.std.proofs.Common.{◌≡◌, ◌+◌, take}
use Rattle.std.specs.Prelude.{sum_by}
use Rattle.row_types.specs.Size.{value_size}
use Rattle.row_types.proofs.rows.row_size.Given as goal

abbrev pub invariant-loop-value : goal.invariant-loop-value
invariant-loop-value l = l.size ≡ 64 + sum_by value_size (take l.value-index l.row)
