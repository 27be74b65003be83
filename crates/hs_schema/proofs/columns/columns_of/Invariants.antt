use Rattle.std.proofs.Common.{◌≡◌, ◌-◌, ◌≤◌, length}
use Rattle.hs_schema.specs.Reading.{columns_at, columns_of}
use Rattle.hs_schema.proofs.columns.columns_of.Given as goal

abbrev pub invariant-loop-alloc : goal.invariant-loop-alloc
invariant-loop-alloc l = record {
  most : length l.columns.items ≤ 64;
  read : columns_at (64 - length l.columns.items) l.columns.items l.line ≡ columns_of l.line;
}

abbrev pub decreases-loop-alloc : goal.decreases-loop-alloc
decreases-loop-alloc l = 64 - length l.columns.items
