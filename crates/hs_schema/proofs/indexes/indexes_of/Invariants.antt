use Rattle.std.proofs.Common.{◌≡◌, ◌-◌, ◌≤◌, [], length}
use Rattle.hs_schema.specs.Reading.{indexes_at}
use Rattle.hs_schema.proofs.indexes.indexes_of.Given as goal

abbrev pub invariant-loop-alloc : goal.invariant-loop-alloc
invariant-loop-alloc l = record {
  most : length l.indexes.items ≤ 16;
  read : indexes_at (16 - length l.indexes.items) l.columns l.indexes.items l.line ≡ indexes_at 16 l.columns [] l.line;
}

abbrev pub decreases-loop-alloc : goal.decreases-loop-alloc
decreases-loop-alloc l = 16 - length l.indexes.items
