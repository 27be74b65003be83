use Rattle.std.proofs.Common.{◌≡◌, length, drop}
use Rattle.open_index.specs.Values.{values_of}
use Rattle.open_index.proofs.Loops.{with_front}
use Rattle.open_index.proofs.values.values_of.Given as goal

abbrev pub invariant-loop-place : goal.invariant-loop-place
invariant-loop-place l = record {
  read : with_front l.values.items (values_of (drop l.place l.columns) (drop l.place l.tokens)) ≡ values_of l.columns l.tokens;
  count : length l.values.items ≡ l.place;
}
