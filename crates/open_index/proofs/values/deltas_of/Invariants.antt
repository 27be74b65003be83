use Rattle.std.proofs.Common.{◌≡◌, drop}
use Rattle.open_index.specs.Values.{deltas_of}
use Rattle.open_index.proofs.Loops.{with_front}
use Rattle.open_index.proofs.values.deltas_of.Given as goal

abbrev pub invariant-loop-place : goal.invariant-loop-place
invariant-loop-place l = with_front l.values.items (deltas_of (drop l.place l.columns) (drop l.place l.tokens)) ≡ deltas_of l.columns l.tokens
