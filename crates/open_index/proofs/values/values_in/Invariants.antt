use Rattle.std.proofs.Common.{◌≡◌, drop}
use Rattle.open_index.specs.Values.{values_in}
use Rattle.open_index.proofs.Loops.{with_front}
use Rattle.open_index.proofs.values.values_in.Given as goal

abbrev pub invariant-loop-token : goal.invariant-loop-token
invariant-loop-token l = with_front l.values.items (values_in l.kind (drop l.token-index l.tokens)) ≡ values_in l.kind l.tokens
