use Rattle.hand_off.proofs.Orders.{merges}
use Rattle.hand_off.proofs.hand_off.HandOff.join.Goals as goal

pub absorb-requires-clause-rule : goal.absorb-requires-clause-rule
absorb-requires-clause-rule g c = merges _ _ _ _ c.pass.invariant.some_part
