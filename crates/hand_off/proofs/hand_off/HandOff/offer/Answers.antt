use Rattle.hand_off.proofs.Orders.{pushes, learns}
use Rattle.hand_off.proofs.hand_off.HandOff.offer.Goals as goal

pub push_as-requires-clause-rule : goal.push_as-requires-clause-rule
push_as-requires-clause-rule g c = (pushes _ _ _ _ c.pass.invariant.some_part, learns _ _)
