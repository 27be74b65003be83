use Rattle.hand_off.proofs.Orders.{pops, learns}
use Rattle.hand_off.proofs.hand_off.HandOff.take.Goals as goal

pub pop_as-requires-clause-rule : goal.pop_as-requires-clause-rule
pop_as-requires-clause-rule g c = (pops _ _ c.pass.invariant.some_part, learns _ _)
