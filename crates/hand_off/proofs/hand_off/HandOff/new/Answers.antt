use Rattle.hand_off.proofs.Orders.{begins}
use Rattle.hand_off.proofs.hand_off.HandOff.new.Goals as goal

pub ruled-requires-clause-rule : goal.ruled-requires-clause-rule
ruled-requires-clause-rule g c = begins
