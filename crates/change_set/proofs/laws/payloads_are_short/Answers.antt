use Rattle.change_set.proofs.ShortPayload.{payload_short}
use Rattle.change_set.proofs.laws.payloads_are_short.Goals as goal

pub returns : goal.returns
returns c = payload_short
