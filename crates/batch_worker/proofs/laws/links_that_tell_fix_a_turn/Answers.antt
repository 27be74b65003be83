use Rattle.batch_worker.proofs.TellsReceived.{receives-told}
use Rattle.batch_worker.proofs.TellsSent.{passes-told}
use Rattle.batch_worker.proofs.laws.links_that_tell_fix_a_turn.Goals as goal

pub returns-clause-receiving : goal.returns-clause-receiving
returns-clause-receiving c = receives-told

pub returns-clause-sending : goal.returns-clause-sending
returns-clause-sending c = passes-told
