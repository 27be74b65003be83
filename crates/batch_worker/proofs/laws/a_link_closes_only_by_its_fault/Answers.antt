use Rattle.batch_worker.proofs.Served.{receives-cause, passes-cause}
use Rattle.batch_worker.proofs.laws.a_link_closes_only_by_its_fault.Goals as goal

pub returns-clause-receiving : goal.returns-clause-receiving
returns-clause-receiving c = receives-cause

pub returns-clause-sending : goal.returns-clause-sending
returns-clause-sending c = passes-cause
