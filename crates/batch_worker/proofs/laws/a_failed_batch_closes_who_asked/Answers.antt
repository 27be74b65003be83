use Rattle.std.proofs.Common.{refl}
use Rattle.line_pipeline.specs.declared.outcomes.Outcome.TheVariants as outcomes
use Rattle.line_pipeline.specs.declared.reasons.Reason.TheVariants as reasons
use Rattle.batch_worker.specs.Turn.{settled_by}
use Rattle.batch_worker.proofs.Turned.{closes}
use Rattle.batch_worker.proofs.laws.a_failed_batch_closes_who_asked.Goals as goal

pub returns-clause-disk : goal.returns-clause-disk
returns-clause-disk g c ids old mid new batch id gathers passes asks =
    closes g.L.Link.peer ids old mid (settled_by mid batch outcomes.DiskFault) new batch reasons.BatchDisk id gathers refl passes asks

pub returns-clause-memory : goal.returns-clause-memory
returns-clause-memory g c ids old mid new batch id gathers passes asks =
    closes g.L.Link.peer ids old mid (settled_by mid batch outcomes.NoMemory) new batch reasons.BatchMemory id gathers refl passes asks
