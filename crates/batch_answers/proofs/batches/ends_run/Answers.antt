use Rattle.batch_answers.proofs.Fits.{ends_last}
use Rattle.batch_answers.proofs.batches.ends_run.Goals as goal

pub returns-in-None : goal.returns-in-None
returns-in-None c = ends_last c.args.items.now c.args.place c.in-None.ensures.lookup.3
