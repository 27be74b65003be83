use Rattle.batch_worker.proofs.Kept.{settled-linked}
use Rattle.batch_worker.proofs.links.Links.end_turn.Goals as goal

pub invariant_of-self : goal.invariant_of-self
invariant_of-self g c =
    let old = c.self.inside in (
      settled-linked old.table c.settle.new.self old.links.items c.args.batch.now c.args.outcome c.settle.ensures c.self.invariant.0,
      c.self.invariant.1,
    )
