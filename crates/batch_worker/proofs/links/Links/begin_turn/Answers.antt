use Rattle.line_pipeline.specs.Conn.{took, refused}
use Rattle.batch_worker.proofs.Kept.{gathered-linked}
use Rattle.batch_worker.proofs.links.Links.begin_turn.Goals as goal

pub invariant_of-self : goal.invariant_of-self
invariant_of-self g c =
    let old = c.self.inside in (
      gathered-linked c.gather.result old.table c.gather.new.self old.links.items c.args.ready.now (took old.table.schema) refused c.gather.ensures.took c.gather.ensures.refused c.self.invariant.0,
      c.self.invariant.1,
    )
