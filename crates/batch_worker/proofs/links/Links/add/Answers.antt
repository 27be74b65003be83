use Rattle.std.proofs.Common.{ap, set, Some, subst}
use Rattle.line_pipeline.specs.Table.{Table}
use Rattle.batch_worker.specs.Linked.{LinkTable, KeepsLinks}
use Rattle.batch_worker.proofs.Joined.{joined-kept, joined-linked}
use Rattle.batch_worker.proofs.links.Links.add.Goals as goal

pub invariant_of-self : goal.invariant_of-self
invariant_of-self g c =
    let added = c.in-Ok.ensures in (
      joined-linked c.self.inside.table c.add.new.self c.self.inside.links.items c.in-Ok.id _ c.args.link added.joins
          (ap (λ (t : Table). t.places) added.rest) added.number added.free c.self.invariant.0,
      c.self.invariant.1,
    )

pub returns-in-Ok-clause-others : goal.returns-in-Ok-clause-others
returns-in-Ok-clause-others g c =
    let old = c.self.inside in
    subst (λ (t : LinkTable g.row.L.Denot). KeepsLinks t.table.conns t.links (set old.links.items c.in-Ok.id.number (Some c.args.link))) c.self.view_is
    (joined-kept old.table.conns old.links.items c.in-Ok.id c.args.link c.in-Ok.ensures.free)
