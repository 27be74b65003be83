use Rattle.batch_worker.specs.Receiving.{Receives}
use Rattle.batch_worker.proofs.Placed.{each-none, each-next, each-all}
use Rattle.batch_worker.proofs.links.Links.receive_each.Goals as goal

pub loop-id-init : goal.loop-id-init
loop-id-init g c = each-none g.L.Link.peer Receives c.args.self.now

pub loop-id-preserved : goal.loop-id-preserved
loop-id-preserved g c =
    each-next g.L.Link.peer Receives c.args.ready.now c.loop-id.id-index _ c.args.self.now c.loop-id.self c.receive.new.self
    c.loop-id-test.true c.requires c.loop-id.invariant c.receive.ensures

pub returns : goal.returns
returns g c =
    each-all g.L.Link.peer Receives c.args.ready.now c.loop-id.id-index c.args.self.now c.loop-id.self c.loop-id-test.false c.loop-id.invariant
