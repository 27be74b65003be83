use Rattle.std.proofs.Common.{take}
use Rattle.batch_worker.specs.Linked.{Each}
use Rattle.batch_worker.specs.Receiving.{Receives}
use Rattle.batch_worker.proofs.links.Links.receive_each.Given as goal

abbrev pub invariant-loop-id : goal.invariant-loop-id
invariant-loop-id g l = Each g.L.Link.peer Receives (take l.id-index l.ready) l.fn.self l.self
