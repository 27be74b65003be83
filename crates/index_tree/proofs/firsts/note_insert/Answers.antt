use Rattle.std.proofs.Common.{◌<◌, arith}
use Rattle.index_tree.specs.Chunked.{chunk_at}
use Rattle.index_tree.proofs.Beginnings.{firsts_set, firsts_same, may_insert, may_put}
use Rattle.index_tree.proofs.firsts.note_insert.Goals as goal

pub returns-then-spot-eq0-clause-firsts : goal.returns-then-spot-eq0-clause-firsts
returns-then-spot-eq0-clause-firsts g c chunks are within =
    firsts_set c.args.firsts.now.items chunks c.args.spot.chunk c.args.item _ are (may_put (chunk_at chunks c.args.spot.chunk) c.args.spot.offset c.args.item (omega arith))

pub returns-else-spot-eq0-clause-firsts : goal.returns-else-spot-eq0-clause-firsts
returns-else-spot-eq0-clause-firsts g c chunks are within =
    let some : 0 < c.args.spot.offset = omega arith in
    firsts_same c.args.firsts.now.items chunks c.args.spot.chunk _ are (λ first may. may_insert (chunk_at chunks c.args.spot.chunk) c.args.spot.offset c.args.item first some within may)
