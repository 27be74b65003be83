use Rattle.std.proofs.Common.{◌<◌, arith}
use Rattle.index_tree.specs.Chunked.{chunk_at}
use Rattle.index_tree.proofs.Beginnings.{firsts_same, may_remove}
use Rattle.index_tree.proofs.firsts.note_removal.Goals as goal

pub returns-else-spot-eq0-clause-firsts : goal.returns-else-spot-eq0-clause-firsts
returns-else-spot-eq0-clause-firsts g c chunks are is =
    let some : 0 < c.args.spot.offset = omega arith in
    firsts_same c.args.firsts.now.items chunks c.args.spot.chunk c.args.chunk.now are (λ first may. rw is (may_remove (chunk_at chunks c.args.spot.chunk) c.args.spot.offset first some may))
