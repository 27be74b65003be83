use Rattle.std.proofs.Common.{◌-◌, length, ap, arith}
use Rattle.index_tree.proofs.Rooms.{chunk_read}
use Rattle.index_tree.proofs.Places.{finds_front, finds_front_chunk, front_has}
use Rattle.index_tree.proofs.spot.Spot.last_until.Goals as goal

pub returns-then-self-ne0 : goal.returns-then-self-ne0
returns-then-self-ne0 g c pool =
    let some = c.if-self-ne0.true in
    finds_front c.args.chunks.now pool c.args.self.chunk (c.args.self.offset - 1) c.place.result _ (omega arith) (omega arith) c.place.ensures

pub overflow_sub-in_front-2 : goal.overflow_sub-in_front-2
overflow_sub-in_front-2 g c =
    let some = c.if-self-eq0.false in
    let has = front_has c.args.chunks.now c.args.self.chunk c.requires.shaped (omega arith) (omega arith) in
    let read = ap length (chunk_read c.args.chunks.now (c.args.self.chunk - 1) _ (omega arith) c.index-chunks-chunk.is) in
    omega arith

pub returns : goal.returns
returns g c pool =
    let some = c.if-self-eq0.false in
    let read = ap length (chunk_read c.args.chunks.now (c.args.self.chunk - 1) _ (omega arith) c.index-chunks-chunk.is) in
    rw c.if-self-ne0.false (finds_front_chunk c.args.chunks.now pool c.args.self.chunk c.place-2.result c.requires.shaped (omega arith) (omega arith) (omega arith))
