use Rattle.std.proofs.Common.{◌<◌, length, ap, arith}
use Rattle.index_tree.proofs.Rooms.{chunk_read}
use Rattle.index_tree.specs.Chunked.{chunk_at}
use Rattle.index_tree.proofs.Places.{finds_here, finds_next, finds_none}
use Rattle.index_tree.proofs.spot.Spot.first_from.Goals as goal
use Rattle.index_tree.proofs.spot.Spot.first_from.Goals.{else-self-chunks-via-then-self-chunks+else-self-len, else-self-chunks-via-else-self-chunks}

pub returns-then-self-len : goal.returns-then-self-len
returns-then-self-len g c pool =
    let read = ap length (chunk_read c.args.chunks.now c.args.self.chunk _ c.if-self-chunks.true c.index-chunks-self.is) in
    finds_here c.args.chunks.now pool c.args.self.chunk c.args.self.offset c.place.result (omega arith) c.place.ensures

pub returns-then-self-chunks-2 : goal.returns-then-self-chunks-2
returns-then-self-chunks-2 g c pool =
    let past : c.args.self.chunk < length c.args.chunks.now → c.args.self.offset < length (chunk_at c.args.chunks.now c.args.self.chunk) → ⊥ =
    elim c.else-self-chunks.branch [
      | else-self-chunks-via-then-self-chunks+else-self-len w ↦
          λ inside less. let read = ap length (chunk_read c.args.chunks.now c.args.self.chunk _ inside w.index-chunks-self.is) in omega arith
      | else-self-chunks-via-else-self-chunks w ↦ λ inside less. omega arith
    ]
    in
    finds_next c.args.chunks.now pool c.args.self.chunk c.args.self.offset c.place-then-self-chunks-2.result c.requires.shaped c.requires.within past c.if-self-chunks-2.true (omega arith)

pub returns : goal.returns
returns g c pool =
    let past : c.args.self.chunk < length c.args.chunks.now → c.args.self.offset < length (chunk_at c.args.chunks.now c.args.self.chunk) → ⊥ =
    elim c.else-self-chunks.branch [
      | else-self-chunks-via-then-self-chunks+else-self-len w ↦
          λ inside less. let read = ap length (chunk_read c.args.chunks.now c.args.self.chunk _ inside w.index-chunks-self.is) in omega arith
      | else-self-chunks-via-else-self-chunks w ↦ λ inside less. omega arith
    ]
    in
    finds_none c.args.chunks.now pool c.args.self.chunk c.args.self.offset c.requires.within past c.if-self-chunks-2.false
