use Rattle.std.proofs.Common.{◌+◌, List, length, ap, ◌∙◌, arith}
use Rattle.std.specs.List.{insert}
use Rattle.index_tree.specs.Chunked.{start}
use Rattle.index_tree.proofs.Changed.{inserted_at}
use Rattle.index_tree.proofs.Cuts.{put_is}
use Rattle.index_tree.proofs.Rooms.{chunk_read}
use Rattle.index_tree.proofs.tree.Tree.insert.Goals as goal

pub invariant_of-self : goal.invariant_of-self
invariant_of-self g c =
    let put = inserted_at c.make_room-free.new.chunks.items c.make_room-free.result.chunk c.make_room-free.result.offset (start c.self.inside.chunks.items c.find-spot.result.chunk + c.find-spot.result.offset) c.index_mut.result.now c.insert.new.self c.args.item c.make_room-free.ensures.shaped c.make_room-free.ensures.free c.index_mut.ensures.value c.insert.ensures in
    let old = c.self.invariant in
    let same = ap length c.make_room-free.ensures.items in
    let room = rw (← c.self.view_is) at c.requires.room in
    let chunks = c.make_room-free.new.chunks.items in
    let there = chunk_read chunks c.make_room-free.result.chunk c.index_mut.result.now c.make_room-free.ensures.free.inside c.index_mut.ensures.value in
    let is = c.insert.ensures ∙ ap (λ (xs : List g.row.T.Denot). insert xs c.make_room-free.result.offset c.args.item) there in
    record {
      shaped = put.shaped;
      begun = rw is (c.note_insert.ensures.firsts chunks c.make_room-free.ensures.firsts c.make_room-free.ensures.free.within);
      spent = c.make_room-free.ensures.spent;
      counted = omega (arith, put.count);
      covered = omega (arith, put.size);
      few = omega (arith, put.size);
      room = omega (arith, put.size);
      firsts_room = omega (arith, put.size);
      pool_room = omega (arith, put.size);
    }

pub returns-clause-items : goal.returns-clause-items
returns-clause-items g c =
    let put = inserted_at c.make_room-free.new.chunks.items c.make_room-free.result.chunk c.make_room-free.result.offset (start c.self.inside.chunks.items c.find-spot.result.chunk + c.find-spot.result.offset) c.index_mut.result.now c.insert.new.self c.args.item c.make_room-free.ensures.shaped c.make_room-free.ensures.free c.index_mut.ensures.value c.insert.ensures in
    let old = c.self.invariant in
    let same = ap length c.make_room-free.ensures.items in
    let room = rw (← c.self.view_is) at c.requires.room in
    let test = g.C.Cut.before c.args.cut.now in
    let parted = rw (← c.self.view_is) at c.requires.parted in
    let cut = rw c.as_slice.ensures.value at c.find-spot.ensures in
    let kept = ap (λ (xs : List g.row.T.Denot). insert xs (start c.self.inside.chunks.items c.find-spot.result.chunk + c.find-spot.result.offset) c.args.item) c.make_room-free.ensures.items in
    rw (← c.self.view_is) (put.items ∙ kept ∙ put_is test c.args.item _ parted _ cut.counted)

pub returns-clause-spare : goal.returns-clause-spare
returns-clause-spare g c =
    let put = inserted_at c.make_room-free.new.chunks.items c.make_room-free.result.chunk c.make_room-free.result.offset (start c.self.inside.chunks.items c.find-spot.result.chunk + c.find-spot.result.offset) c.index_mut.result.now c.insert.new.self c.args.item c.make_room-free.ensures.shaped c.make_room-free.ensures.free c.index_mut.ensures.value c.insert.ensures in
    let old = c.self.invariant in
    let same = ap length c.make_room-free.ensures.items in
    let room = rw (← c.self.view_is) at c.requires.room in
    rw (← c.self.view_is) (omega (arith, put.count, put.size))
