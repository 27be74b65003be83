use Rattle.std.proofs.Common.{◌<◌, length, vec_len, ap, arith, rules}
use Rattle.index_tree.proofs.Rooms.{chunk_read, split_items, split_shaped, split_free}
use Rattle.index_tree.proofs.Shaped.{pool_has}
use Rattle.index_tree.proofs.chunks.make_room.Goals as goal

pub split-requires-clause-some : goal.split-requires-clause-some
split-requires-clause-some g c =
    let inside : c.args.spot.chunk < vec_len c.args.chunks.now = search rules in
    let read = ap length (chunk_read c.args.chunks.now.items c.args.spot.chunk _ (omega arith) c.index.ensures) in
    pool_has c.args.chunks.now.items c.args.spot.chunk (vec_len c.args.pool.now) c.requires.shaped (omega arith) (omega arith)

pub split-requires-clause-room : goal.split-requires-clause-room
split-requires-clause-room g c = let some = split-requires-clause-some g c in omega arith

pub split-requires-clause-firsts_room : goal.split-requires-clause-firsts_room
split-requires-clause-firsts_room g c = let some = split-requires-clause-some g c in omega arith

pub beside_split-requires : goal.beside_split-requires
beside_split-requires g c = let inside : c.args.spot.chunk < vec_len c.args.chunks.now = search rules in omega arith

pub returns-clause-items : goal.returns-clause-items
returns-clause-items g c =
    let inside : c.args.spot.chunk < vec_len c.args.chunks.now = search rules in
    split_items c.args.chunks.now.items c.split.new.chunks.items c.args.spot.chunk (omega arith) c.split.ensures.parted

pub returns-clause-shaped : goal.returns-clause-shaped
returns-clause-shaped g c =
    let inside : c.args.spot.chunk < vec_len c.args.chunks.now = search rules in
    let read = ap length (chunk_read c.args.chunks.now.items c.args.spot.chunk _ (omega arith) c.index.ensures) in
    split_shaped c.args.chunks.now.items c.split.new.chunks.items c.args.spot.chunk c.requires.shaped (omega arith) (omega arith) c.split.ensures.parted

pub returns-clause-free : goal.returns-clause-free
returns-clause-free g c =
    let inside : c.args.spot.chunk < vec_len c.args.chunks.now = search rules in
    let read = ap length (chunk_read c.args.chunks.now.items c.args.spot.chunk _ (omega arith) c.index.ensures) in
    split_free c.args.chunks.now.items c.split.new.chunks.items c.args.spot.chunk c.args.spot.offset _ _ c.requires.shaped (omega arith) (omega arith) c.requires.within c.split.ensures.parted c.beside_split.ensures.chunk c.beside_split.ensures.offset
