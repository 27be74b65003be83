use Rattle.std.proofs.Common.{◌<◌, Some, List, length, slice_get, ap, sym, ◌∙◌, arith}
use Rattle.std.proofs.lemmas.Option.{slice_get-get_or}
use Rattle.index_tree.specs.Chunked.{chunk_at}
use Rattle.index_tree.proofs.Changed.{read_at}
use Rattle.index_tree.proofs.Places.{spot_in}
use Rattle.index_tree.proofs.Rooms.{chunk_read}
use Rattle.index_tree.proofs.tree.Tree.item_at.Goals as goal

pub index-requires : goal.index-requires
index-requires g c =
    let chunks = c.self.inside.chunks.items in
    let spot = spot_in c.args.self.now chunks c.self.inside.pool.items c.self.view_is c.self.invariant.shaped c.args.place c.requires.0 c.requires.1 in
    let chunk = c.of-spot.ensures.chunk in
    omega (arith, spot.inside)

pub bounds-as_slice-spot : goal.bounds-as_slice-spot
bounds-as_slice-spot g c =
    let chunks = c.self.inside.chunks.items in
    let spot = spot_in c.args.self.now chunks c.self.inside.pool.items c.self.view_is c.self.invariant.shaped c.args.place c.requires.0 c.requires.1 in
    let chunk = c.of-spot.ensures.chunk in
    let read = chunk_read chunks c.of-spot.result.chunk _ (omega (arith, spot.inside)) c.index.ensures in
    let within : c.of-spot.result.offset < length (chunk_at chunks c.of-spot.result.chunk) = rw (c.of-spot.ensures.chunk, c.of-spot.ensures.offset) spot.within in
    omega (arith, ap length (c.as_slice.ensures ∙ read))

pub offset_bounds-as_slice-spot : goal.offset_bounds-as_slice-spot
offset_bounds-as_slice-spot g c = let below = bounds-as_slice-spot g c in omega arith

pub returns : goal.returns
returns g c before is_at =
    let chunks = c.self.inside.chunks.items in
    let spot = spot_in c.args.self.now chunks c.self.inside.pool.items c.self.view_is c.self.invariant.shaped c.args.place before is_at in
    let read = chunk_read chunks c.of-spot.result.chunk _ (rw c.of-spot.ensures.chunk spot.inside) c.index.ensures in
    let size = ap length (c.as_slice.ensures ∙ read) in
    let within : c.of-spot.result.offset < length (chunk_at chunks c.of-spot.result.chunk) = rw (c.of-spot.ensures.chunk, c.of-spot.ensures.offset) spot.within in
    let there = slice_get-get_or c.as_slice.result.now c.of-spot.result.offset c.index-as_slice-spot.result (omega arith) ∙ ap (λ (x : g.row.T.Denot). Some x) (sym c.index-as_slice-spot.is) in
    let here = ap (λ (xs : List g.row.T.Denot). slice_get xs c.of-spot.result.offset) (sym c.as_slice.ensures) ∙ there in
    rw (← c.self.view_is) (read_at chunks c.args.place before _ _ _ _ spot c.of-spot.ensures.chunk c.of-spot.ensures.offset c.index.ensures here)
