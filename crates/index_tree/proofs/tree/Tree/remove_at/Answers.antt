use Rattle.std.proofs.Common.{◌<◌, List, length, remove, set, ap, subst, ◌∙◌, arith}
use Rattle.std.proofs.lemmas.List.{length-set}
use Rattle.index_tree.specs.Chunked.{chunk_at, AreFirsts}
use Rattle.index_tree.proofs.Beginnings.{read_set}
use Rattle.index_tree.proofs.Changed.{removed_at}
use Rattle.index_tree.proofs.Places.{spot_in}
use Rattle.index_tree.proofs.Rooms.{chunk_read}
use Rattle.index_tree.proofs.tree.Tree.remove_at.Goals as goal

pub index_mut-requires : goal.index_mut-requires
index_mut-requires g c =
    let chunks = c.self.inside.chunks.items in
    let spot = spot_in c.args.self.now chunks c.self.inside.pool.items c.self.view_is c.self.invariant.shaped c.args.place c.requires.0 c.requires.1 in
    let chunk = c.of-spot.ensures.chunk in
    omega (arith, spot.inside)

pub remove-item-requires : goal.remove-item-requires
remove-item-requires g c =
    let chunks = c.self.inside.chunks.items in
    let spot = spot_in c.args.self.now chunks c.self.inside.pool.items c.self.view_is c.self.invariant.shaped c.args.place c.requires.0 c.requires.1 in
    let chunk = c.of-spot.ensures.chunk in
    let read = ap length (chunk_read chunks c.of-spot.result.chunk _ (omega (arith, spot.inside)) c.index_mut.ensures.value) in
    let within : c.of-spot.result.offset < length (chunk_at chunks c.of-spot.result.chunk) = rw (c.of-spot.ensures.chunk, c.of-spot.ensures.offset) spot.within in
    omega arith

pub settle-requires-clause-nearly : goal.settle-requires-clause-nearly
settle-requires-clause-nearly g c =
    let chunks = c.self.inside.chunks.items in
    let spot = spot_in c.args.self.now chunks c.self.inside.pool.items c.self.view_is c.self.invariant.shaped c.args.place c.requires.0 c.requires.1 in
    (removed_at chunks c.args.place _ _ _ _ _ _ c.self.invariant.shaped spot c.of-spot.ensures.chunk c.of-spot.ensures.offset c.index_mut.ensures.value c.remove-item.ensures.item c.remove-item.ensures.items).nearly

pub index-requires : goal.index-requires
index-requires g c =
    let chunks = c.self.inside.chunks.items in
    let spot = spot_in c.args.self.now chunks c.self.inside.pool.items c.self.view_is c.self.invariant.shaped c.args.place c.requires.0 c.requires.1 in
    let chunk = c.of-spot.ensures.chunk in
    let inside : c.of-spot.result.chunk < length chunks = omega (arith, spot.inside) in
    omega (arith, length-set chunks c.of-spot.result.chunk c.remove-item.new.self)

pub note_removal-requires : goal.note_removal-requires
note_removal-requires g c =
    let chunks = c.self.inside.chunks.items in
    let spot = spot_in c.args.self.now chunks c.self.inside.pool.items c.self.view_is c.self.invariant.shaped c.args.place c.requires.0 c.requires.1 in
    let chunk = c.of-spot.ensures.chunk in
    let inside : c.of-spot.result.chunk < length chunks = omega (arith, spot.inside) in
    omega (arith, c.self.invariant.begun.number)

pub settle-requires-clause-firsts : goal.settle-requires-clause-firsts
settle-requires-clause-firsts g c =
    let chunks = c.self.inside.chunks.items in
    let spot = spot_in c.args.self.now chunks c.self.inside.pool.items c.self.view_is c.self.invariant.shaped c.args.place c.requires.0 c.requires.1 in
    let chunk = c.of-spot.ensures.chunk in
    let inside : c.of-spot.result.chunk < length chunks = omega (arith, spot.inside) in
    let same = read_set chunks c.of-spot.result.chunk c.remove-item.new.self c.index.result.now inside c.index.ensures in
    let there = chunk_read chunks c.of-spot.result.chunk c.index_mut.result.now inside c.index_mut.ensures.value in
    let is = same ∙ c.remove-item.ensures.items ∙ ap (λ (xs : List g.row.T.Denot). remove xs c.of-spot.result.offset) there in
    subst (λ (xs : List g.row.T.Denot). AreFirsts c.note_removal.new.firsts.items (set chunks c.of-spot.result.chunk xs)) same (c.note_removal.ensures.firsts chunks c.self.invariant.begun is)

pub invariant_of-self : goal.invariant_of-self
invariant_of-self g c =
    let chunks = c.self.inside.chunks.items in
    let spot = spot_in c.args.self.now chunks c.self.inside.pool.items c.self.view_is c.self.invariant.shaped c.args.place c.requires.0 c.requires.1 in
    let less = removed_at chunks c.args.place _ _ _ _ _ _ c.self.invariant.shaped spot c.of-spot.ensures.chunk c.of-spot.ensures.offset c.index_mut.ensures.value c.remove-item.ensures.item c.remove-item.ensures.items in
    let old = c.self.invariant in
    let same = ap length c.settle.ensures.items in
    record {
      shaped = c.settle.ensures.shaped;
      begun = c.settle.ensures.firsts;
      spent = c.settle.ensures.spent;
      counted = omega (arith, less.count);
      covered = omega (arith, less.count, less.size);
      few = omega (arith, less.size);
      room = omega (arith, less.size);
      firsts_room = omega (arith, less.size);
      pool_room = omega (arith, less.size);
    }

pub returns-clause-item : goal.returns-clause-item
returns-clause-item g c before is_at =
    let chunks = c.self.inside.chunks.items in
    let spot = spot_in c.args.self.now chunks c.self.inside.pool.items c.self.view_is c.self.invariant.shaped c.args.place before is_at in
    let less = removed_at chunks c.args.place before _ _ _ _ _ c.self.invariant.shaped spot c.of-spot.ensures.chunk c.of-spot.ensures.offset c.index_mut.ensures.value c.remove-item.ensures.item c.remove-item.ensures.items in
    rw (← c.self.view_is) less.taken

pub returns-clause-items : goal.returns-clause-items
returns-clause-items g c before is_at =
    let chunks = c.self.inside.chunks.items in
    let spot = spot_in c.args.self.now chunks c.self.inside.pool.items c.self.view_is c.self.invariant.shaped c.args.place before is_at in
    let less = removed_at chunks c.args.place before _ _ _ _ _ c.self.invariant.shaped spot c.of-spot.ensures.chunk c.of-spot.ensures.offset c.index_mut.ensures.value c.remove-item.ensures.item c.remove-item.ensures.items in
    rw (← c.self.view_is) (c.settle.ensures.items ∙ less.items)

pub returns-clause-spare : goal.returns-clause-spare
returns-clause-spare g c =
    let chunks = c.self.inside.chunks.items in
    let spot = spot_in c.args.self.now chunks c.self.inside.pool.items c.self.view_is c.self.invariant.shaped c.args.place c.requires.0 c.requires.1 in
    let less = removed_at chunks c.args.place _ _ _ _ _ _ c.self.invariant.shaped spot c.of-spot.ensures.chunk c.of-spot.ensures.offset c.index_mut.ensures.value c.remove-item.ensures.item c.remove-item.ensures.items in
    let old = c.self.invariant in
    let same = ap length c.settle.ensures.items in
    rw (← c.self.view_is) (omega (arith, less.count, less.size))
