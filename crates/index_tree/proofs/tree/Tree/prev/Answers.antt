use Rattle.std.proofs.Common.{arith}
use Rattle.index_tree.proofs.Places.{spot_in, inside_found}
use Rattle.index_tree.proofs.Searched.{found_prior}
use Rattle.index_tree.proofs.tree.Tree.prev.Goals as goal

pub last_until-requires-clause-within : goal.last_until-requires-clause-within
last_until-requires-clause-within g c =
    let chunks = c.self.inside.chunks.items in
    let spot = spot_in c.args.self.now chunks c.self.inside.pool.items c.self.view_is c.self.invariant.shaped c.args.place c.requires.0 c.requires.1 in
    rw (c.as_slice.ensures.value, c.of.ensures.chunk) (omega (arith, spot.within))

pub last_until-requires-clause-inside : goal.last_until-requires-clause-inside
last_until-requires-clause-inside g c above =
    let chunks = c.self.inside.chunks.items in
    let spot = spot_in c.args.self.now chunks c.self.inside.pool.items c.self.view_is c.self.invariant.shaped c.args.place c.requires.0 c.requires.1 in
    rw (c.as_slice.ensures.value, c.of.ensures.chunk) spot.inside

pub returns-clause-in_front : goal.returns-clause-in_front
returns-clause-in_front g c before is_at =
    let chunks = c.self.inside.chunks.items in
    let spot = spot_in c.args.self.now chunks c.self.inside.pool.items c.self.view_is c.self.invariant.shaped c.args.place before is_at in
    let pool = c.self.inside.pool.items in
    let found = rw c.as_slice.ensures.value at (c.last_until.ensures pool) in
    rw (← c.self.view_is) (found_prior chunks pool c.args.place before _ _ spot c.of.ensures.chunk c.of.ensures.offset c.last_until.result found)

pub returns-clause-inside : goal.returns-clause-inside
returns-clause-inside g c = inside_found c.args.self.now _ c.last_until.result (returns-clause-in_front g c c.requires.0 c.requires.1)
