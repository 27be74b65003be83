use Rattle.std.proofs.Common.{◌≡◌, ◌+◌, ◌/◌, ◌%◌, ◌∙◌, ap, ℕ, arith}
use Rattle.index_tree.proofs.Places.{spot_in, inside_found}
use Rattle.index_tree.proofs.Searched.{found_after}
use Rattle.index_tree.proofs.tree.Tree.next.Goals as goal

pub first_from-requires-clause-within : goal.first_from-requires-clause-within
first_from-requires-clause-within g c =
    let chunks = c.self.inside.chunks.items in
    let spot = spot_in c.args.self.now chunks c.self.inside.pool.items c.self.view_is c.self.invariant.shaped c.args.place c.requires.0 c.requires.1 in
    let chunk : c.behind-spot.result.chunk ≡ c.args.place / 256 = c.behind-spot.ensures.chunk ∙ c.of.ensures.chunk in
    rw (c.as_slice.ensures.value, chunk) (omega (arith, spot.within))

pub first_from-requires-clause-inside : goal.first_from-requires-clause-inside
first_from-requires-clause-inside g c above =
    let chunks = c.self.inside.chunks.items in
    let spot = spot_in c.args.self.now chunks c.self.inside.pool.items c.self.view_is c.self.invariant.shaped c.args.place c.requires.0 c.requires.1 in
    let chunk : c.behind-spot.result.chunk ≡ c.args.place / 256 = c.behind-spot.ensures.chunk ∙ c.of.ensures.chunk in
    rw (c.as_slice.ensures.value, chunk) spot.inside

pub returns-clause-behind : goal.returns-clause-behind
returns-clause-behind g c before is_at =
    let chunks = c.self.inside.chunks.items in
    let spot = spot_in c.args.self.now chunks c.self.inside.pool.items c.self.view_is c.self.invariant.shaped c.args.place before is_at in
    let pool = c.self.inside.pool.items in
    let found = rw c.as_slice.ensures.value at (c.first_from.ensures pool) in
    let offset : c.behind-spot.result.offset ≡ c.args.place % 256 + 1 = c.behind-spot.ensures.offset ∙ ap (λ (n : ℕ). n + 1) c.of.ensures.offset in
    rw (← c.self.view_is) (found_after chunks pool c.args.place before _ _ spot (c.behind-spot.ensures.chunk ∙ c.of.ensures.chunk) offset c.first_from.result found)

pub returns-clause-inside : goal.returns-clause-inside
returns-clause-inside g c = inside_found c.args.self.now _ c.first_from.result (returns-clause-behind g c c.requires.0 c.requires.1)
