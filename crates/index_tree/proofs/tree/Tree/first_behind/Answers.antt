use Rattle.index_tree.proofs.Places.{inside_found}
use Rattle.index_tree.proofs.Searched.{found_behind}
use Rattle.index_tree.proofs.tree.Tree.first_behind.Goals as goal

pub returns-clause-first : goal.returns-clause-first
returns-clause-first g c =
    let test = g.C.Cut.before c.args.cut.now in
    let chunks = c.self.inside.chunks.items in
    let pool = c.self.inside.pool.items in
    let parted = rw (← c.self.view_is) at c.requires.parted in
    let cut = rw c.as_slice.ensures.value at c.find-spot.ensures in
    let found = rw c.as_slice-3.ensures.value at (c.first_from.ensures pool) in
    rw (← c.self.view_is) (found_behind chunks pool test parted _ _ cut c.first_from.result found)

pub returns-clause-inside : goal.returns-clause-inside
returns-clause-inside g c = inside_found c.args.self.now _ c.first_from.result (returns-clause-first g c)
