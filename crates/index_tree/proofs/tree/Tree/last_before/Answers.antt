use Rattle.index_tree.proofs.Places.{inside_found}
use Rattle.index_tree.proofs.Searched.{found_before}
use Rattle.index_tree.proofs.tree.Tree.last_before.Goals as goal

pub returns-clause-last : goal.returns-clause-last
returns-clause-last g c =
    let test = g.C.Cut.before c.args.cut.now in
    let chunks = c.self.inside.chunks.items in
    let pool = c.self.inside.pool.items in
    let parted = rw (← c.self.view_is) at c.requires.parted in
    let cut = rw c.as_slice.ensures.value at c.find-spot.ensures in
    let found = rw c.as_slice-3.ensures.value at (c.last_until.ensures pool) in
    rw (← c.self.view_is) (found_before chunks pool test parted _ _ cut c.last_until.result found)

pub returns-clause-inside : goal.returns-clause-inside
returns-clause-inside g c = inside_found c.args.self.now _ c.last_until.result (returns-clause-last g c)
