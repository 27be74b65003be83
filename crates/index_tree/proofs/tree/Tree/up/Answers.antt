use Rattle.std.proofs.Common.{◌∙◌}
use Rattle.index_tree.proofs.Searched.{walked_up}
use Rattle.index_tree.proofs.tree.Tree.up.Goals as goal

pub returns : goal.returns
returns g c =
    let test = g.C.Cut.before c.args.cut.now in
    let chunks = c.self.inside.chunks.items in
    let pool = c.self.inside.pool.items in
    let parted = rw (← c.self.view_is) at c.requires.parted in
    let cut = rw c.as_slice.ensures.value at c.find-spot.ensures in
    let walked = rw c.as_slice-3.ensures.value at c.up.ensures in
    rw (← c.self.view_is) (walked ∙ walked_up chunks pool test parted _ _ cut)
