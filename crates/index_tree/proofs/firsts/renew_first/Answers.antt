use Rattle.std.proofs.Common.{List, slice_get, ap, sym, ◌∙◌}
use Rattle.index_tree.proofs.Beginnings.{firsts_set, firsts_same, may_first, may_none, no_first}
use Rattle.index_tree.proofs.firsts.renew_first.Goals as goal

pub returns-in-None-clause-firsts : goal.returns-in-None-clause-firsts
returns-in-None-clause-firsts g c chunks are =
    let none = no_first c.args.chunk.now (ap (λ (xs : List g.row.T.Denot). slice_get xs 0) (sym c.as_slice.ensures) ∙ sym c.in-None.ensures.value) in
    firsts_same c.args.firsts.now.items chunks c.args.number c.args.chunk.now are (λ first _. may_none c.args.chunk.now first none)

pub returns-in-Some-clause-firsts : goal.returns-in-Some-clause-firsts
returns-in-Some-clause-firsts g c chunks are =
    let there = ap (λ (xs : List g.row.T.Denot). slice_get xs 0) (sym c.as_slice.ensures) ∙ sym c.in-Some.ensures.value in
    firsts_set c.args.firsts.now.items chunks c.args.number c.in-Some.first.now c.args.chunk.now are (may_first c.args.chunk.now c.in-Some.first.now there)
