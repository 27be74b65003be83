use Rattle.std.proofs.Common.{◌≡◌, List, [], drop, ap, ◌∙◌}
use Rattle.std.proofs.lemmas.List.{take_rest}
use Rattle.index_tree.proofs.chunk.Chunk.split_into.Goals as goal

pub returns-clause-upper : goal.returns-clause-upper
returns-clause-upper g c =
    let empty : c.upper.inside.items.items ≡ [] = c.upper.view_is ∙ c.requires.empty in
    c.in-Ok.ensures.items ∙ rw empty (take_rest c.deref.result.now 128 ∙ ap (λ (xs : List g.row.T.Denot). drop 128 xs) (c.deref.ensures.value ∙ c.self.view_is))
