use Rattle.std.proofs.Common.{◌≤◌, List, length, reverse, ap, sym}
use Rattle.std.proofs.lemmas.Bool.{ltb-false}
use Rattle.index_tree.proofs.Walked.{none_in_front}
use Rattle.index_tree.proofs.walk.Walk.down.Goals as goal

pub returns-in-None : goal.returns-in-None
returns-in-None g c =
    let outside : length c.args.chunks.now ≤ c.args.spot.chunk = ltb-false _ _ (sym c.in-None.ensures.lookup.0) in
    ap (λ (xs : List g.row.T.Denot). reverse xs) (sym (none_in_front c.args.chunks.now c.args.spot.chunk c.args.spot.offset c.requires.inside outside))
