use Rattle.std.proofs.Common.{◌≡◌, length, rules}
use Rattle.std.proofs.lemmas.List.{nil_from_length}
use Rattle.index_tree.proofs.Walked.{from_last, items_but_last, through_last}
use Rattle.index_tree.proofs.walk.last_at_hand.Goals as goal

pub returns-in-Some-clause-same : goal.returns-in-Some-clause-same
returns-in-Some-clause-same g c =
    let none : length c.args.left.now ≡ 0 = search rules in
    from_last c.args.rest.now c.in-Some.others.now c.in-Some.chunk.now c.args.left.now c.as_slice.result.now c.in-Some.ensures.cases.0 (nil_from_length c.args.left.now none) c.as_slice.ensures

pub returns-in-Some-clause-items : goal.returns-in-Some-clause-items
returns-in-Some-clause-items g c = items_but_last c.args.rest.now c.in-Some.others.now c.in-Some.chunk.now c.in-Some.ensures.cases.0 c.requires

pub returns-in-Some-clause-through : goal.returns-in-Some-clause-through
returns-in-Some-clause-through g c = through_last c.args.rest.now c.in-Some.others.now c.in-Some.chunk.now c.as_slice.result.now c.in-Some.ensures.cases.0 c.requires c.as_slice.ensures
