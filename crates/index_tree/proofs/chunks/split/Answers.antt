use Rattle.std.proofs.Common.{[], ap, ◌∙◌, length, arith, length-drop}
use Rattle.std.proofs.lemmas.List.{get_or_read}
use Rattle.index_tree.proofs.Beginnings.{split_firsts, may_read}
use Rattle.index_tree.proofs.chunks.split.Goals as goal

pub bounds-as_slice-0 : goal.bounds-as_slice-0
bounds-as_slice-0 g c =
    let read = ap length (get_or_read c.args.chunks.now.items c.args.at _ (omega arith) c.index_mut.ensures.value []) in
    omega (arith, ap length (c.as_slice.ensures ∙ c.split_into.ensures.upper), length-drop 128 c.index_mut.result.now)

pub returns-clause-firsts : goal.returns-clause-firsts
returns-clause-firsts g c =
    rw (c.in-Ok.ensures.items, c.in-Ok-insert.ensures.items) (split_firsts c.args.firsts.now.items c.args.chunks.now.items c.args.at _ c.index_mut.result.now c.split_into.new.self c.split_into.new.upper c.requires.firsts (omega arith) c.index_mut.ensures.value c.split_into.ensures.lower (rw (← c.as_slice.ensures) (may_read c.as_slice.result.now _ c.index-as_slice-0.is)))
