use Rattle.std.proofs.Common.{arith}
use Rattle.index_tree.proofs.Beginnings.{without_firsts, renewed}
use Rattle.index_tree.proofs.Evened.{merged}
use Rattle.index_tree.proofs.shifts.merge.Goals as goal

pub returns-clause-items : goal.returns-clause-items
returns-clause-items g c = (merged c.args.chunks.now.items _ c.args.left _ _ _ (omega arith) c.requires.fits c.requires.others c.requires.half c.requires.both c.remove-emptied.ensures.value c.remove-emptied.ensures.items c.index_mut.ensures.value c.append.ensures.items).items

pub returns-clause-shaped : goal.returns-clause-shaped
returns-clause-shaped g c = (merged c.args.chunks.now.items _ c.args.left _ _ _ (omega arith) c.requires.fits c.requires.others c.requires.half c.requires.both c.remove-emptied.ensures.value c.remove-emptied.ensures.items c.index_mut.ensures.value c.append.ensures.items).shaped

pub returns-clause-firsts : goal.returns-clause-firsts
returns-clause-firsts g c =
    let size = c.remove-emptied.ensures.len in
    let are = without_firsts c.args.firsts.now.items c.remove.new.self.items c.args.chunks.now.items c.remove-emptied.new.self.items _ c.requires.firsts (omega arith) c.remove.ensures.items c.remove-emptied.ensures.items in
    renewed _ _ c.remove-emptied.new.self.items c.args.left _ _ are (omega arith) c.index.ensures c.renew_first.ensures.firsts
