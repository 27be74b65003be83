use Rattle.std.proofs.Common.{arith}
use Rattle.index_tree.proofs.Beginnings.{renewed_pair}
use Rattle.index_tree.proofs.Evened.{shifted_up}
use Rattle.index_tree.proofs.shifts.shift_up.Goals as goal

pub returns-clause-items : goal.returns-clause-items
returns-clause-items g c = (shifted_up c.args.chunks.now.items c.args.left c.index_mut-lower.result.now c.remove-item.new.self c.index_mut.result.now c.insert.new.self c.remove-item.result (omega arith) c.requires.nearly c.requires.short c.requires.both c.index_mut-lower.ensures.value (rw (← c.len.ensures) c.remove-item.ensures.item) (rw (← c.len.ensures) c.remove-item.ensures.items) c.index_mut.ensures.value c.insert.ensures).items

pub returns-clause-shaped : goal.returns-clause-shaped
returns-clause-shaped g c = (shifted_up c.args.chunks.now.items c.args.left c.index_mut-lower.result.now c.remove-item.new.self c.index_mut.result.now c.insert.new.self c.remove-item.result (omega arith) c.requires.nearly c.requires.short c.requires.both c.index_mut-lower.ensures.value (rw (← c.len.ensures) c.remove-item.ensures.item) (rw (← c.len.ensures) c.remove-item.ensures.items) c.index_mut.ensures.value c.insert.ensures).shaped

pub returns-clause-firsts : goal.returns-clause-firsts
returns-clause-firsts g c =
    renewed_pair _ _ _ c.args.chunks.now.items c.args.left _ c.remove-item.new.self c.insert.new.self _ _ c.requires.firsts (λ e. omega (arith, e)) (omega arith) (omega arith) c.index.ensures c.index-2.ensures c.renew_first.ensures.firsts c.renew_first-2.ensures.firsts
