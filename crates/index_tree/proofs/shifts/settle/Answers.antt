use Rattle.std.proofs.Common.{length, ap, arith}
use Rattle.index_tree.proofs.Rooms.{chunk_read}
use Rattle.index_tree.proofs.Shaped.{shaped_alone, shaped_nearly}
use Rattle.index_tree.proofs.shifts.settle.Goals as goal

pub returns-then-len-eq1-clause-shaped : goal.returns-then-len-eq1-clause-shaped
returns-then-len-eq1-clause-shaped g c = shaped_alone c.args.chunks.now.items c.args.short c.requires.nearly (omega arith)

pub returns-then-len-ge-HALF-clause-shaped : goal.returns-then-len-ge-HALF-clause-shaped
returns-then-len-ge-HALF-clause-shaped g c =
    let read = ap length (chunk_read c.args.chunks.now.items c.args.short _ c.requires.nearly.inside c.index.ensures) in
    shaped_nearly c.args.chunks.now.items c.args.short c.requires.nearly (omega arith)
