use Rattle.std.proofs.Common.{[]}
use Rattle.index_tree.proofs.Spotted.{chunk_parted, parted_firsts, cut_is}
use Rattle.index_tree.proofs.chunks.find.Goals as goal

pub chunk_of-chunk-requires : goal.chunk_of-chunk-requires
chunk_of-chunk-requires g c = parted_firsts (g.C.Cut.before c.args.cut.now) c.args.firsts.now c.args.chunks.now c.requires.shaped c.requires.firsts c.requires.parted

pub count_before-requires : goal.count_before-requires
count_before-requires g c = rw (c.in-Some.ensures.lookup.3.1 []) (chunk_parted (g.C.Cut.before c.args.cut.now) c.args.chunks.now c.chunk_of-chunk.result c.requires.parted)

pub returns-in-Some : goal.returns-in-Some
returns-in-Some g c =
    cut_is (g.C.Cut.before c.args.cut.now) c.args.chunks.now c.args.firsts.now c.requires.shaped c.requires.firsts c.requires.parted c.chunk_of-chunk.result c.count_before.result c.in-Some.found.now c.chunk_of-chunk.ensures c.in-Some.ensures.lookup.3.0 (c.in-Some.ensures.lookup.3.1 []) c.count_before.ensures
