use Rattle.std.proofs.Common.{◌≡◌, [], replicate}
use Rattle.index_tree.proofs.pool.empty_chunks.Given as goal

-- so many as the turns
abbrev pub invariant-loop : goal.invariant-loop
invariant-loop g l = l.made.items ≡ replicate l.counter []
