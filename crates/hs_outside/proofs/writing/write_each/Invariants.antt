use Rattle.std.proofs.Common.{◌≡◌, ℕ, List, ◌++◌, length}
use Rattle.hs_outside.specs.Streams.{Grew}
use Rattle.hs_outside.proofs.writing.write_each.Given as goal

abbrev pub invariant-loop-rest : goal.invariant-loop-rest
invariant-loop-rest g l = (done : List ℕ) × (l.bytes ≡ done ++ l.rest) × Grew (g.K.Sink.taker l.fn.sink) (g.K.Sink.taker l.sink) done × ((g.K.Sink.taker l.sink).faults ≡ (g.K.Sink.taker l.fn.sink).faults)

abbrev pub decreases-loop-rest : goal.decreases-loop-rest
decreases-loop-rest g l = length l.rest
