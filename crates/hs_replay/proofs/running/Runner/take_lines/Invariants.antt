use Rattle.std.proofs.Common.{[], length}
use Rattle.hs_replay.specs.Running.{Leads}
use Rattle.hs_replay.proofs.running.Runner.take_lines.Given as goal

abbrev pub invariant-loop-alloc : goal.invariant-loop-alloc
invariant-loop-alloc g l = Leads l.fn.self l.self (g.K.Sink.taker l.fn.out) (g.K.Sink.taker l.out) []

abbrev pub decreases-loop-alloc : goal.decreases-loop-alloc
decreases-loop-alloc g l = length l.self.bytes
