use Rattle.std.proofs.Common.{◌≡◌, ◌++◌, drop}
use Rattle.replay_turns.specs.Telling.{counts_of}
use Rattle.replay_turns.proofs.connections.Connections.counts.Given as goal

abbrev pub invariant-loop-number : goal.invariant-loop-number
invariant-loop-number l = l.counts.items ++ counts_of l.self.conns (drop l.number-index l.listed) ≡ counts_of l.self.conns l.listed
