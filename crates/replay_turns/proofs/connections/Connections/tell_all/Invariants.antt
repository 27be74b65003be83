use Rattle.std.proofs.Common.{◌≡◌, ◌++◌, drop}
use Rattle.replay_turns.specs.Telling.{told_each}
use Rattle.replay_turns.proofs.connections.Connections.tell_all.Given as goal

abbrev pub invariant-loop-at : goal.invariant-loop-at
invariant-loop-at l =
    l.text.items ++ told_each (drop l.at l.listed) (drop l.at l.counts) l.self.conns ≡ l.fn.text.items ++ told_each l.listed l.counts l.self.conns
