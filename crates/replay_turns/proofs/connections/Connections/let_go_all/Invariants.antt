use Rattle.std.proofs.Common.{◌≡◌, drop}
use Rattle.replay_turns.specs.Told.{all_left}
use Rattle.replay_turns.proofs.connections.Connections.let_go_all.Given as goal

abbrev pub invariant-loop-number : goal.invariant-loop-number
invariant-loop-number l = record {
  rest : l.self ≡ record l.fn.self { conns = l.self.conns };
  left : all_left (drop l.number-index l.listed) l.self.conns ≡ all_left l.listed l.fn.self.conns;
}
