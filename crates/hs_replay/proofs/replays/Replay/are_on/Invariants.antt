use Rattle.std.proofs.Common.{◌≡◌, drop}
use Rattle.std.specs.List.{list_all}
use Rattle.hs_replay.specs.Script.{is_port, port_in}
use Rattle.hs_replay.proofs.replays.Replay.are_on.Given as goal

-- the numbers that are left decide
abbrev pub invariant-loop-number : goal.invariant-loop-number
invariant-loop-number l =
    list_all (λ number. is_port (port_in number l.self) l.port) (drop l.number-index l.numbers) ≡ list_all (λ number. is_port (port_in number l.self) l.port) l.numbers
