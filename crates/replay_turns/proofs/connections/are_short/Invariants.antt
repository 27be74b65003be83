use Rattle.std.proofs.Common.{◌≡◌, drop}
use Rattle.replay_turns.specs.Entries.{are_short}
use Rattle.replay_turns.proofs.connections.are_short.Given as goal

abbrev pub invariant-loop-id : goal.invariant-loop-id
invariant-loop-id l = are_short l.links (drop l.id-index l.ids) ≡ are_short l.links l.ids
