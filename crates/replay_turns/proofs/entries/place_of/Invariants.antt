use Rattle.std.proofs.Common.{◌≡◌, drop}
use Rattle.replay_turns.specs.Entries.{place_from}
use Rattle.replay_turns.proofs.entries.place_of.Given as goal

abbrev pub invariant-loop-at : goal.invariant-loop-at
invariant-loop-at l = place_from l.at l.number (drop l.at l.entries) ≡ place_from 0 l.number l.entries
