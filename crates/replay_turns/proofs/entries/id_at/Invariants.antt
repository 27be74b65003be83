use Rattle.std.proofs.Common.{◌≡◌, drop}
use Rattle.replay_turns.specs.Entries.{id_at}
use Rattle.replay_turns.proofs.entries.id_at.Given as goal

abbrev pub invariant-loop-entry : goal.invariant-loop-entry
invariant-loop-entry l = id_at l.number (drop l.entry-index l.entries) ≡ id_at l.number l.entries
