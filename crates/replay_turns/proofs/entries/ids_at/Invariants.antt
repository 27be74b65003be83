use Rattle.std.proofs.Common.{◌≡◌, ◌++◌, drop}
use Rattle.replay_turns.specs.Entries.{ids_at}
use Rattle.replay_turns.proofs.entries.ids_at.Given as goal

abbrev pub invariant-loop-number : goal.invariant-loop-number
invariant-loop-number l = l.ids.items ++ ids_at l.entries (drop l.number-index l.numbers) ≡ ids_at l.entries l.numbers
