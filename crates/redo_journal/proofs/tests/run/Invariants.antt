use Rattle.redo_journal.specs.Journal.{IsJournalOn}
use Rattle.hs_disk.specs.Sound.{images}
use Rattle.redo_journal.proofs.tests.run.Given as goal

abbrev pub invariant-loop-step : goal.invariant-loop-step
invariant-loop-step l = IsJournalOn l.journal l.disk.bytes (images l.disk)
