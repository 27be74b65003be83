use Rattle.redo_journal.specs.Journal.{IsJournalOn}
use Rattle.hs_disk.specs.Sound.{images}
use Rattle.redo_journal.proofs.tests.refusals.Given as goal

abbrev pub invariant-loop : goal.invariant-loop
invariant-loop l = IsJournalOn l.journal l.disk.bytes (images l.disk)
