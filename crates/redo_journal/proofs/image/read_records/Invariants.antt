use Rattle.std.proofs.Common.{◌-◌, length}
use Rattle.redo_journal.specs.Reading.{StandFrom}
use Rattle.redo_journal.proofs.image.read_records.Given as goal

abbrev pub invariant-loop-gate : goal.invariant-loop-gate
invariant-loop-gate l = StandFrom l.image l.first l.records.items l.gate

abbrev pub decreases-loop-gate : goal.decreases-loop-gate
decreases-loop-gate l = length l.image - l.gate
