use Rattle.std.proofs.Common.{◌-◌, length}
use Rattle.redo_journal.specs.Reading.{SkipsTo}
use Rattle.redo_journal.proofs.image.skip_records.Given as goal

abbrev pub invariant-loop-next : goal.invariant-loop-next
invariant-loop-next l = SkipsTo l.image l.first l.gate

abbrev pub decreases-loop-next : goal.decreases-loop-next
decreases-loop-next l = length l.image - l.gate
