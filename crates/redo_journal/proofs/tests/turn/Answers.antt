use Rattle.std.proofs.Common.{◌∷◌, []}
use Rattle.redo_journal.proofs.WorkedExamples.{segment, second_segment}
use Rattle.redo_journal.proofs.tests.turn.Goals as goal

pub rotate-requires-clause-segment : goal.rotate-requires-clause-segment
rotate-requires-clause-segment c = record { number = 2; area = 7 ∷ 8 ∷ []; is = second_segment }

pub turn_over-requires-clause-segment : goal.turn_over-requires-clause-segment
turn_over-requires-clause-segment c = record { number = 0; area = 0 ∷ 0 ∷ 0 ∷ 0 ∷ []; is = segment }
