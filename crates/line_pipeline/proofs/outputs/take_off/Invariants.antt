use Rattle.std.proofs.Common.{◌≡◌, ◌≤◌}
use Rattle.std.specs.VecDeque.{deque_len, deque_capacity}
use Rattle.line_pipeline.proofs.OutputLemmas.{IsTaking}
use Rattle.line_pipeline.proofs.outputs.take_off.Given as goal

abbrev pub invariant-loop-first : goal.invariant-loop-first
invariant-loop-first l = IsTaking l.texts.items l.fn.texts.items l.at l.left l.sent l.count
    × (deque_len l.texts ≤ deque_len l.fn.texts)
    × (deque_capacity l.texts ≡ deque_capacity l.fn.texts)

abbrev pub decreases-loop-first : goal.decreases-loop-first
decreases-loop-first l = deque_len l.texts
