use Rattle.std.proofs.Common.{◌≡◌, true}
use Rattle.std.specs.VecDeque.{deque_len}
use Rattle.std.specs.List.{AllByRecursion}
use Rattle.request_types.specs.Ids.{are_once}
use Rattle.line_pipeline.specs.Settled.{all_told, answered_by, HasPlace}
use Rattle.line_pipeline.proofs.tables.ConnTable.answer_each.Given as goal

abbrev pub invariant-loop-part : goal.invariant-loop-part
invariant-loop-part l = (l.self ≡ record l.fn.self { conns = l.self.conns })
    × (all_told l.parts.items l.self.conns ≡ all_told l.initial.parts.items l.fn.self.conns)
    × AllByRecursion (HasPlace l.self.conns) (answered_by l.parts.items)
    × (are_once (answered_by l.parts.items) ≡ true)

abbrev pub decreases-loop-part : goal.decreases-loop-part
decreases-loop-part l = deque_len l.parts
