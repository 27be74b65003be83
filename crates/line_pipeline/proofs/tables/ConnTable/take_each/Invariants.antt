use Rattle.std.proofs.Common.{◌≡◌, drop, ◌++◌, true}
use Rattle.line_pipeline.specs.Table.{all_changed}
use Rattle.request_types.specs.Ids.{are_once}
use Rattle.line_pipeline.specs.Conn.{took, closed}
use Rattle.line_pipeline.specs.Gathered.{batch_of}
use Rattle.line_pipeline.specs.declared.reasons.Reason.TheVariants as reasons
use Rattle.line_pipeline.proofs.tables.ConnTable.take_each.Given as goal

abbrev pub invariant-loop-id : goal.invariant-loop-id
invariant-loop-id l = (l.self ≡ record l.fn.self { conns = l.self.conns })
    × (are_once (drop l.id-index l.ids) ≡ true)
    × (all_changed (drop l.id-index l.ids) (took l.self.schema) l.self.conns ≡ all_changed l.ids (took l.fn.self.schema) l.fn.self.conns)
    × (l.items ++ batch_of l.self.schema l.self.conns (drop l.id-index l.ids) ≡ l.fn.items ++ batch_of l.fn.self.schema l.fn.self.conns l.ids)
    × (all_changed l.ids (closed reasons.BatchMemory) l.self.conns ≡ all_changed l.ids (closed reasons.BatchMemory) l.fn.self.conns)
