use Rattle.std.proofs.Common.{◌≡◌, drop}
use Rattle.line_pipeline.specs.Table.{all_changed}
use Rattle.line_pipeline.specs.Conn.{closed}
use Rattle.line_pipeline.specs.declared.reasons.Reason.TheVariants as reasons
use Rattle.line_pipeline.proofs.tables.ConnTable.close_each.Given as goal

abbrev pub invariant-loop-id : goal.invariant-loop-id
invariant-loop-id l = (l.self ≡ record l.fn.self { conns = l.self.conns })
    × (all_changed (drop l.id-index l.ids) (closed reasons.BatchMemory) l.self.conns ≡ all_changed l.ids (closed reasons.BatchMemory) l.fn.self.conns)
