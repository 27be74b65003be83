use Rattle.std.proofs.Common.{◌≡◌, drop}
use Rattle.line_pipeline.specs.Table.{all_changed}
use Rattle.line_pipeline.specs.Conn.{refused}
use Rattle.line_pipeline.proofs.tables.ConnTable.refuse.Given as goal

abbrev pub invariant-loop-id : goal.invariant-loop-id
invariant-loop-id l = (l.self ≡ record l.fn.self { conns = l.self.conns })
    × (all_changed (drop l.id-index l.ready) refused l.self.conns ≡ all_changed l.ready refused l.fn.self.conns)
