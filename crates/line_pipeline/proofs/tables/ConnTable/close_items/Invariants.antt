use Rattle.std.proofs.Common.{◌≡◌, drop, map}
use Rattle.line_pipeline.specs.Table.{all_changed}
use Rattle.line_pipeline.specs.Conn.{closed}
use Rattle.line_pipeline.proofs.tables.ConnTable.close_items.Given as goal

abbrev pub invariant-loop-item : goal.invariant-loop-item
invariant-loop-item l = (l.self ≡ record l.fn.self { conns = l.self.conns })
    × (all_changed (map (λ item. item.conn) (drop l.item-index l.items)) (closed l.reason) l.self.conns ≡ all_changed (map (λ item. item.conn) l.items) (closed l.reason) l.fn.self.conns)
