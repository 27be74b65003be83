use Rattle.std.proofs.Common.{ap, map}
use Rattle.request_types.specs.declared.batches.Item.{Item}
use Rattle.line_pipeline.specs.Conn.{closed}
use Rattle.line_pipeline.proofs.TableLemmas.{kept, ends, goes_on_by, at_end, closed-twice}
use Rattle.line_pipeline.proofs.tables.ConnTable.close_items.Goals as goal

pub loop-item-preserved : goal.loop-item-preserved
loop-item-preserved c =
    let i = c.loop-item.invariant in (
      kept c.args.self.now c.loop-item.self c.close.new.self _ i.0 c.close.ensures,
      goes_on_by (λ (item : Item). item.conn) c.loop-item.self c.close.new.self (closed c.args.reason) c.args.items.now c.loop-item.item-index c.item-item.result _ c.item-item.is c.close.ensures c.loop-item-test.true (closed-twice c.args.reason) i.1,
    )

pub returns : goal.returns
returns c =
    let i = c.loop-item.invariant in
    ends c.args.self.now c.loop-item.self (closed c.args.reason) _ _ i.0 (ap (map (λ (item : Item). item.conn)) (at_end c.args.items.now c.loop-item.item-index c.loop-item-test.false)) i.1
