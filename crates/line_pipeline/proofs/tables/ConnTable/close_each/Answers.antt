use Rattle.line_pipeline.specs.Conn.{closed}
use Rattle.line_pipeline.specs.declared.reasons.Reason.TheVariants as reasons
use Rattle.line_pipeline.proofs.TableLemmas.{kept, ends, goes_on, at_end, closed-twice}
use Rattle.line_pipeline.proofs.tables.ConnTable.close_each.Goals as goal

pub loop-id-preserved : goal.loop-id-preserved
loop-id-preserved c =
    let i = c.loop-id.invariant in (
      kept c.args.self.now c.loop-id.self c.close.new.self _ i.0 c.close.ensures,
      goes_on c.loop-id.self c.close.new.self (closed reasons.BatchMemory) c.args.ids.now c.loop-id.id-index _ _ c.close.ensures c.loop-id-test.true (λ conn listed. closed-twice reasons.BatchMemory conn) i.1,
    )

pub returns : goal.returns
returns c =
    let i = c.loop-id.invariant in
    ends c.args.self.now c.loop-id.self (closed reasons.BatchMemory) _ _ i.0 (at_end c.args.ids.now c.loop-id.id-index c.loop-id-test.false) i.1
