use Rattle.line_pipeline.specs.Conn.{refused}
use Rattle.line_pipeline.proofs.TableLemmas.{kept, ends, goes_on, at_end, refused-twice}
use Rattle.line_pipeline.proofs.tables.ConnTable.refuse.Goals as goal

pub loop-id-preserved : goal.loop-id-preserved
loop-id-preserved c =
    let i = c.loop-id.invariant in (
      kept c.args.self.now c.loop-id.self c.apply.new.self _ i.0 c.apply.ensures,
      goes_on c.loop-id.self c.apply.new.self refused c.args.ready.now c.loop-id.id-index _ _ c.apply.ensures c.loop-id-test.true (λ conn listed. refused-twice conn) i.1,
    )

pub returns : goal.returns
returns c =
    let i = c.loop-id.invariant in
    ends c.args.self.now c.loop-id.self refused _ _ i.0 (at_end c.args.ready.now c.loop-id.id-index c.loop-id-test.false) i.1
