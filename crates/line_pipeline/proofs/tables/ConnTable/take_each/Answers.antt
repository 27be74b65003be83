use Rattle.std.proofs.Common.{◌≡◌, ◌+◌, ◌∙◌, drop, ap}
use Rattle.std.proofs.lemmas.Bool.{both_ways}
use Rattle.row_types.specs.declared.tables.Schema.{Schema}
use Rattle.line_pipeline.specs.declared.reasons.Reason.TheVariants as reasons
use Rattle.line_pipeline.specs.Conn.{took, closed}
use Rattle.line_pipeline.specs.Table.{Table, all_changed}
use Rattle.line_pipeline.proofs.TableLemmas.{kept, ends, goes_on, at_end, closed-twice, closes_anyway}
use Rattle.line_pipeline.proofs.GatherLemmas.{batch-step, listed-at, once-on}
use Rattle.line_pipeline.proofs.tables.ConnTable.take_each.Goals as goal

pub returns-in_err-take_one-clause-others : goal.returns-in_err-take_one-clause-others
returns-in_err-take_one-clause-others c =
    closes_anyway (closed reasons.BatchMemory) c.args.ids.now _ c.loop-id.self.conns c.take_one.new.self.conns (closed-twice reasons.BatchMemory) (listed-at c.args.ids.now c.loop-id.id-index _ c.loop-id-test.true) c.in_err-take_one.ensures.others
    ∙ c.loop-id.invariant.4

pub loop-id-preserved : goal.loop-id-preserved
loop-id-preserved c =
    let i = c.loop-id.invariant in
    let now = c.loop-id.self in
    let new = c.take_one.new.self in
    let ids = c.args.ids.now in
    let at = c.loop-id.id-index in
    let rest = drop (at + 1) ids in
    let once = once-on ids at _ c.loop-id-test.true i.1 in
    let same : new ≡ record now { conns = new.conns } = c.in_ok-take_one.ensures.rest in
    let schema : new.schema ≡ now.schema = ap (λ (t : Table). t.schema) same in
    let took_it = c.in_ok-take_one.ensures.took in (
      kept c.args.self.now now new _ i.0 same,
      once.1,
      ap (λ (s : Schema). all_changed rest (took s) new.conns) schema
          ∙ goes_on now new (took now.schema) ids at _ _ took_it c.loop-id-test.true (λ conn listed. absurd (both_ways _ once.0 listed)) i.2,
      batch-step now new ids at _ c.loop-id.items c.take_one.new.items _ took_it c.in_ok-take_one.ensures.items c.loop-id-test.true once.0 i.3,
      closes_anyway (closed reasons.BatchMemory) ids _ now.conns new.conns (closed-twice reasons.BatchMemory) (listed-at ids at _ c.loop-id-test.true) c.in_ok-take_one.ensures.others
          ∙ i.4,
    )

pub returns-clause-took : goal.returns-clause-took
returns-clause-took c =
    let i = c.loop-id.invariant in
    ends c.args.self.now c.loop-id.self (took c.loop-id.self.schema) _ _ i.0 (at_end c.args.ids.now c.loop-id.id-index c.loop-id-test.false) i.2
