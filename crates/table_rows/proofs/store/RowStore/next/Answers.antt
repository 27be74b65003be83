use Rattle.std.proofs.Common.{ap, ◌∙◌}
use Rattle.table_rows.specs.Contents.{Contents}
use Rattle.table_rows.proofs.LiveSlots.{behind_live, walk_up, live_answer}
use Rattle.table_rows.proofs.store.RowStore.next.Goals as goal

pub returns-clause-live : goal.returns-clause-live
returns-clause-live c =
    let rows = c.as_slice.result.now in
    live_answer rows c.args.self.now.slots c.next.result _ c.next.ensures (c.as_slice.ensures.value ∙ ap (λ (s : Contents). s.slots) c.self.view_is) (behind_live rows c.args.slot _ (walk_up rows _))
