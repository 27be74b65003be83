use Rattle.std.proofs.Common.{ap, ◌∙◌}
use Rattle.table_rows.specs.Contents.{Contents}
use Rattle.table_rows.proofs.LiveSlots.{find_live, walk_down, live_answer}
use Rattle.table_rows.proofs.store.RowStore.last_to.Goals as goal

pub returns-clause-live : goal.returns-clause-live
returns-clause-live c =
    let rows = c.as_slice.result.now in
    live_answer rows c.args.self.now.slots c.last_to.result _ c.last_to.ensures (c.as_slice.ensures.value ∙ ap (λ (s : Contents). s.slots) c.self.view_is) (find_live rows _ _ (walk_down rows _))
