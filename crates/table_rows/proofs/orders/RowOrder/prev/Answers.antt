use Rattle.std.proofs.Common.{◌≡◌, List, Some, slice_get, option_and_then, ap, subst, ◌∙◌}
use Rattle.index_tree.specs.Contents.{one_before}
use Rattle.table_rows.specs.declared.mark.Mark.{Mark}
use Rattle.table_rows.specs.Marks.{slot_marked}
use Rattle.table_rows.proofs.OrderSteps.{live_row, mark_in_front}
use Rattle.table_rows.proofs.orders.RowOrder.prev.Goals as goal

pub returns : goal.returns
returns c =
    let whole = c.args.self.now.whole.items in
    let rows = c.args.rows.now in
    let live = live_row rows c.args.slot c.requires.live in
    let order = c.requires.order in
    let (before, is_at, there) = c.place_of.ensures in
    c.slot_at.ensures _ (c.prev.ensures.in_front before is_at)
    ∙ ap (λ (items : List Mark). slot_marked (option_and_then (slice_get items) (one_before before))) order.walked
    ∙ mark_in_front whole rows c.args.slot live.0 live.1 order.apart before (subst (λ (items : List Mark). slot_marked (slice_get items before) ≡ Some c.args.slot) order.walked there)
