use Rattle.std.proofs.Common.{◌≡◌, List, length, remove, Some, None, slice_get, ap, subst, ◌∙◌, arith}
use Rattle.std.proofs.lemmas.List.{length-set}
use Rattle.std.proofs.lemmas.List.Edits.{length-remove}
use Rattle.table_rows.specs.declared.mark.Mark.{Mark}
use Rattle.table_rows.specs.Marks.{slot_marked}
use Rattle.table_rows.proofs.OrderSteps.{live_row, marks_taken}
use Rattle.table_rows.proofs.WalkChanges.{keyed_take}
use Rattle.table_rows.proofs.orders.RowOrder.leave.Goals as goal

pub returns-clause-order : goal.returns-clause-order
returns-clause-order c =
    let whole = c.args.self.now.whole.items in
    let rows = c.args.rows.now in
    let live = live_row rows c.args.slot c.requires.live in
    let order = c.requires.order in
    let (before, is_at, there) = c.place_of-place.ensures in
    let taken = c.remove_at.ensures.items before is_at in
    record {
      apart = keyed_take whole rows c.args.slot live.0 live.1 order.apart;
      walked = taken ∙ ap (λ (items : List Mark). remove items before) order.walked ∙ marks_taken whole rows c.args.slot live.0 live.1 order.apart before (subst (λ (items : List Mark). slot_marked (slice_get items before) ≡ Some c.args.slot) order.walked there);
      room = omega (arith, ap length taken, length-remove c.args.self.now.tree.items before is_at.within, c.remove_at.ensures.spare, order.room, length-set rows c.args.slot None);
    }
