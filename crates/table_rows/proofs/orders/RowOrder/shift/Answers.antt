use Rattle.std.proofs.Common.{◌≡◌, ℕ, true, List, Some, sym, ap, ◌∙◌, arith}
use Rattle.table_rows.specs.Entries.{row_under}
use Rattle.std.proofs.lemmas.List.{length-set}
use Rattle.table_rows.specs.StoreInside.{is_same}
use Rattle.table_rows.proofs.KeptRows.{live_within}
use Rattle.table_rows.proofs.OrderSteps.{live_row, marks_same}
use Rattle.table_rows.proofs.WalkChanges.{keyed_put, keyed_take}
use Rattle.table_rows.proofs.orders.RowOrder.shift.Goals as goal

pub returns-then-is_same-clause-order : goal.returns-then-is_same-clause-order
returns-then-is_same-clause-order c =
    let whole = c.args.self.now.whole.items in
    let rows = c.args.rows.now in
    let row = c.args.row.now in
    let order = c.requires.order in
    let live = live_row rows c.args.slot c.requires.live in
    let ties : is_same whole row (Some live.0) ≡ true =
    ap (is_same whole row) (sym live.1) ∙ ap (λ (cs : List ℕ). is_same cs row (row_under rows c.args.slot)) (sym c.as_slice.ensures.value) ∙ sym c.is_same.ensures ∙ c.if-is_same.true in
    let keyed = keyed_put whole rows c.args.slot (live_within rows c.args.slot live.0 live.1) row (keyed_take whole rows c.args.slot live.0 live.1 order.apart) c.requires.new in
    record {
      apart = keyed;
      walked = order.walked ∙ marks_same whole rows c.args.slot live.0 live.1 order.apart row keyed ties;
      room = omega (arith, order.room, length-set rows c.args.slot (Some row));
    }
