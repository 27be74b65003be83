use Rattle.std.proofs.Common.{◌<◌, length, set, None, ap, ◌∙◌, arith}
use Rattle.std.proofs.lemmas.List.{get_or_default}
use Rattle.table_rows.specs.StoreInside.{IsOrder, columns_in}
use Rattle.table_rows.proofs.OneStep.{all_done, all_left, same_mapped}
use Rattle.table_rows.proofs.rounds.leave_all.Goals as goal

pub loop-order-preserved : goal.loop-order-preserved
loop-order-preserved c =
    let xs = c.loop-order.orders in
    let i = c.loop-order.order-index in
    let new = c.leave.new.self in
    let kept_on = c.loop-order.invariant in
    let within : i < length xs = omega arith in
    let columns = same_mapped columns_in xs i new within (c.leave.ensures.columns ∙ ap columns_in (get_or_default xs i c.order-item.result new within)) in (
      all_done (IsOrder (set c.args.rows.now c.args.slot None)) xs i new within c.leave.ensures.order kept_on.0,
      all_left (IsOrder c.args.rows.now) xs i new within kept_on.1,
      columns ∙ kept_on.2,
    )
