use Rattle.std.proofs.Common.{◌+◌, ◌<◌, length, ap, ◌∙◌, arith}
use Rattle.std.proofs.lemmas.List.{get_or_default}
use Rattle.table_rows.specs.StoreInside.{IsOrder, HasRoom, columns_in}
use Rattle.table_rows.proofs.OneStep.{all_done, all_set, same_mapped}
use Rattle.table_rows.proofs.rounds.grow_all.Goals as goal

pub returns-in_err-grow-clause-columns : goal.returns-in_err-grow-clause-columns
returns-in_err-grow-clause-columns c =
    let xs = c.loop-order.orders in
    let i = c.loop-order.order-index in
    let new = c.grow.new.self in
    let kept_on = c.loop-order.invariant in
    let within : i < length xs = omega arith in
    let columns = same_mapped columns_in xs i new within (c.grow.ensures.columns ∙ ap columns_in (get_or_default xs i c.order-item.result new within)) in
    columns ∙ kept_on.2

pub loop-order-preserved : goal.loop-order-preserved
loop-order-preserved c =
    let xs = c.loop-order.orders in
    let i = c.loop-order.order-index in
    let new = c.grow.new.self in
    let kept_on = c.loop-order.invariant in
    let within : i < length xs = omega arith in
    let columns = same_mapped columns_in xs i new within (c.grow.ensures.columns ∙ ap columns_in (get_or_default xs i c.order-item.result new within)) in (
      all_set (IsOrder c.args.rows.now) xs i new c.grow.ensures.order kept_on.0,
      all_done (HasRoom (length c.args.rows.now + c.args.more)) xs i new within c.in_ok-grow.ensures.room kept_on.1,
      columns ∙ kept_on.2,
    )
