use Rattle.std.proofs.Common.{ap, ◌∙◌}
use Rattle.table_rows.specs.Contents.{Contents}
use Rattle.table_rows.proofs.LiveSlots.{find_live, walk_up, live_answer}
use Rattle.std.proofs.Common.{length, ◌<◌, sym, subst, arith}
use Rattle.std.proofs.lemmas.List.{length-map}
use Rattle.table_rows.specs.declared.orders.RowOrder.{RowOrder}
use Rattle.table_rows.specs.StoreInside.{GoesBy}
use Rattle.table_rows.proofs.OneStep.{at_index}
use Rattle.table_rows.proofs.store.RowStore.first_like.Goals as goal

pub returns-clause-live : goal.returns-clause-live
returns-clause-live c =
    let rows = c.as_slice.result.now in
    live_answer rows c.args.self.now.slots c.first_like.result _ c.first_like.ensures (c.as_slice.ensures.value ∙ ap (λ (s : Contents). s.slots) c.self.view_is) (find_live rows _ _ (walk_up rows _))

pub first_like-requires-clause-columns : goal.first_like-requires-clause-columns
first_like-requires-clause-columns c =
    let s = c.self.inside in
    let within : c.args.index < length s.orders.items = omega (arith, ap (λ (st : Contents). length st.orders) c.self.view_is, length-map s.orders.items (λ (order : RowOrder). order.own.items), c.requires) in
    (s.key.items, subst (GoesBy s.key.items) (sym c.index.ensures) (at_index (GoesBy s.key.items) s.orders.items c.args.index c.index.result.now within c.self.invariant.columns))
