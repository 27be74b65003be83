use Rattle.std.proofs.Common.{List, map, set, Option, Some, None, sym, refl, ap, subst, ◌∙◌}
use Rattle.std.specs.List.{AllByRecursion}
use Rattle.std.specs.Vec.{with_item, with_items}
use Rattle.row_types.specs.declared.values.Value.{Value}
use Rattle.table_rows.specs.declared.orders.RowOrder.{RowOrder}
use Rattle.table_rows.specs.Contents.{Contents, with_slot}
use Rattle.table_rows.specs.Entries.{Slots, kept, IsTaken}
use Rattle.table_rows.specs.StoreWalks.{IsNew}
use Rattle.table_rows.specs.StoreInside.{IsFresh, IsStore, columns_in, contents}
use Rattle.table_rows.proofs.KeptRows.{live_within}
use Rattle.table_rows.proofs.OrderSteps.{live_row}
use Rattle.table_rows.proofs.StoreSteps.{fresh_all, store_changed, view_changed}
use Rattle.table_rows.proofs.WalkChanges.{keyed_put, keyed_take}
use Rattle.table_rows.proofs.VacantSlots.{one_replaced}
use Rattle.table_rows.proofs.store.RowStore.replace.Goals as goal

pub shift_all-requires-clause-new : goal.shift_all-requires-clause-new
shift_all-requires-clause-new c =
    let s = c.self.inside in
    let store = c.self.invariant in
    let slot = c.args.slot in
    let rows = s.rows.items in
    let live = live_row rows slot (subst (λ (st : Contents). IsTaken st.slots slot) (sym c.self.view_is) c.requires.live) in
    let new = subst (λ (st : Contents). IsNew st.key c.args.row (kept (set st.slots slot None))) (sym c.self.view_is) c.requires.new in
    subst (λ (os : List RowOrder). AllByRecursion (IsFresh c.args.row (kept (set c.as_slice.result.now slot None))) os) (sym c.deref_mut.ensures.value)
    (subst (λ (rs : Slots). AllByRecursion (IsFresh c.args.row (kept (set rs slot None))) s.orders.items) (sym c.as_slice.ensures.value)
    (fresh_all s.key.items c.args.row (kept (set rows slot None)) s.orders.items store.columns new))

pub invariant_of-self : goal.invariant_of-self
invariant_of-self c =
    let s = c.self.inside in
    let store = c.self.invariant in
    let slot = c.args.slot in
    let rows = s.rows.items in
    let live = live_row rows slot (subst (λ (st : Contents). IsTaken st.slots slot) (sym c.self.view_is) c.requires.live) in
    let new = subst (λ (st : Contents). IsNew st.key c.args.row (kept (set st.slots slot None))) (sym c.self.view_is) c.requires.new in
    subst (λ (h : Option (List Value)). IsStore (record { key = s.key; orders = with_items s.orders c.shift_all.new.orders; rows = with_item s.rows slot h; vacant = s.vacant })) (sym c.replace.ensures.after)
    (store_changed s c.shift_all.new.orders (c.shift_all.ensures.columns ∙ ap (map columns_in) c.deref_mut.ensures.value) slot (Some c.args.row) s.vacant store c.as_slice.result.now c.as_slice.ensures.value c.shift_all.ensures.each
    (one_replaced rows slot live.0 c.args.row s.vacant.items store.vacant live.1) refl
    (keyed_put s.key.items rows slot (live_within rows slot live.0 live.1) c.args.row (keyed_take s.key.items rows slot live.0 live.1 store.keyed) new))

pub returns-clause-row : goal.returns-clause-row
returns-clause-row c =
    let s = c.self.inside in
    let store = c.self.invariant in
    let slot = c.args.slot in
    let rows = s.rows.items in
    let live = live_row rows slot (subst (λ (st : Contents). IsTaken st.slots slot) (sym c.self.view_is) c.requires.live) in
    ap (λ (h : Option (List Value)). contents (record { key = s.key; orders = with_items s.orders c.shift_all.new.orders; rows = with_item s.rows slot h; vacant = s.vacant })) c.replace.ensures.after
    ∙ view_changed s c.shift_all.new.orders (c.shift_all.ensures.columns ∙ ap (map columns_in) c.deref_mut.ensures.value) slot (Some c.args.row) s.vacant ∙ ap (λ (st : Contents). with_slot st slot (Some c.args.row)) c.self.view_is
