use Rattle.std.proofs.Common.{List, ◌∷◌, length, map, set, Option, None, sym, ap, subst, ◌∙◌, arith}
use Rattle.std.specs.Vec.{with_item, with_items}
use Rattle.row_types.specs.declared.values.Value.{Value}
use Rattle.table_rows.specs.Contents.{Contents, with_slot}
use Rattle.table_rows.specs.Entries.{IsTaken}
use Rattle.table_rows.specs.StoreInside.{AreVacant, IsStore, columns_in, contents}
use Rattle.table_rows.proofs.OrderSteps.{live_row}
use Rattle.table_rows.proofs.StoreSteps.{store_changed, view_changed}
use Rattle.table_rows.proofs.VacantSlots.{one_vacated}
use Rattle.table_rows.proofs.WalkChanges.{keyed_take}
use Rattle.std.proofs.lemmas.List.{length-append}
use Rattle.table_rows.proofs.KeptRows.{count_kept, kept_live, before, after}
use Rattle.table_rows.proofs.store.RowStore.take.Goals as goal

pub push_reserved-requires : goal.push_reserved-requires
push_reserved-requires c =
    let s = c.self.inside in
    let store = c.self.invariant in
    let slot = c.args.slot in
    let rows = s.rows.items in
    let live = live_row rows slot (subst (λ (st : Contents). IsTaken st.slots slot) (sym c.self.view_is) c.requires) in
    omega (arith, s.vacant.ok.0, store.vacant.count, store.room, count_kept rows, ap length (kept_live rows slot live.0 live.1), length-append (before rows slot) ((live.0, slot) ∷ after rows slot))

pub invariant_of-self : goal.invariant_of-self
invariant_of-self c =
    let s = c.self.inside in
    let store = c.self.invariant in
    let slot = c.args.slot in
    let rows = s.rows.items in
    let live = live_row rows slot (subst (λ (st : Contents). IsTaken st.slots slot) (sym c.self.view_is) c.requires) in
    subst (λ (h : Option (List Value)). IsStore (record { key = s.key; orders = with_items s.orders c.leave_all.new.orders; rows = with_item s.rows slot h; vacant = c.push_reserved.new.self })) (sym c.replace.ensures.after)
    (store_changed s c.leave_all.new.orders (c.leave_all.ensures.columns ∙ ap (map columns_in) c.deref_mut.ensures.value) slot None c.push_reserved.new.self store c.as_slice.result.now c.as_slice.ensures.value c.leave_all.ensures.each
    (subst (AreVacant (set rows slot None)) (sym c.push_reserved.ensures.items) (one_vacated rows slot live.0 s.vacant.items store.vacant live.1)) c.push_reserved.ensures.capacity
    (keyed_take s.key.items rows slot live.0 live.1 store.keyed))

pub returns-clause-vacant : goal.returns-clause-vacant
returns-clause-vacant c =
    let s = c.self.inside in
    let store = c.self.invariant in
    let slot = c.args.slot in
    let rows = s.rows.items in
    let live = live_row rows slot (subst (λ (st : Contents). IsTaken st.slots slot) (sym c.self.view_is) c.requires) in
    ap (λ (h : Option (List Value)). contents (record { key = s.key; orders = with_items s.orders c.leave_all.new.orders; rows = with_item s.rows slot h; vacant = c.push_reserved.new.self })) c.replace.ensures.after
    ∙ view_changed s c.leave_all.new.orders (c.leave_all.ensures.columns ∙ ap (map columns_in) c.deref_mut.ensures.value) slot None c.push_reserved.new.self ∙ ap (λ (st : Contents). with_slot st slot None) c.self.view_is
