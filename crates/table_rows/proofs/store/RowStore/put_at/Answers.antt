use Rattle.std.proofs.Common.{List, map, set, Some, None, sym, ap, subst, ◌∙◌, arith}
use Rattle.std.specs.List.{AllByRecursion}
use Rattle.table_rows.specs.declared.orders.RowOrder.{RowOrder}
use Rattle.table_rows.specs.Contents.{Contents, with_slot}
use Rattle.table_rows.specs.Entries.{Slots, kept, IsFree}
use Rattle.table_rows.specs.StoreWalks.{IsNew, IsKeyed}
use Rattle.table_rows.specs.StoreInside.{IsOrder, IsFresh, AreVacant, columns_in}
use Rattle.table_rows.proofs.KeptRows.{vacant_within, vacant_itself}
use Rattle.table_rows.proofs.StoreSteps.{fresh_all, store_changed, view_changed}
use Rattle.table_rows.proofs.WalkChanges.{keyed_put}
use Rattle.table_rows.proofs.store.RowStore.put_at.Goals as goal

pub returns : goal.returns
returns c = view_changed c.self.inside c.enter_all.new.orders (c.enter_all.ensures.columns ∙ ap (map columns_in) c.deref_mut.ensures.value) c.args.slot (Some c.args.row) c.drop_slot.new.vacant ∙ ap (λ (st : Contents). with_slot st c.args.slot (Some c.args.row)) c.self.view_is

pub enter_all-requires-clause-each : goal.enter_all-requires-clause-each
enter_all-requires-clause-each c =
    let s = c.self.inside in
    let store = c.self.invariant in
    let slot = c.args.slot in
    let rows = s.rows.items in
    let vacant = subst (λ (st : Contents). IsFree st.slots slot) (sym c.self.view_is) c.requires.vacant in
    let itself = vacant_itself rows slot vacant in
    let new = subst (λ (st : Contents). IsNew st.key c.args.row (kept st.slots)) (sym c.self.view_is) c.requires.new in
    subst (λ (os : List RowOrder). AllByRecursion (IsOrder (set c.as_slice-2.result.now slot None)) os) (sym c.deref_mut.ensures.value)
    (subst (λ (rs : Slots). AllByRecursion (IsOrder rs) s.orders.items) (sym itself ∙ ap (λ (rs : Slots). set rs slot None) (sym c.as_slice-2.ensures.value)) store.orders)

pub enter_all-requires-clause-new : goal.enter_all-requires-clause-new
enter_all-requires-clause-new c =
    let s = c.self.inside in
    let store = c.self.invariant in
    let slot = c.args.slot in
    let rows = s.rows.items in
    let vacant = subst (λ (st : Contents). IsFree st.slots slot) (sym c.self.view_is) c.requires.vacant in
    let itself = vacant_itself rows slot vacant in
    let new = subst (λ (st : Contents). IsNew st.key c.args.row (kept st.slots)) (sym c.self.view_is) c.requires.new in
    subst (λ (os : List RowOrder). AllByRecursion (IsFresh c.args.row (kept (set c.as_slice-2.result.now slot None))) os) (sym c.deref_mut.ensures.value)
    (subst (λ (rs : Slots). AllByRecursion (IsFresh c.args.row (kept rs)) s.orders.items) (sym itself ∙ ap (λ (rs : Slots). set rs slot None) (sym c.as_slice-2.ensures.value))
    (fresh_all s.key.items c.args.row (kept rows) s.orders.items store.columns new))

pub index_mut-requires : goal.index_mut-requires
index_mut-requires c =
    let s = c.self.inside in
    let store = c.self.invariant in
    let slot = c.args.slot in
    let rows = s.rows.items in
    let vacant = subst (λ (st : Contents). IsFree st.slots slot) (sym c.self.view_is) c.requires.vacant in
    let itself = vacant_itself rows slot vacant in
    let new = subst (λ (st : Contents). IsNew st.key c.args.row (kept st.slots)) (sym c.self.view_is) c.requires.new in
    omega (arith, vacant_within rows slot vacant, s.rows.ok.0)

pub invariant_of-self : goal.invariant_of-self
invariant_of-self c =
    let s = c.self.inside in
    let store = c.self.invariant in
    let slot = c.args.slot in
    let rows = s.rows.items in
    let vacant = subst (λ (st : Contents). IsFree st.slots slot) (sym c.self.view_is) c.requires.vacant in
    let itself = vacant_itself rows slot vacant in
    let new = subst (λ (st : Contents). IsNew st.key c.args.row (kept st.slots)) (sym c.self.view_is) c.requires.new in
    store_changed s c.enter_all.new.orders (c.enter_all.ensures.columns ∙ ap (map columns_in) c.deref_mut.ensures.value) slot (Some c.args.row) c.drop_slot.new.vacant store c.as_slice-2.result.now c.as_slice-2.ensures.value c.enter_all.ensures.each
    (subst (λ (rs : Slots). AreVacant (set rs slot (Some c.args.row)) c.drop_slot.new.vacant.items) c.as_slice.ensures.value (c.drop_slot.ensures.vacant c.args.row)) c.drop_slot.ensures.capacity
    (keyed_put s.key.items rows slot (vacant_within rows slot vacant) c.args.row (subst (IsKeyed s.key.items) (sym itself) store.keyed) (subst (λ (rs : Slots). IsNew s.key.items c.args.row (kept rs)) (sym itself) new))
