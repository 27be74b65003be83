use Rattle.std.proofs.Common.{List, length, map, set, Some, None, sym, ap, subst, ◌∙◌, arith}
use Rattle.std.specs.List.{AllByRecursion}
use Rattle.table_rows.specs.declared.orders.RowOrder.{RowOrder}
use Rattle.table_rows.specs.Contents.{Contents, with_slot}
use Rattle.table_rows.specs.Entries.{Slots, kept, IsFree}
use Rattle.table_rows.specs.StoreWalks.{IsNew, IsKeyed}
use Rattle.table_rows.specs.StoreInside.{IsOrder, IsFresh, AreVacant, columns_in}
use Rattle.table_rows.proofs.KeptRows.{vacant_within, vacant_itself}
use Rattle.table_rows.proofs.StoreSteps.{fresh_all, store_changed, view_changed}
use Rattle.table_rows.proofs.VacantSlots.{last_vacant, last_filled}
use Rattle.table_rows.proofs.WalkChanges.{keyed_put}
use Rattle.table_rows.proofs.store.RowStore.put.Goals as goal

pub enter_all-requires-clause-slot : goal.enter_all-requires-clause-slot
enter_all-requires-clause-slot c =
    let s = c.self.inside in
    let store = c.self.invariant in
    let slot = c.in-Some.slot in
    let rows = s.rows.items in
    let vacant = last_vacant rows c.pop.new.self.items slot (subst (AreVacant rows) c.in-Some.ensures.items store.vacant) in
    let itself = vacant_itself rows slot vacant in
    let new = subst (λ (st : Contents). IsNew st.key c.args.row (kept st.slots)) (sym c.self.view_is) c.requires.new in
    omega (arith, vacant_within rows slot vacant, ap length c.as_slice.ensures.value)

pub returns-clause-vacant : goal.returns-clause-vacant
returns-clause-vacant c =
    let s = c.self.inside in
    let store = c.self.invariant in
    let slot = c.in-Some.slot in
    let rows = s.rows.items in
    let vacant = last_vacant rows c.pop.new.self.items slot (subst (AreVacant rows) c.in-Some.ensures.items store.vacant) in
    let itself = vacant_itself rows slot vacant in
    let new = subst (λ (st : Contents). IsNew st.key c.args.row (kept st.slots)) (sym c.self.view_is) c.requires.new in
    subst (λ (st : Contents). IsFree st.slots slot) c.self.view_is vacant

pub returns-clause-row : goal.returns-clause-row
returns-clause-row c = view_changed c.self.inside c.enter_all.new.orders (c.enter_all.ensures.columns ∙ ap (map columns_in) c.deref_mut.ensures.value) c.in-Some.slot (Some c.args.row) c.pop.new.self ∙ ap (λ (st : Contents). with_slot st c.in-Some.slot (Some c.args.row)) c.self.view_is

pub enter_all-requires-clause-each : goal.enter_all-requires-clause-each
enter_all-requires-clause-each c =
    let s = c.self.inside in
    let store = c.self.invariant in
    let slot = c.in-Some.slot in
    let rows = s.rows.items in
    let vacant = last_vacant rows c.pop.new.self.items slot (subst (AreVacant rows) c.in-Some.ensures.items store.vacant) in
    let itself = vacant_itself rows slot vacant in
    let new = subst (λ (st : Contents). IsNew st.key c.args.row (kept st.slots)) (sym c.self.view_is) c.requires.new in
    subst (λ (os : List RowOrder). AllByRecursion (IsOrder (set c.as_slice.result.now slot None)) os) (sym c.deref_mut.ensures.value)
    (subst (λ (rs : Slots). AllByRecursion (IsOrder rs) s.orders.items) (sym itself ∙ ap (λ (rs : Slots). set rs slot None) (sym c.as_slice.ensures.value)) store.orders)

pub enter_all-requires-clause-new : goal.enter_all-requires-clause-new
enter_all-requires-clause-new c =
    let s = c.self.inside in
    let store = c.self.invariant in
    let slot = c.in-Some.slot in
    let rows = s.rows.items in
    let vacant = last_vacant rows c.pop.new.self.items slot (subst (AreVacant rows) c.in-Some.ensures.items store.vacant) in
    let itself = vacant_itself rows slot vacant in
    let new = subst (λ (st : Contents). IsNew st.key c.args.row (kept st.slots)) (sym c.self.view_is) c.requires.new in
    subst (λ (os : List RowOrder). AllByRecursion (IsFresh c.args.row (kept (set c.as_slice.result.now slot None))) os) (sym c.deref_mut.ensures.value)
    (subst (λ (rs : Slots). AllByRecursion (IsFresh c.args.row (kept rs)) s.orders.items) (sym itself ∙ ap (λ (rs : Slots). set rs slot None) (sym c.as_slice.ensures.value))
    (fresh_all s.key.items c.args.row (kept rows) s.orders.items store.columns new))

pub index_mut-requires : goal.index_mut-requires
index_mut-requires c =
    let s = c.self.inside in
    let store = c.self.invariant in
    let slot = c.in-Some.slot in
    let rows = s.rows.items in
    let vacant = last_vacant rows c.pop.new.self.items slot (subst (AreVacant rows) c.in-Some.ensures.items store.vacant) in
    let itself = vacant_itself rows slot vacant in
    let new = subst (λ (st : Contents). IsNew st.key c.args.row (kept st.slots)) (sym c.self.view_is) c.requires.new in
    omega (arith, vacant_within rows slot vacant, s.rows.ok.0)

pub invariant_of-self : goal.invariant_of-self
invariant_of-self c =
    let s = c.self.inside in
    let store = c.self.invariant in
    let slot = c.in-Some.slot in
    let rows = s.rows.items in
    let vacant = last_vacant rows c.pop.new.self.items slot (subst (AreVacant rows) c.in-Some.ensures.items store.vacant) in
    let itself = vacant_itself rows slot vacant in
    let new = subst (λ (st : Contents). IsNew st.key c.args.row (kept st.slots)) (sym c.self.view_is) c.requires.new in
    store_changed s c.enter_all.new.orders (c.enter_all.ensures.columns ∙ ap (map columns_in) c.deref_mut.ensures.value) slot (Some c.args.row) c.pop.new.self store c.as_slice.result.now c.as_slice.ensures.value c.enter_all.ensures.each
    (last_filled rows c.pop.new.self.items slot c.args.row (subst (AreVacant rows) c.in-Some.ensures.items store.vacant)) c.pop.ensures.capacity
    (keyed_put s.key.items rows slot (vacant_within rows slot vacant) c.args.row (subst (IsKeyed s.key.items) (sym itself) store.keyed) (subst (λ (rs : Slots). IsNew s.key.items c.args.row (kept rs)) (sym itself) new))
