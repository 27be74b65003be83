use Rattle.std.proofs.Common.{ℕ, ◌+◌, ◌-◌, List, ◌++◌, length, map, replicate, Option, None, sym, ap, subst, ◌∙◌, arith}
use Rattle.std.specs.List.{AllByRecursion}
use Rattle.std.proofs.lemmas.List.{length-append, length-replicate}
use Rattle.row_types.specs.declared.values.Value.{Value}
use Rattle.index_tree.specs.Ordered.{AreApart}
use Rattle.table_rows.specs.Contents.{Contents}
use Rattle.table_rows.specs.Entries.{Slots, vacancies, entry_cmp}
use Rattle.table_rows.specs.StoreWalks.{IsKeyed}
use Rattle.table_rows.specs.StoreInside.{IsOrder, AreVacant, columns_in, orders_in}
use Rattle.table_rows.proofs.KeptRows.{count_kept, kept_with_vacant, vacancies_more}
use Rattle.table_rows.proofs.StoreSteps.{store_with, orders_are, orders_longer, when_err}
use Rattle.table_rows.proofs.store.RowStore.reserve.Goals as goal

pub make_room-requires-clause-vacant : goal.make_room-requires-clause-vacant
make_room-requires-clause-vacant c = omega (arith, c.self.invariant.vacant.count, count_kept c.self.inside.rows.items)

pub invariant_of-self : goal.invariant_of-self
invariant_of-self c =
    let s = c.self.inside in
    let store = c.self.invariant in
    let rows = s.rows.items in
    let same = c.make_room.ensures.columns ∙ ap (map columns_in) c.deref_mut.ensures.value in
    let made = c.make_room.ensures in
    store_with s c.make_room.new.orders same c.make_room.new.rows c.make_room.new.vacant
    (omega (arith, ap length made.rows, store.slots))
    (subst (AreVacant c.make_room.new.rows.items) (sym made.vacant) (subst (λ (rs : Slots). AreVacant rs s.vacant.items) (sym made.rows) store.vacant))
    (omega (arith, ap length made.rows, store.room, made.keeps_room))
    (subst (IsKeyed s.key.items) (sym made.rows) store.keyed) store.columns made.each

pub returns-in_err-make_room-clause-orders : goal.returns-in_err-make_room-clause-orders
returns-in_err-make_room-clause-orders c =
    let s = c.self.inside in
    let store = c.self.invariant in
    let rows = s.rows.items in
    let same = c.make_room.ensures.columns ∙ ap (map columns_in) c.deref_mut.ensures.value in
    orders_are s c.make_room.new.orders same ∙ ap (λ (st : Contents). st.orders) c.self.view_is

pub returns-in_err-make_room-clause-refused : goal.returns-in_err-make_room-clause-refused
returns-in_err-make_room-clause-refused c =
    let s = c.self.inside in
    let store = c.self.invariant in
    let rows = s.rows.items in
    let same = c.make_room.ensures.columns ∙ ap (map columns_in) c.deref_mut.ensures.value in
    when_err c.from_residual.result _
    (ap (λ (os : List (List ℕ)). record { key = s.key.items; orders = os; slots = c.make_room.new.rows.items }) (orders_are s c.make_room.new.orders same)
    ∙ ap (λ (rs : Slots). record { key = s.key.items; orders = orders_in s.orders.items; slots = rs }) c.make_room.ensures.rows ∙ c.self.view_is)

pub add_slots-requires-clause-vacant_room : goal.add_slots-requires-clause-vacant_room
add_slots-requires-clause-vacant_room c =
    let s = c.self.inside in
    let store = c.self.invariant in
    let rows = s.rows.items in
    let same = c.make_room.ensures.columns ∙ ap (map columns_in) c.deref_mut.ensures.value in
    omega (arith, c.make_room.new.vacant.ok.0, ap length c.make_room.ensures.vacant, store.vacant.count, count_kept rows, c.in_ok-make_room.ensures.vacant_room)

pub invariant_of-self-2 : goal.invariant_of-self-2
invariant_of-self-2 c =
    let s = c.self.inside in
    let store = c.self.invariant in
    let rows = s.rows.items in
    let same = c.make_room.ensures.columns ∙ ap (map columns_in) c.deref_mut.ensures.value in
    let more = c.args.n - c.len-vacant.result in
    let none : Option (List Value) = None in
    let longer = c.add_slots.ensures.rows ∙ ap (λ (rs : Slots). rs ++ replicate more none) c.make_room.ensures.rows in
    let count = length-append rows (replicate more none) ∙ ap (λ (n : ℕ). length rows + n) (length-replicate more none) in
    let made = c.make_room.ensures in
    store_with s c.make_room.new.orders same c.add_slots.new.rows c.add_slots.new.vacant
    (omega (arith, ap length longer, count, c.if-len-more.false, c.len.ensures, s.rows.ok.0))
    c.add_slots.ensures.vacant
    (omega (arith, ap length longer, count, c.add_slots.ensures.capacity, c.in_ok-make_room.ensures.vacant_room))
    (subst (IsKeyed s.key.items) (sym longer) (subst (AreApart (entry_cmp s.key.items)) (sym (kept_with_vacant rows more)) store.keyed))
    store.columns
    (subst (λ (rs : Slots). AllByRecursion (IsOrder rs) c.make_room.new.orders) (sym longer)
    (orders_longer rows more c.make_room.new.orders (subst (λ (rs : Slots). AllByRecursion (IsOrder rs) c.make_room.new.orders) made.rows made.each) c.in_ok-make_room.ensures.room))

pub returns-clause-orders : goal.returns-clause-orders
returns-clause-orders c =
    let s = c.self.inside in
    let store = c.self.invariant in
    let rows = s.rows.items in
    let same = c.make_room.ensures.columns ∙ ap (map columns_in) c.deref_mut.ensures.value in
    orders_are s c.make_room.new.orders same ∙ ap (λ (st : Contents). st.orders) c.self.view_is

pub returns-clause-room : goal.returns-clause-room
returns-clause-room c =
    let s = c.self.inside in
    let store = c.self.invariant in
    let rows = s.rows.items in
    let same = c.make_room.ensures.columns ∙ ap (map columns_in) c.deref_mut.ensures.value in
    let more = c.args.n - c.len-vacant.result in
    let none : Option (List Value) = None in
    let longer = c.add_slots.ensures.rows ∙ ap (λ (rs : Slots). rs ++ replicate more none) c.make_room.ensures.rows in
    omega (arith, ap vacancies longer, vacancies_more rows more, c.len-vacant.ensures, s.vacant.ok.0, store.vacant.count, c.if-n-vacant.false)
