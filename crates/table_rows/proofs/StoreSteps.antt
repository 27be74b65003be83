-- What a change of all orders leaves as it was, and what is new by each of them.
use Rattle.std.proofs.Common.{◌≡◌, ℕ, ◌+◌, ◌<◌, ◌≤◌, ◌^◌, List, [], ◌∷◌, ◌++◌, length, map, set, replicate, Option, None, Result, Ok, Err, OnErr, Vec, Global, vec_capacity, arith, sym, refl, ap, subst, ◌∙◌}
use Rattle.std.specs.List.{AllByRecursion}
use Rattle.std.specs.Vec.{with_item, with_items}
use Rattle.std.proofs.lemmas.List.{length-map, length-set, length-append, length-replicate, with_items_is}
use Rattle.row_types.specs.declared.values.Value.{Value}
use Rattle.index_tree.proofs.Elements.{all_weaker, all_mapped, all_unmapped}
use Rattle.index_tree.specs.Ordered.{AreApart}
use Rattle.table_rows.specs.declared.orders.RowOrder.{RowOrder}
use Rattle.table_rows.specs.declared.store.RowStore.TheInside.{Inside}
use Rattle.table_rows.specs.Contents.{with_slot}
use Rattle.table_rows.specs.Entries.{Slots, Entry, entry_cmp}
use Rattle.table_rows.specs.StoreWalks.{IsNew, IsKeyed}
use Rattle.table_rows.specs.StoreInside.{columns_in, GoesBy, IsFresh, IsOrder, HasRoom, AreVacant, IsStore, orders_in, contents}
use Rattle.table_rows.specs.Marks.{marks_in}
use Rattle.table_rows.proofs.CellOrder.{new_at_more}
use Rattle.table_rows.proofs.KeptRows.{kept_with_vacant}
use Rattle.table_rows.proofs.WalkChanges.{walk_with_vacant}

-- what is new by the key is new by the columns of each order
pub fresh_all : (key : List ℕ) (row : List Value) (entries : List Entry) (orders : List RowOrder) → AllByRecursion (GoesBy key) orders → IsNew key row entries → AllByRecursion (IsFresh row entries) orders
fresh_all key row entries orders by_key new =
    all_weaker (GoesBy key) (IsFresh row entries) (λ order goes. subst (λ (cs : List ℕ). IsNew cs row entries) (sym goes) (new_at_more order.own.items key row entries new)) orders by_key

-- the whole columns of a pair are its own and the key
abbrev WithKey : List ℕ → List ℕ × List ℕ → Type 0
WithKey key columns = columns.1 ≡ columns.0 ++ key

pub goes_by_same : (key : List ℕ) (orders changed : List RowOrder) → map columns_in changed ≡ map columns_in orders → AllByRecursion (GoesBy key) orders → AllByRecursion (GoesBy key) changed
goes_by_same key orders changed same by_key =
    all_unmapped (WithKey key) columns_in changed (subst (AllByRecursion (WithKey key)) (sym same) (all_mapped (WithKey key) columns_in orders by_key))

firsts : (orders : List RowOrder) → map (λ (p : List ℕ × List ℕ). p.0) (map columns_in orders) ≡ orders_in orders
firsts [] = refl
firsts (order ∷ orders) = ap (λ (xs : List (List ℕ)). order.own.items ∷ xs) (firsts orders)

pub orders_same : (orders changed : List RowOrder) → map columns_in changed ≡ map columns_in orders → orders_in changed ≡ orders_in orders
orders_same orders changed same = sym (firsts changed) ∙ ap (map (λ (p : List ℕ × List ℕ). p.0)) same ∙ firsts orders

module _ (s : Inside) (orders : List RowOrder) (same : map columns_in orders ≡ map columns_in s.orders.items) where
  pub items_are : (with_items s.orders orders).items ≡ orders
  items_are = with_items_is s.orders orders (omega (arith, ap length same, length-map orders columns_in, length-map s.orders.items columns_in, s.orders.ok.0))

  pub orders_are : orders_in (with_items s.orders orders).items ≡ orders_in s.orders.items
  orders_are = ap orders_in items_are ∙ orders_same s.orders.items orders same

  -- a store whose rows are those of another, in orders that were changed
  pub store_with : (rows : Vec (Option (List Value)) Global) (vacant : Vec ℕ Global) → length rows.items < 2 ^ 32 → AreVacant rows.items vacant.items → length rows.items ≤ vec_capacity vacant → IsKeyed s.key.items rows.items → AllByRecursion (GoesBy s.key.items) s.orders.items → AllByRecursion (IsOrder rows.items) orders → IsStore (record { key = s.key; orders = with_items s.orders orders; rows = rows; vacant = vacant })
  store_with rows vacant fits are room keyed by_key each =
      record {
        slots = fits;
        vacant = are;
        room = room;
        keyed = keyed;
        columns = subst (AllByRecursion (GoesBy s.key.items)) (sym items_are) (goes_by_same s.key.items s.orders.items orders same by_key);
        orders = subst (AllByRecursion (IsOrder rows.items)) (sym items_are) each;
      }

  module _ (slot : ℕ) (holds : Option (List Value)) (vacant : Vec ℕ Global) where
    -- a store after a change of one slot, and what callers see of it
    pub store_changed : IsStore s → (seen : Slots) → seen ≡ s.rows.items → AllByRecursion (IsOrder (set seen slot holds)) orders → AreVacant (set s.rows.items slot holds) vacant.items → vec_capacity vacant ≡ vec_capacity s.vacant → IsKeyed s.key.items (set s.rows.items slot holds) → IsStore (record { key = s.key; orders = with_items s.orders orders; rows = with_item s.rows slot holds; vacant = vacant })
    store_changed store seen seen_is each are capacity keyed =
        store_with (with_item s.rows slot holds) vacant (omega (arith, length-set s.rows.items slot holds, store.slots)) are (omega (arith, length-set s.rows.items slot holds, store.room, capacity)) keyed store.columns
        (subst (λ (rows : Slots). AllByRecursion (IsOrder (set rows slot holds)) orders) seen_is each)

    pub view_changed : contents (record { key = s.key; orders = with_items s.orders orders; rows = with_item s.rows slot holds; vacant = vacant }) ≡ with_slot (contents s) slot holds
    view_changed = ap (λ (os : List (List ℕ)). record { key = s.key.items; orders = os; slots = set s.rows.items slot holds }) orders_are

-- vacant slots more change no order that has room for them
pub orders_longer : (rows : Slots) (more : ℕ) (orders : List RowOrder) → AllByRecursion (IsOrder rows) orders → AllByRecursion (HasRoom (length rows + more)) orders → AllByRecursion (IsOrder (rows ++ replicate more None)) orders
orders_longer rows more [] each room = tt
orders_longer rows more (order ∷ orders) each room = (
  record {
    apart = subst (AreApart (entry_cmp order.whole.items)) (sym (kept_with_vacant rows more)) each.0.apart;
    walked = each.0.walked ∙ ap (marks_in order.whole.items) (sym (walk_with_vacant order.whole.items rows more));
    room = omega (arith, room.0, length-append rows (replicate more None), length-replicate {A = Option (List Value)} more None);
  },
  orders_longer rows more orders each.1 room.1,
)

pub when_err : {A E : Type 0} (r : Result A E) (P : Type 0) → P → OnErr r P
when_err (Ok x) P holds = tt
when_err (Err e) P holds = holds
