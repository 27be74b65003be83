-- What holds inside of a store.
use Rattle.std.specs.Prelude.{◌≡◌, ℕ, ◌+◌, ◌<◌, ◌≤◌, ◌^◌, Bool, false, not, cond, List, [], ◌++◌, map, length, get_or, Option, Some, None, slice_get, count_by, nat_eq, vec_capacity}
use Rattle.std.specs.List.{AllByRecursion}
use Rattle.std.specs.Option.{option_map_or}
use Rattle.std.specs.declared.cmp.Ordering.{Ordering}
use Rattle.std.specs.Ordering.{is_lt, is_eq, is_gt}
use Rattle.row_types.specs.declared.values.Value.{Value}
use Rattle.row_types.specs.Order.{key_cmp, prefix_cmp}
use Rattle.table_rows.specs.declared.orders.RowOrder.{RowOrder}
use Rattle.table_rows.specs.declared.store.RowStore.TheInside.{Inside}
use Rattle.table_rows.specs.Entries.{Slots, Entry, vacancies, cells, row_under, walk}
use Rattle.table_rows.specs.StoreWalks.{IsKeyed, IsNew}
use Rattle.table_rows.specs.declared.mark.Mark.{Mark}
use Rattle.table_rows.specs.Marks.{marks_in, slot_marked}
use Rattle.table_rows.specs.Contents.{Contents}
use Rattle.index_tree.specs.Contents.{IsAt}
use Rattle.index_tree.specs.Contents.{Contents as Items}

-- Whether that what compares so stands before a cut, which lies behind all that is equal or in front of it.
abbrev pub stands : Bool → Ordering → Bool
stands through order = cond through (not (is_gt order)) (is_lt order)

-- Whether an entry stands before the cut at these values.
abbrev pub is_ahead_of : List ℕ → List Value → Bool → Entry → Bool
is_ahead_of columns values through entry = stands through (prefix_cmp (cells columns entry.0) values)

-- Whether an entry stands behind that cut.
abbrev pub is_past : List ℕ → List Value → Bool → Entry → Bool
is_past columns values through entry = not (is_ahead_of columns values through entry)

-- Whether the row in a slot stands before the cut, where there is one.
abbrev pub is_ahead : Slots → List ℕ → List Value → Bool → ℕ → Bool
is_ahead slots columns values through slot =
    option_map_or (λ (row : List Value). is_ahead_of columns values through (row, slot)) (row_under slots slot) false

-- The slots of some entries.
abbrev pub slots_in : List Entry → List ℕ
slots_in entries = map (λ (entry : Entry). entry.1) entries

-- A tree has the marks of all rows in the order of its columns, which no two rows share, and room for the vacant slots.
pub record IsOrder (slots : Slots) (order : RowOrder) : Type 0 where
  pub apart : IsKeyed order.whole.items slots
  pub walked : order.tree.items ≡ marks_in order.whole.items (walk order.whole.items slots)
  pub room : length slots ≤ length order.tree.items + order.tree.spare

-- There is room in the order for so many rows.
abbrev pub HasRoom : ℕ → RowOrder → Type 0
HasRoom slots order = slots ≤ length order.tree.items + order.tree.spare

-- No entry has the cells of the row at the order's columns.
abbrev pub IsFresh : List Value → List Entry → RowOrder → Type 0
IsFresh row entries order = IsNew order.whole.items row entries

-- The columns of an order: those of its index, and those that its walk goes by.
abbrev pub columns_in : RowOrder → List ℕ × List ℕ
columns_in order = (order.own.items, order.whole.items)

-- The order goes by the columns of its index, then by those of the key.
abbrev pub GoesBy : List ℕ → RowOrder → Type 0
GoesBy key order = order.whole.items ≡ order.own.items ++ key

-- The order goes by the columns of its index first.
abbrev pub BeginsWithOwn : RowOrder → Type 0
BeginsWithOwn order = (rest : List ℕ) × (order.whole.items ≡ order.own.items ++ rest)

-- What is counted for what a slot keeps: a vacant one once, another not.
abbrev pub vacancy : Option (List Value) → ℕ
vacancy None = 1
vacancy (Some row) = 0

-- How often a slot is to be found among the vacant ones.
abbrev pub times_vacant : Slots → ℕ → ℕ
times_vacant slots slot = vacancy (get_or slots slot (Some []))

-- These are the vacant slots, each once.
pub record AreVacant (slots : Slots) (vacant : List ℕ) : Type 0 where
  pub each : (slot : ℕ) → count_by (nat_eq slot) vacant ≡ times_vacant slots slot
  pub count : length vacant ≡ vacancies slots

-- Rows in slots of 32 bits, the vacant ones with room for all, and each order over the rows.
pub record IsStore (store : Inside) : Type 0 where
  pub slots : length store.rows.items < 2 ^ 32
  pub vacant : AreVacant store.rows.items store.vacant.items
  pub room : length store.rows.items ≤ vec_capacity store.vacant
  pub keyed : IsKeyed store.key.items store.rows.items
  pub columns : AllByRecursion (GoesBy store.key.items) store.orders.items
  pub orders : AllByRecursion (IsOrder store.rows.items) store.orders.items

-- The columns of each index.
abbrev pub orders_in : List RowOrder → List (List ℕ)
orders_in orders = map (λ (order : RowOrder). order.own.items) orders

-- What callers see of it.
abbrev pub contents : Inside → Contents
contents store = record { key = store.key.items; orders = orders_in store.orders.items; slots = store.rows.items }

-- The place is that of this slot's mark.
abbrev pub HasAt : Items Mark → ℕ → ℕ → Type 0
HasAt tree place slot = (before : ℕ) × IsAt tree place before × (slot_marked (slice_get tree.items before) ≡ Some slot)

-- Whether there is a row, with the cells of this one.
abbrev pub is_same : List ℕ → List Value → Option (List Value) → Bool
is_same columns row None = false
is_same columns row (Some old) = is_eq (key_cmp (cells columns old) (cells columns row))
