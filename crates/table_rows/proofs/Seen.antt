-- A store, seen as a table.
--     put_seen, replaced_seen, taken_seen, roomy_seen, wanted_seen      a store that has changed
--     walk_seen      the order of an index
use Rattle.std.proofs.Common.{◌≡◌, ℕ, ◌+◌, ◌-◌, max, List, ◌++◌, length, set, replicate, Option, Some, None, refl, ap, sym, ◌∙◌, arith, length-set}
use Rattle.std.proofs.lemmas.List.{length-append, length-replicate}
use Rattle.row_types.specs.declared.values.Value.{Value}
use Rattle.table_rows.specs.Entries as store
use Rattle.table_rows.specs.Entries.{Slots, kept, vacancies, row_under, walk}
use Rattle.table_rows.specs.StoreWalks.{IsNew, IsKeyed}
use Rattle.table_rows.specs.Contents.{Contents, order_of, store_walk, with_slot}
use Rattle.table_rows.proofs.KeptRows.{count_kept}
use Rattle.table_rows.proofs.WalkChanges.{walk_with_vacant}
use Rattle.table_rows.specs.Rows.{Rows}
use Rattle.table_rows.specs.Slots.{without}
use Rattle.table_rows.specs.Table.{rows_kept, table_in, with_row_in, without_in, with_room, walk_by}
use Rattle.table_rows.specs.Widths.{room_for}
use Rattle.table_rows.proofs.Kept.{kept_count, entries_put, entries_without, entries_replaced, walk_there}

module _ (counted : Option ℕ) (counter : ℕ) where
  -- a table's parts
  table_is : (s : Contents) (slots : Slots) (rows : Rows) → walk s.key slots ≡ rows.entries → length slots ≡ rows.room → rows.counter ≡ counter → table_in (record { key = s.key; orders = s.orders; slots = slots }) counted counter ≡ record { key = s.key; orders = s.orders; counted = counted; rows = rows }
  table_is s slots rows entries room number = λ i. record { key = s.key; orders = s.orders; counted = counted; rows = record { entries = entries i; room = room i; counter = sym number i } }

  pub walk_seen : (s : Contents) (index : ℕ) → IsKeyed s.key s.slots → store_walk s index ≡ walk_by (table_in s counted counter) index
  walk_seen s index keyed = walk_there s.key s.slots keyed (order_of s index)

  module _ (s after : Contents) (keyed : IsKeyed s.key s.slots) where
    pub put_seen : (slot : ℕ) (row : List Value) → store.IsFree s.slots slot → IsNew s.key row (walk s.key s.slots) → after ≡ with_slot s slot (Some row) → table_in after counted counter ≡ with_row_in (table_in s counted counter) slot row
    put_seen slot row vacant new is = ap (λ (t : Contents). table_in t counted counter) is ∙ table_is s (set s.slots slot (Some row)) _ (entries_put s.key s.slots keyed slot row vacant new) (length-set s.slots slot (Some row)) refl

    pub replaced_seen : (slot : ℕ) (old row : List Value) → row_under s.slots slot ≡ Some old → IsNew s.key row (without slot (walk s.key s.slots)) → after ≡ with_slot s slot (Some row) → table_in after counted counter ≡ with_row_in (table_in s counted counter) slot row
    replaced_seen slot old row live new is = ap (λ (t : Contents). table_in t counted counter) is ∙ table_is s (set s.slots slot (Some row)) _ (entries_replaced s.key s.slots keyed slot old row live new) (length-set s.slots slot (Some row)) refl

    pub taken_seen : (slot : ℕ) (old : List Value) → row_under s.slots slot ≡ Some old → after ≡ with_slot s slot None → table_in after counted counter ≡ without_in (table_in s counted counter) slot
    taken_seen slot old live is = ap (λ (t : Contents). table_in t counted counter) is ∙ table_is s (set s.slots slot None) _ (entries_without s.key s.slots keyed slot old live) (length-set s.slots slot None) refl

  -- more slots, as many as are wanted
  pub roomy_seen : (s after : Contents) (n : ℕ) → after.key ≡ s.key → after.orders ≡ s.orders → after.slots ≡ s.slots ++ replicate n None → table_in after counted counter ≡ with_room (table_in s counted counter) (length after.slots)
  roomy_seen s after n key orders slots =
      (λ i. table_in (record { key = key i; orders = orders i; slots = slots i }) counted counter)
      ∙ table_is s (s.slots ++ replicate n None) (record { entries = walk s.key s.slots; room = length (s.slots ++ replicate n None); counter = counter }) (walk_with_vacant s.key s.slots n) refl refl
      ∙ ap (λ (ss : Slots). with_room (table_in s counted counter) (length ss)) (sym slots)

  pub wanted_seen : (s after : Contents) (n : ℕ) → after.slots ≡ s.slots ++ replicate (n - vacancies s.slots) None → length after.slots ≡ room_for n (rows_kept s counter)
  wanted_seen s after n slots =
      ap length slots ∙ length-append s.slots (replicate (n - vacancies s.slots) None) ∙ ap (λ (m : ℕ). length s.slots + m) (length-replicate (n - vacancies s.slots) None)
      ∙ most_of (length s.slots) (vacancies s.slots) (length (walk s.key s.slots)) n (omega (arith, kept_count s.key s.slots, count_kept s.slots))
    where
      most_of : (room free kept n : ℕ) → kept + free ≡ room → room + (n - free) ≡ max room (kept + n)
      most_of room free kept n whole = omega (arith, whole)
