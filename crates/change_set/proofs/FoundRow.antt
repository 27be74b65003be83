-- The row that is found by its whole primary key.
--     own_length      how many values a key has
--     same_found, other_found      whether it is the row that is looked for
--     found_none, found_row      no row has the key, or the one in the slot
use Rattle.std.proofs.Common.{◌≡◌, ℕ, ◌<◌, false, true, List, length, find, refl, sym, ap, subst, ◌∙◌}
use Rattle.std.specs.Prelude.{Contains, Option, Some, None, is_some}
use Rattle.std.specs.Ordering.{is_eq}
use Rattle.std.proofs.lemmas.Bool.{true≢false}
use Rattle.std.proofs.lemmas.List.{length-map}
use Rattle.row_types.specs.declared.values.Value.{Value}
use Rattle.row_types.specs.Order.{key_cmp}
use Rattle.table_rows.specs.declared.slot_ref.SlotRef.{SlotRef}
use Rattle.table_rows.specs.Entries.{Entry, cell_at, cells, has_key}
use Rattle.table_rows.specs.Rows.{State, entries_of, indexes_of}
use Rattle.table_rows.specs.Slots.{is_live_in, row_at}
use Rattle.table_rows.specs.Valid.{IsValidState}
use Rattle.table_rows.specs.Walks.{keyed, slot_of}
use Rattle.table_rows.proofs.BySlot.{found, row_of_member}
use Rattle.table_rows.proofs.Clashes.{find_some}
use Rattle.table_rows.proofs.States.{rows_valid}
use Rattle.change_set.specs.Net.{has_row}
use Rattle.change_set.specs.Sets.{key_columns}
use Rattle.change_set.specs.Steps.{rows_in}
use Rattle.change_set.proofs.RowTests.{key_itself, key_same, row_held, row_lacking}
use Rattle.change_set.proofs.ClearSteps.{in_slot, no_slot}
use Rattle.change_set.proofs.OldRows.{one_entry}
use Rattle.change_set.proofs.NetNotes.{key_none, whole_key}

-- a row has a value for each column of its key
pub own_length : (columns : List ℕ) (row : List Value) → length (cells columns row) ≡ length columns
own_length columns row = length-map columns (cell_at row)

-- the row of a slot that compares as equal is the row
pub same_found : (state : State) (table slot : ℕ) (row there : List Value) → is_live_in state table slot ≡ true → there ≡ row_at state table slot → is_eq (key_cmp there row) ≡ true → has_row (rows_in state table) row ≡ true
same_found state table slot row there live is equal =
    row_held (rows_in state table) row
    (subst (Contains (rows_in state table)) (sym is ∙ key_same there row equal) (no_slot (entries_of state table) (row_at state table slot) slot (found slot (entries_of state table) live)))

-- and where it does not, the row is none of the table's
pub other_found : (state : State) → IsValidState state → (table : ℕ) → table < length state.tables → (slot : ℕ) (row one : List Value) → Contains (entries_of state table) (one, slot) → cells (key_columns state.schema table) one ≡ cells (key_columns state.schema table) row → (there : List Value)
    → there ≡ row_at state table slot → is_eq (key_cmp there row) ≡ false → has_row (rows_in state table) row ≡ false
other_found state valid table within slot row one inside key there is other =
    row_lacking (rows_in state table) row
    (λ among.
    let valid-rows = rows_valid state valid table within in
    let slotted = in_slot (entries_of state table) row among in
    let same : (one, slot) ≡ (row, slotted.0) = one_entry (key_columns state.schema table) (entries_of state table) valid-rows.ascending (one, slot) (row, slotted.0) inside slotted.1 key in
    let equal : there ≡ row = is ∙ row_of_member (entries_of state table) (one, slot) valid-rows.apart inside ∙ ap (λ (e : Entry). e.0) same in
    true≢false (sym (subst (λ (r : List Value). is_eq (key_cmp r row) ≡ true) (sym equal) (key_itself row)) ∙ other))

some_slot : (slot : SlotRef) → None ≡ Some slot → ⊥
some_slot slot e = cc

slot_number : (n : ℕ) (slot : SlotRef) → Some (record { 0 = n }) ≡ Some slot → n ≡ slot.0
slot_number n slot e = cc

module _ (state : State) (table : ℕ) (key : List Value) (whole : length key ≡ length (key_columns state.schema table)) where
  abbrev columns : List ℕ
  columns = key_columns state.schema table

  abbrev entries : List Entry
  entries = entries_of state table

  pub found_none : slot_of (keyed (indexes_of state table) key entries) ≡ None → (row : List Value) → Contains (rows_in state table) row → cells columns row ≡ key → ⊥
  found_none none = key_none columns key whole entries (ap is_some none)

  entry_of : (o : Option Entry) (slot : SlotRef) → slot_of o ≡ Some slot → (row : List Value) × (o ≡ Some (row, slot.0))
  entry_of None slot is = absurd (some_slot slot is)
  entry_of (Some e) slot is = (e.0, ap (λ (n : ℕ). Some (e.0, n)) (slot_number e.1 slot is))

  pub found_row : (slot : SlotRef) → slot_of (keyed (indexes_of state table) key entries) ≡ Some slot → (row : List Value) × Contains entries (row, slot.0) × (cells columns row ≡ key)
  found_row slot is =
      let one = entry_of (keyed (indexes_of state table) key entries) slot is in
      let there = find_some (λ (e : Entry). has_key columns key e.0) entries (one.0, slot.0) one.1 in
      (one.0, there.0, key_same (cells columns one.0) key (sym (whole_key columns key whole one.0) ∙ there.1))
