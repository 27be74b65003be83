-- The bytes of all rows, after a change.
--     size_put, size_without      of some entries
--     total_entries, total_put, total_replaced, total_deleted, size_le_total      of a state
use Rattle.std.proofs.Common.{◌≡◌, ℕ, ◌+◌, ◌<◌, ◌≤◌, Bool, true, false, not, List, ◌∷◌, ◌++◌, length, filter, sum_by, Some, None, ap, sym, ◌∙◌, arith}
use Rattle.std.proofs.lemmas.List.Sums.{sum_by-append, sum_by-cons, sum_by-set, get_or-le-sum_by}
use Rattle.index_tree.specs.Parts.{IsParted, put_between}
use Rattle.index_tree.specs.Ordered.{with_item, is_below}
use Rattle.index_tree.proofs.Ascending.{ascending_kept, parted_below}
use Rattle.row_types.specs.declared.values.Value.{Value}
use Rattle.row_types.specs.Size.{row_size}
use Rattle.table_rows.specs.Entries.{Entry, entry_cmp}
use Rattle.table_rows.specs.declared.slot_ref.SlotRef.{SlotRef}
use Rattle.table_rows.specs.Rows.{Rows, State, no_rows, def_of, indexes_of, rows_of, entries_of, room_of, counter_of, with_counted, with_counter}
use Rattle.table_rows.specs.Indexes.{primary_of}
use Rattle.table_rows.specs.Slots.{is_live, row_of, row_at, without, with_row, entries_with, without_at}
use Rattle.table_rows.specs.Sizes.{entries_size, total, total_with}
use Rattle.table_rows.specs.Valid.{IsValidState}
use Rattle.table_rows.proofs.BySlot.{put_back, without_free}
use Rattle.table_rows.proofs.Keys.{entry_cmp_total}
use Rattle.table_rows.proofs.States.{rows_valid}
use Rattle.table_rows.proofs.Placed.{parted_without}

pub size_between : (test : Entry → Bool) (e : Entry) (entries : List Entry) → IsParted test entries → entries_size (put_between test e entries) ≡ row_size e.0 + entries_size entries
size_between test e entries parted =
    let f = λ (x : Entry). row_size x.0 in
    let front = filter test entries in
    let back = filter (λ (x : Entry). not (test x)) entries in
    let a : sum_by f (front ++ e ∷ back) ≡ sum_by f front + sum_by f (e ∷ back) = sum_by-append f front (e ∷ back) in
    let b : sum_by f (e ∷ back) ≡ row_size e.0 + sum_by f back = sum_by-cons f e back in
    let c : sum_by f (front ++ back) ≡ sum_by f front + sum_by f back = sum_by-append f front back in
    let d : sum_by f (front ++ back) ≡ sum_by f entries = ap (sum_by f) parted in
    omega (arith, a, b, c, d)

module _ (state : State) (valid : IsValidState state) (table : ℕ) (within : table < length state.tables) where
  pub total_entries : (entries : List Entry) (counter : ℕ) → total (with_counted state table entries counter) + entries_size (entries_of state table) ≡ total state + entries_size entries
  total_entries entries counter = sum_by-set (λ (rows : Rows). entries_size rows.entries) state.tables table (record { entries = entries; room = room_of state table; counter = counter }) no_rows within

  pub total_counter : (counter : ℕ) → total (with_counter state table counter) ≡ total state
  total_counter counter = omega (arith, total_entries (entries_of state table) counter)

  pub size_le_total : entries_size (entries_of state table) ≤ total state
  size_le_total = get_or-le-sum_by (λ (rows : Rows). entries_size rows.entries) state.tables table no_rows within

  pub size_without : (slot : ℕ) → is_live slot (entries_of state table) ≡ true → row_size (row_at state table slot) + entries_size (without slot (entries_of state table)) ≡ entries_size (entries_of state table)
  size_without slot live =
      let cmp = entry_cmp (primary_of (indexes_of state table)) in
      let order = entry_cmp_total (primary_of (indexes_of state table)) in
      let rows = rows_valid state valid table within in
      let entries = entries_of state table in
      let e : Entry = (row_of slot entries, slot) in
      let back : with_item cmp e (without slot entries) ≡ entries = put_back cmp order slot entries rows.ascending rows.apart live in
      sym (size_between (is_below cmp e) e (without slot entries) (parted_below cmp order e (without slot entries) (ascending_kept cmp _ entries rows.ascending))) ∙ ap entries_size back

  pub size_with : (slot : ℕ) (row : List Value) → entries_size (with_row (indexes_of state table) slot row (entries_of state table)) ≡ row_size row + entries_size (without slot (entries_of state table))
  size_with slot row =
      size_between _ (row, slot) (without slot (entries_of state table)) (parted_without (def_of state table) (rows_of state table) slot row (rows_valid state valid table within))

  pub total_put : (slot : ℕ) (row : List Value) (counter : ℕ) → is_live slot (entries_of state table) ≡ false → total (with_counted state table (entries_with state table slot row) counter) ≡ total_with state table row None
  total_put slot row counter free =
      let a = size_with slot row in
      let b : entries_size (without slot (entries_of state table)) ≡ entries_size (entries_of state table) = ap entries_size (without_free slot (entries_of state table) free) in
      let c = total_entries (with_row (indexes_of state table) slot row (entries_of state table)) counter in
      omega (arith, a, b, c)

  pub total_replaced : (slot : SlotRef) (row : List Value) (counter : ℕ) → is_live slot.0 (entries_of state table) ≡ true → total (with_counted state table (entries_with state table slot.0 row) counter) ≡ total_with state table row (Some slot)
  total_replaced slot row counter live =
      let a = size_with slot.0 row in
      let b = size_without slot.0 live in
      let c = total_entries (with_row (indexes_of state table) slot.0 row (entries_of state table)) counter in
      let d = size_le_total in
      omega (arith, a, b, c, d)

  pub total_deleted : (slot : ℕ) → is_live slot (entries_of state table) ≡ true → total (without_at state table slot) + row_size (row_at state table slot) ≡ total state
  total_deleted slot live =
      let b = size_without slot live in
      let c = total_entries (without slot (entries_of state table)) (counter_of state table) in
      omega (arith, b, c)

  -- a row counts no more than all of them
  pub row_size_le_total : (slot : ℕ) → is_live slot (entries_of state table) ≡ true → row_size (row_at state table slot) ≤ total state
  row_size_le_total slot live = omega (arith, size_without slot live, size_le_total)

  -- nor than all of them will count
  pub row_size_le_after : (slot : ℕ) (row : List Value) (counter : ℕ) → row_size row ≤ total (with_counted state table (entries_with state table slot row) counter)
  row_size_le_after slot row counter =
      let a = size_with slot row in
      let c = total_entries (with_row (indexes_of state table) slot row (entries_of state table)) counter in
      let d = size_le_total in
      omega (arith, a, c, d)
