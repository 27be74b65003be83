-- Changes that leave a state valid.
--     raised_counter, counter_most, higher_counter      counters
--     put_valid, replaced_valid, deleted_valid, counted_valid      by what was checked before
--     new_after, new_when_allowed      a row that may stand in a table is new to it
use Rattle.std.proofs.Common.{◌≡◌, ℕ, ◌<◌, ◌≤◌, ◌^◌, true, List, length, Option, None, Some, IsSome, subst, sym, arith, length-set}
use Rattle.std.proofs.Math.Nat.{le-max_left, le-max_right}
use Rattle.row_types.specs.declared.values.Value.{Value}
use Rattle.table_rows.specs.StoreWalks.{IsNew}
use Rattle.table_rows.specs.declared.slot_ref.SlotRef.{SlotRef}
use Rattle.table_rows.specs.Counters.{raised, IsCounter}
use Rattle.table_rows.specs.Rows.{State, def_of, indexes_of, rows_of, entries_of, counted_at, counter_of, with_counted, with_counter}
use Rattle.table_rows.specs.Indexes.{primary_of}
use Rattle.table_rows.specs.Slots.{IsVacant, is_live, without, entries_with, with_row_at, without_at}
use Rattle.table_rows.specs.Sizes.{total_with, most_bytes}
use Rattle.table_rows.specs.Checks.{IsPlaceable}
use Rattle.table_rows.specs.Valid.{AreValidRows, IsValidState}
use Rattle.table_rows.proofs.BySlot.{without_free}
use Rattle.table_rows.proofs.States.{rows_with, rows_valid, primary_in, state_with}
use Rattle.table_rows.proofs.Placed.{valid_with, valid_without, valid_counter, live_within, new_when_placed, new_when_valid}
use Rattle.table_rows.proofs.Counted.{total_put, total_replaced, total_deleted, total_counter}

-- a counter once a row stands in the table
pub raised_counter : (counted : Option ℕ) (row : List Value) (counter : ℕ) → raised counted row counter ≤ 2 ^ 63 → IsCounter counted counter → IsCounter counted (raised counted row counter)
raised_counter None row counter most is = omega (arith, is)
raised_counter (Some column) row counter most is = (omega (arith, is.0), most)

pub counter_most : (counted : Option ℕ) (counter : ℕ) → IsCounter counted counter → counter ≤ 2 ^ 63
counter_most None counter is = omega (arith, is)
counter_most (Some column) counter is = is.1

pub higher_counter : (counted : Option ℕ) (before counter : ℕ) → IsSome counted → before < counter → counter ≤ 2 ^ 63 → IsCounter counted counter
higher_counter None before counter some later most = absurd cc
higher_counter (Some column) before counter some later most = (omega (arith, later), most)

module _ (state : State) (valid : IsValidState state) (table : ℕ) (within : table < length state.tables) where
  -- the counter that a row leaves
  abbrev pub counter_after : List Value → ℕ
  counter_after row = raised (counted_at state table) row (counter_of state table)

  pub put_valid : (slot : ℕ) (row : List Value) → IsVacant slot (rows_of state table) → IsPlaceable (def_of state table) row (entries_of state table) → total_with state table row None ≤ most_bytes → counter_after row ≤ 2 ^ 63 → IsValidState (with_row_at state table slot row)
  put_valid slot row vacant placed bytes most =
      let free = without_free slot (entries_of state table) vacant.free in
      let before = rows_valid state valid table within in
      let counter = raised_counter (counted_at state table) row (counter_of state table) most before.counter in
      let rows = valid_with (def_of state table) (rows_of state table) slot row (primary_in state valid table within) before (subst (IsPlaceable (def_of state table) row) (sym free) placed) (counter_after row) counter (le-max_left _ _) (le-max_right _ _) vacant.within in
      state_with state valid table within _ rows (subst (λ (n : ℕ). n ≤ most_bytes) (sym (total_put state valid table within slot row (counter_after row) vacant.free)) bytes)

  pub replaced_valid : (slot : SlotRef) (row : List Value) → is_live slot.0 (entries_of state table) ≡ true → IsPlaceable (def_of state table) row (without slot.0 (entries_of state table)) → total_with state table row (Some slot) ≤ most_bytes → counter_after row ≤ 2 ^ 63 → IsValidState (with_row_at state table slot.0 row)
  replaced_valid slot row live placed bytes most =
      let before = rows_valid state valid table within in
      let room = live_within (def_of state table) (rows_of state table) slot.0 before live in
      let counter = raised_counter (counted_at state table) row (counter_of state table) most before.counter in
      let rows = valid_with (def_of state table) (rows_of state table) slot.0 row (primary_in state valid table within) before placed (counter_after row) counter (le-max_left _ _) (le-max_right _ _) room in
      state_with state valid table within _ rows (subst (λ (n : ℕ). n ≤ most_bytes) (sym (total_replaced state valid table within slot row (counter_after row) live)) bytes)

  pub deleted_valid : (slot : ℕ) → is_live slot (entries_of state table) ≡ true → IsValidState (without_at state table slot)
  deleted_valid slot live =
      let rows = valid_without (def_of state table) (rows_of state table) slot (rows_valid state valid table within) in
      let less = total_deleted state valid table within slot live in
      let bytes = valid.bytes in
      state_with state valid table within _ rows (omega (arith, less, bytes))

  pub counted_valid : (counter : ℕ) → IsCounter (counted_at state table) counter → counter_of state table ≤ counter → IsValidState (with_counter state table counter)
  counted_valid counter is later =
      let rows = valid_counter (def_of state table) (rows_of state table) counter is later (rows_valid state valid table within) in
      state_with state valid table within _ rows (subst (λ (n : ℕ). n ≤ most_bytes) (sym (total_counter state valid table within counter)) valid.bytes)

  pub new_when_allowed : (row : List Value) → IsPlaceable (def_of state table) row (entries_of state table) → IsNew (primary_of (indexes_of state table)) row (entries_of state table)
  new_when_allowed row placed = new_when_placed (def_of state table) row (entries_of state table) (primary_in state valid table within) placed

  -- a row that stands in the state after a change was new before
  pub new_after : (slot : ℕ) (row : List Value) (counter : ℕ) → IsValidState (with_counted state table (entries_with state table slot row) counter) → IsNew (primary_of (indexes_of state table)) row (without slot (entries_of state table))
  new_after slot row counter after =
      let changed = with_counted state table (entries_with state table slot row) counter in
      let stays : table < length changed.tables = subst (λ (n : ℕ). table < n) (sym (length-set state.tables table _)) within in
      let rows = subst (AreValidRows (def_of state table)) (rows_with state table within _) (rows_valid changed after table stays) in
      new_when_valid (def_of state table) (rows_of state table) slot row counter (rows_valid state valid table within) rows
