-- One row that comes to a table, or can't.
--     widened_filled      more slots for rows
--     size_fits, total_fits      the bytes of a row, and of all rows with it
--     came_filled, raised_above      the row has come, where the counter has not moved
use Rattle.std.proofs.Common.{◌≡◌, ℕ, ◌+◌, ◌<◌, ◌≤◌, ◌^◌, Bool, true, false, eqb, max, List, [], ◌∷◌, length, refl, sym, ap, subst, ◌∙◌, inl, inr, arith, length-set}
use Rattle.std.specs.Prelude.{Contains}
use Rattle.std.proofs.lemmas.Bool.{eqb-true, true≢false}
use Rattle.std.proofs.lemmas.List.{get_or-set_same, get_or-set_other}
use Rattle.index_tree.proofs.Elements.{no_member}
use Rattle.row_types.specs.declared.values.Value.{Value}
use Rattle.row_types.specs.Size.{row_size}
use Rattle.table_rows.specs.Checks.{IsRow}
use Rattle.table_rows.specs.Counters.{above_row, raised}
use Rattle.table_rows.specs.Database.{rows_alone}
use Rattle.table_rows.specs.Entries.{Entry}
use Rattle.table_rows.specs.Rows.{Rows, State, no_rows, rows_of, entries_of, columns_of, counted_at, counter_of}
use Rattle.table_rows.specs.Sizes.{total, most_bytes}
use Rattle.table_rows.specs.Slots.{IsVacant, with_row_at}
use Rattle.table_rows.specs.Valid.{IsValidState}
use Rattle.table_rows.specs.Widths.{with_slots, room_for}
use Rattle.table_rows.proofs.BySlot.{same_slot}
use Rattle.table_rows.proofs.Sized.{row_size_most}
use Rattle.table_rows.proofs.States.{def_valid}
use Rattle.change_set.specs.declared.change.Change.TheVariants.{Put}
use Rattle.change_set.specs.Steps.{rows_in, AreFilled}
use Rattle.change_set.proofs.Filled.{put_filled, filled_then}
use Rattle.change_set.proofs.Slots.{this_table, other_table, other_number}

module _ (state : State) (t more : ℕ) (within : t < length state.tables) where
  abbrev wide : Rows
  wide = record (rows_of state t) { room = room_for more (rows_of state t) }

  wide_entries : (table : ℕ) (b : Bool) → eqb t table ≡ b → entries_of (with_slots state t more) table ≡ entries_of state table
  wide_entries table true is = subst (λ (n : ℕ). entries_of (with_slots state t more) n ≡ entries_of state n) (eqb-true t table is) (this_table state t wide within)
  wide_entries table false is = other_table state t table wide is

  pub wide_counter : (table : ℕ) (b : Bool) → eqb t table ≡ b → counter_of (with_slots state t more) table ≡ counter_of state table
  wide_counter table true is = subst (λ (n : ℕ). counter_of (with_slots state t more) n ≡ counter_of state n) (eqb-true t table is) (ap (λ (r : Rows). r.counter) (get_or-set_same state.tables t wide no_rows within))
  wide_counter table false is = ap (λ (r : Rows). r.counter) (get_or-set_other state.tables t table wide no_rows (other_number t table is))

  pub widened_filled : AreFilled [] state (with_slots state t more)
  widened_filled = record {
    alike = record { schema = refl; bytes_max = refl; tables = length-set state.tables t wide };
    from = λ table row inside. inl (subst (λ (es : List Entry). Contains (rows_alone es) row) (wide_entries table (eqb t table) refl) inside);
    kept = λ table row inside. subst (λ (es : List Entry). Contains (rows_alone es) row) (sym (wide_entries table (eqb t table) refl)) inside;
    come = λ table row inside. absurd (no_member (Put table row) inside);
    counters = λ table. wide_counter table (eqb t table) refl;
  }

pub size_fits : (state : State) → IsValidState state → (table : ℕ) → table < length state.tables → (row : List Value) → IsRow (columns_of state table) row → row_size row ≤ 16384
size_fits state valid table within row is = row_size_most (columns_of state table) row (def_valid state valid table within).columns is

module _ (state : State) (t : ℕ) (within : t < length state.tables) (slot : ℕ) (row : List Value) where
  abbrev wider : State
  wider = with_slots state t 1

  abbrev last : State
  last = with_row_at wider t slot row

  long : t < length wider.tables
  long = subst (λ (n : ℕ). t < n) (sym (widened_filled state t 1 within).alike.tables) within

  -- what the counter is then
  pub counter_then : counter_of last t ≡ max (counter_of state t) (above_row (counted_at state t) row)
  counter_then =
      ap (λ (r : Rows). r.counter) (get_or-set_same wider.tables t _ no_rows long)
      ∙ ap (λ (n : ℕ). max n (above_row (counted_at state t) row)) (wide_counter state t 1 within t (eqb t t) refl)

  pub came_filled : IsVacant slot (rows_of wider t) → counter_of last t ≡ counter_of state t → AreFilled (Put t row ∷ []) state last
  came_filled vacant still =
      filled_then [] (Put t row ∷ []) state wider last (widened_filled state t 1 within)
      (put_filled wider t long slot row vacant (sym (ap (λ (r : Rows). r.counter) (get_or-set_same wider.tables t _ no_rows long)) ∙ still ∙ sym (wide_counter state t 1 within t (eqb t t) refl)))

  -- a counter above the row stays
  pub raised_above : above_row (counted_at state t) row ≤ counter_of state t → counter_of last t ≡ counter_of state t
  raised_above above = counter_then ∙ omega (arith, above)
