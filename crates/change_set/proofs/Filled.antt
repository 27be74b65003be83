-- Rows that come to tables, one after the other.
--     put_filled      one row
--     filled_none, filled_then, filled_skip      no change, and one after others
use Rattle.std.proofs.Common.{◌≡◌, ℕ, zero, suc, ◌<◌, Bool, true, false, eqb, max, List, [], ◌∷◌, ◌++◌, length, refl, sym, ap, subst, ◌∙◌, inl, inr, ◌⊎◌, length-set}
use Rattle.std.specs.Prelude.{Contains}
use Rattle.std.specs.declared.cmp.Ordering.{Ordering}
use Rattle.std.proofs.lemmas.Bool.{eqb-true}
use Rattle.std.proofs.lemmas.List.{get_or-set_same, get_or-set_other}
use Rattle.std.proofs.lemmas.List.Elements.{Contains-append_left, Contains-append_right, Contains-append_cases}
use Rattle.index_tree.specs.Ordered.{is_below}
use Rattle.index_tree.proofs.Elements.{no_member, contains_first, contains_cases}
use Rattle.index_tree.proofs.Members.{put_member_itself, put_member_kept, member_of_put}
use Rattle.row_types.specs.declared.values.Value.{Value}
use Rattle.table_rows.specs.Counters.{raised}
use Rattle.table_rows.specs.Database.{rows_alone}
use Rattle.table_rows.specs.Entries.{Entry, entry_cmp}
use Rattle.table_rows.specs.Indexes.{primary_of}
use Rattle.table_rows.specs.Rows.{Rows, State, no_rows, rows_of, entries_of, indexes_of, counted_at, counter_of}
use Rattle.table_rows.specs.Slots.{IsVacant, without, with_row, with_row_at}
use Rattle.table_rows.proofs.BySlot.{without_free}
use Rattle.change_set.specs.declared.change.Change.{Change}
use Rattle.change_set.specs.declared.change.Change.TheVariants.{Put, Delete, Count}
use Rattle.change_set.specs.Steps.{rows_in, AreAlike, AreFilled}
use Rattle.change_set.proofs.Slots.{this_table, other_table, other_number}
use Rattle.change_set.proofs.Cleared.{alike_none, alike_then}
use Rattle.change_set.proofs.ClearSteps.{in_slot, no_slot}

put_table : (t u : ℕ) (a b : List Value) → Put t a ≡ Put u b → t ≡ u
put_table t u a b e = cc

put_row : (t u : ℕ) (a b : List Value) → Put t a ≡ Put u b → a ≡ b
put_row t u a b e = cc

module _ (state : State) (t : ℕ) (within : t < length state.tables) (slot : ℕ) (new : List Value) (vacant : IsVacant slot (rows_of state t)) (stays : raised (counted_at state t) new (counter_of state t) ≡ counter_of state t) where
  abbrev entries : List Entry
  entries = entries_of state t

  abbrev cmp : Entry → Entry → Ordering
  cmp = entry_cmp (primary_of (indexes_of state t))

  abbrev rest : Rows
  rest = record (rows_of state t) { entries = with_row (indexes_of state t) slot new entries; counter = raised (counted_at state t) new (counter_of state t) }

  abbrev after : State
  after = with_row_at state t slot new

  here : entries_of after t ≡ with_row (indexes_of state t) slot new entries
  here = this_table state t rest within

  all_there : without slot entries ≡ entries
  all_there = without_free slot entries vacant.free

  row_from : (row : List Value) → Contains (rows_in after t) row → Contains (rows_in state t) row ⊎ Contains (Put t new ∷ []) (Put t row)
  row_from row inside =
      let one = in_slot (with_row (indexes_of state t) slot new entries) row (subst (λ (es : List Entry). Contains (rows_alone es) row) here inside) in
      elim (member_of_put (is_below cmp (new, slot)) (new, slot) (without slot entries) (row, one.0) one.1) [
        | inl first ↦ inr (subst (λ (r : List Value). Contains (Put t new ∷ []) (Put t r)) (ap (λ (e : Entry). e.0) first) (contains_first (Put t new) []))
        | inr later ↦ inl (no_slot entries row one.0 (subst (λ (es : List Entry). Contains es (row, one.0)) all_there later))
      ]

  row_kept : (row : List Value) → Contains (rows_in state t) row → Contains (rows_in after t) row
  row_kept row inside =
      let one = in_slot entries row inside in
      subst (λ (es : List Entry). Contains (rows_alone es) row) (sym here)
      (no_slot (with_row (indexes_of state t) slot new entries) row one.0 (put_member_kept (is_below cmp (new, slot)) (new, slot) (without slot entries) (row, one.0) (subst (λ (es : List Entry). Contains es (row, one.0)) (sym all_there) one.1)))

  row_come : Contains (rows_in after t) new
  row_come =
      subst (λ (es : List Entry). Contains (rows_alone es) new) (sym here)
      (no_slot (with_row (indexes_of state t) slot new entries) new slot (put_member_itself (is_below cmp (new, slot)) (new, slot) (without slot entries)))

  elsewhere : (table : ℕ) → eqb t table ≡ false → entries_of after table ≡ entries_of state table
  elsewhere table other = other_table state t table rest other

  pub put_filled : AreFilled (Put t new ∷ []) state after
  put_filled = record {
    alike = record { schema = refl; bytes_max = refl; tables = length-set state.tables t rest };
    from = λ table row inside. from_by table row (eqb t table) refl inside;
    kept = λ table row inside. kept_by table row (eqb t table) refl inside;
    come = λ table row inside. elim (contains_cases (Put t new) [] (Put table row) inside) [
      | inl first ↦ subst (λ (n : ℕ). Contains (rows_in after n) row) (put_table t table new row first) (subst (Contains (rows_in after t)) (put_row t table new row first) row_come)
      | inr none ↦ absurd (no_member (Put table row) none)
    ];
    counters = λ table. by_table table (eqb t table) refl;
  }
    where
      from_by : (table : ℕ) (row : List Value) (b : Bool) → eqb t table ≡ b → Contains (rows_in after table) row → Contains (rows_in state table) row ⊎ Contains (Put t new ∷ []) (Put table row)
      from_by table row true is inside =
          let same = eqb-true t table is in
          subst (λ (n : ℕ). Contains (rows_in state n) row ⊎ Contains (Put t new ∷ []) (Put n row)) same (row_from row (subst (λ (n : ℕ). Contains (rows_in after n) row) (sym same) inside))
      from_by table row false is inside = inl (subst (λ (es : List Entry). Contains (rows_alone es) row) (elsewhere table is) inside)

      kept_by : (table : ℕ) (row : List Value) (b : Bool) → eqb t table ≡ b → Contains (rows_in state table) row → Contains (rows_in after table) row
      kept_by table row true is inside =
          let same = eqb-true t table is in
          subst (λ (n : ℕ). Contains (rows_in after n) row) same (row_kept row (subst (λ (n : ℕ). Contains (rows_in state n) row) (sym same) inside))
      kept_by table row false is inside = subst (λ (es : List Entry). Contains (rows_alone es) row) (sym (elsewhere table is)) inside

      by_table : (table : ℕ) (b : Bool) → eqb t table ≡ b → counter_of after table ≡ counter_of state table
      by_table table true is =
          subst (λ (n : ℕ). counter_of after n ≡ counter_of state n) (eqb-true t table is)
          (ap (λ (r : Rows). r.counter) (get_or-set_same state.tables t rest no_rows within) ∙ stays)
      by_table table false is = ap (λ (r : Rows). r.counter) (get_or-set_other state.tables t table rest no_rows (other_number t table is))

pub filled_none : (state : State) → AreFilled [] state state
filled_none state = record {
  alike = alike_none state;
  from = λ table row inside. inl inside;
  kept = λ table row inside. inside;
  come = λ table row inside. absurd (no_member (Put table row) inside);
  counters = λ table. refl;
}

pub filled_then : (done more : List Change) (s0 s1 s2 : State) → AreFilled done s0 s1 → AreFilled more s1 s2 → AreFilled (done ++ more) s0 s2
filled_then done more s0 s1 s2 first second = record {
  alike = alike_then s0 s1 s2 first.alike second.alike;
  from = λ table row inside. elim (second.from table row inside) [
    | inl before ↦ elim (first.from table row before) [
      | inl there ↦ inl there
      | inr put ↦ inr (Contains-append_left done more (Put table row) put)
    ]
    | inr put ↦ inr (Contains-append_right done more (Put table row) put)
  ];
  kept = λ table row inside. second.kept table row (first.kept table row inside);
  come = λ table row inside. elim (Contains-append_cases done more (Put table row) inside) [
    | inl front ↦ second.kept table row (first.come table row front)
    | inr back ↦ second.come table row back
  ];
  counters = λ table. second.counters table ∙ first.counters table;
}

-- a change that puts no row
pub filled_skip : (c : Change) (state : State) → ((table : ℕ) (row : List Value) → c ≡ Put table row → ⊥) → AreFilled (c ∷ []) state state
filled_skip c state other = record {
  alike = alike_none state;
  from = λ table row inside. inl inside;
  kept = λ table row inside. inside;
  come = λ table row inside. elim (contains_cases c [] (Put table row) inside) [
    | inl first ↦ absurd (other table row first)
    | inr none ↦ absurd (no_member (Put table row) none)
  ];
  counters = λ table. refl;
}
