-- A change of one row leaves every other slot with its row.
--     live_without, live_with
--     slots_rest
use Rattle.std.proofs.Common.{◌≡◌, ◌≢◌, ℕ, ◌<◌, Bool, true, false, cond, not, ◌||◌, filter, List, [], ◌∷◌, ◌++◌, length, refl, ap, sym, ◌∙◌, inl, inr, ◌⊎◌}
use Rattle.std.specs.Prelude.{◌==◌}
use Rattle.std.specs.List.{AllByRecursion, list_any}
use Rattle.std.proofs.lemmas.Bool.{true≢false, eqb-false, or_left, or_right, eqb-true, ne_eqb}
use Rattle.std.proofs.lemmas.List.Folds.{list_any-append}
use Rattle.index_tree.specs.Ordered.{is_below}
use Rattle.row_types.specs.declared.values.Value.{Value}
use Rattle.table_rows.specs.Entries.{Entry, entry_cmp}
use Rattle.table_rows.specs.declared.slot_ref.SlotRef.{SlotRef}
use Rattle.table_rows.specs.Named.{AreSlots}
use Rattle.table_rows.specs.Counters.{raised}
use Rattle.table_rows.specs.Rows.{State, indexes_of, entries_of, counted_at, counter_of}
use Rattle.table_rows.specs.Indexes.{primary_of}
use Rattle.table_rows.specs.Slots.{is_in, is_live, is_live_in, without, with_row, with_row_at, without_at}
use Rattle.table_rows.proofs.States.{entries_given}

module _ {X : Type 0} (test : X → Bool) where
  -- an item that passes is among those that another test keeps
  pub any_filter : (keeps : X → Bool) → ((x : X) → test x ≡ true → keeps x ≡ true) → (xs : List X) → list_any test xs ≡ true → list_any test (filter keeps xs) ≡ true
  any_filter keeps kept [] any = absurd (true≢false (sym any))
  any_filter keeps kept (x ∷ xs) any = by_test (any_filter keeps kept xs) (test x) refl any
    where
      first : keeps x ≡ true → test x ≡ true → list_any test (cond (keeps x) (x ∷ filter keeps xs) (filter keeps xs)) ≡ true
      first stays passes = rw stays (or_left (test x) _ passes)

      later : list_any test (filter keeps xs) ≡ true → (b : Bool) → list_any test (cond b (x ∷ filter keeps xs) (filter keeps xs)) ≡ true
      later rest true = or_right (test x) _ rest
      later rest false = rest

      by_test : (list_any test xs ≡ true → list_any test (filter keeps xs) ≡ true) → (b : Bool) → test x ≡ b → (b || list_any test xs) ≡ true → list_any test (cond (keeps x) (x ∷ filter keeps xs) (filter keeps xs)) ≡ true
      by_test rest true passes any = first (kept x passes) passes
      by_test rest false fails any = later (rest any) (keeps x)

  any_front : (xs ys : List X) → list_any test xs ≡ true → list_any test (xs ++ ys) ≡ true
  any_front xs ys any = list_any-append test xs ys ∙ or_left (list_any test xs) _ any

  any_back : (xs ys : List X) → list_any test ys ≡ true → list_any test (xs ++ ys) ≡ true
  any_back xs ys any = list_any-append test xs ys ∙ or_right (list_any test xs) _ any

  -- or among those that it doesn't
  any_part : (other : X → Bool) (xs : List X) → list_any test xs ≡ true → (list_any test (filter other xs) ≡ true) ⊎ (list_any test (filter (λ x. not (other x)) xs) ≡ true)
  any_part other [] any = absurd (true≢false (sym any))
  any_part other (x ∷ xs) any = by_both (any_part other xs) (other x) (test x) refl any
    where
      Parted : Bool → Type 0
      Parted b = (list_any test (cond b (x ∷ filter other xs) (filter other xs)) ≡ true) ⊎ (list_any test (cond (not b) (x ∷ filter (λ y. not (other y)) xs) (filter (λ y. not (other y)) xs)) ≡ true)

      by_both : (list_any test xs ≡ true → (list_any test (filter other xs) ≡ true) ⊎ (list_any test (filter (λ y. not (other y)) xs) ≡ true)) → (b a : Bool) → test x ≡ a → (a || list_any test xs) ≡ true → Parted b
      by_both rest true true passes any = inl (or_left (test x) _ passes)
      by_both rest true false fails any = elim (rest any) [
        | inl front ↦ inl (or_right (test x) _ front)
        | inr back ↦ inr back
      ]
      by_both rest false true passes any = inr (or_left (test x) _ passes)
      by_both rest false false fails any = elim (rest any) [
        | inl front ↦ inl front
        | inr back ↦ inr (or_right (test x) _ back)
      ]

  any_put : (other : X → Bool) (y : X) (xs : List X) → list_any test xs ≡ true → list_any test (filter other xs ++ y ∷ filter (λ x. not (other x)) xs) ≡ true
  any_put other y xs any = elim (any_part other xs any) [
    | inl front ↦ any_front (filter other xs) (y ∷ filter (λ x. not (other x)) xs) front
    | inr back ↦ any_back (filter other xs) (y ∷ filter (λ x. not (other x)) xs) (or_right (test y) _ back)
  ]

pub other_slot : (slot other : ℕ) → other ≢ slot → (e : Entry) → is_in other e ≡ true → not (is_in slot e) ≡ true
other_slot slot other differ e is = ap not (ne_eqb e.1 slot (λ same. differ (sym (eqb-true e.1 other is) ∙ same)))

module _ (state : State) (table : ℕ) (within : table < length state.tables) (slot other : ℕ) (differ : other ≢ slot) (live : is_live_in state table other ≡ true) where
  live_left : is_live other (without slot (entries_of state table)) ≡ true
  live_left = any_filter (is_in other) (λ (e : Entry). not (is_in slot e)) (other_slot slot other differ) (entries_of state table) live

  pub live_without : is_live_in (without_at state table slot) table other ≡ true
  live_without = ap (is_live other) (entries_given state table within (without slot (entries_of state table)) (counter_of state table)) ∙ live_left

  pub live_with : (row : List Value) → is_live_in (with_row_at state table slot row) table other ≡ true
  live_with row =
      ap (is_live other) (entries_given state table within (with_row (indexes_of state table) slot row (entries_of state table)) (raised (counted_at state table) row (counter_of state table)))
      ∙ any_put (is_in other) (is_below (entry_cmp (primary_of (indexes_of state table))) (row, slot)) (row, slot) (without slot (entries_of state table)) live_left

-- the slots behind the one that was changed
module _ (table : ℕ) (before after : State) (slot : SlotRef) (stay : (other : SlotRef) → other.0 ≢ slot.0 → is_live_in before table other.0 ≡ true → is_live_in after table other.0 ≡ true) where
  all_stay : (slots : List SlotRef) → AllByRecursion (λ (other : SlotRef). (other.0 == slot.0) ≡ false) slots → AllByRecursion (λ (other : SlotRef). is_live_in before table other.0 ≡ true) slots → AllByRecursion (λ (other : SlotRef). is_live_in after table other.0 ≡ true) slots
  all_stay [] apart live = tt
  all_stay (other ∷ slots) apart live = (stay other (eqb-false other.0 slot.0 apart.0) live.0, all_stay slots apart.1 live.1)

  pub slots_rest : (slots : List SlotRef) → AreSlots before table (slot ∷ slots) → AreSlots after table slots
  slots_rest slots are = record { live = all_stay slots are.once.0 are.live.1; once = are.once.1 }
