-- The slots that stand for the places of rows.
--     apart_slots      no two places have one slot
--     named_tables      rows in their slots are those in their places
use Rattle.std.proofs.Common.{◌≡◌, ◌⊎◌, ℕ, zero, suc, ◌+◌, ◌<◌, ◌≤◌, Bool, true, false, List, [], ◌∷◌, map, length, get_or, refl, ap, ap₂, sym, subst, ◌∙◌, arith, inl, inr}
use Rattle.std.specs.Prelude.{◌==◌}
use Rattle.std.specs.List.{AllByRecursion}
use Rattle.std.proofs.lemmas.Bool.{true≢false, cases_lt, eqb-true, eq-eqb, ne_eqb}
use Rattle.std.proofs.lemmas.List.{length-map, get_or-map, get_or_past}
use Rattle.std.proofs.lemmas.List.Elements.{All-from_recursion}
use Rattle.table_rows.specs.Entries.{Entry}
use Rattle.table_rows.specs.Rows.{Rows, State, no_rows, rows_of}
use Rattle.table_rows.specs.Slots.{is_in}
use Rattle.table_rows.specs.Valid.{IsValidState}
use Rattle.table_rows.proofs.BySlot.{HaveOwnSlots}
use Rattle.table_rows.proofs.States.{rows_valid}
use Rattle.table_rows.specs.Database.{no_holding, rows_alone, holding_in, placed_from, placed}
use Rattle.table_rows.proofs.Alone.{tables_placed}
use Rattle.batch_answers.proofs.Moved.{all_moved}
use Rattle.batch_answers.proofs.Changed.{AreMoved}

-- the slots of entries
abbrev pub slots_in : List Entry → List ℕ
slots_in entries = map (λ (entry : Entry). entry.1) entries

-- the slot of the row at a place, and one of its own for each place behind all rows
abbrev pub slot_at : Rows → ℕ → ℕ
slot_at rows place = get_or (slots_in rows.entries) place (rows.room + place)

-- an entry that stands for none
abbrev no_entry : Entry
no_entry = ([], 0)

named : (g : ℕ → ℕ) (first : ℕ) (entries : List Entry) → ((i : ℕ) → i < length entries → g (first + i) ≡ (get_or entries i no_entry).1) → all_moved g (placed_from first (rows_alone entries)) ≡ entries
named g first [] is = refl
named g first (e ∷ es) is =
    let here : g first ≡ e.1 = subst (λ (n : ℕ). g n ≡ e.1) (omega arith) (is 0 (omega arith)) in
    ap₂ (λ (x : Entry) (xs : List Entry). x ∷ xs) (ap (λ (n : ℕ). (e.0, n)) here)
    (named g (suc first) es (λ i below. subst (λ (n : ℕ). g n ≡ (get_or es i no_entry).1) (omega arith) (is (suc i) (omega (arith, below)))))

slots_differ : (entries : List Entry) → HaveOwnSlots entries → (i j : ℕ) → i < j → j < length entries → (get_or entries i no_entry).1 ≡ (get_or entries j no_entry).1 → ⊥
slots_differ [] own i j before below same = absurd (omega (arith, below))
slots_differ (e ∷ es) own i zero before below same = absurd (omega (arith, before))
slots_differ (e ∷ es) own zero (suc j) before below same =
    true≢false (sym (eq-eqb (get_or es j no_entry).1 e.1 (sym same)) ∙ All-from_recursion (λ (b : Entry). is_in e.1 b ≡ false) es own.0 j no_entry (omega (arith, below)))
slots_differ (e ∷ es) own (suc i) (suc j) before below same = slots_differ es own.1 i j (omega (arith, before)) (omega (arith, below)) same

module _ (rows : Rows) (own : HaveOwnSlots rows.entries) (within : AllByRecursion (λ (entry : Entry). entry.1 < rows.room) rows.entries) where
  slot_here : (i : ℕ) → i < length rows.entries → slot_at rows i ≡ (get_or rows.entries i no_entry).1
  slot_here i below = get_or-map (λ (entry : Entry). entry.1) rows.entries i no_entry (rows.room + i) below

  slot_behind : (i : ℕ) → length rows.entries ≤ i → slot_at rows i ≡ rows.room + i
  slot_behind i past = get_or_past (slots_in rows.entries) i (rows.room + i) (subst (λ (n : ℕ). n ≤ i) (sym (length-map rows.entries (λ (entry : Entry). entry.1))) past)

  slot_below : (i : ℕ) → i < length rows.entries → slot_at rows i < rows.room
  slot_below i below = subst (λ (n : ℕ). n < rows.room) (sym (slot_here i below)) (All-from_recursion (λ (entry : Entry). entry.1 < rows.room) rows.entries within i no_entry below)

  same_place : (a b : ℕ) → slot_at rows a ≡ slot_at rows b → a ≡ b
  same_place a b same = by_places (cases_lt a (length rows.entries)) (cases_lt b (length rows.entries))
    where
      by_order : a < length rows.entries → b < length rows.entries → (a < b) ⊎ (b ≤ a) → (b < a) ⊎ (a ≤ b) → a ≡ b
      by_order first second (inl less) other =
          absurd (slots_differ rows.entries own a b less second (sym (slot_here a first) ∙ same ∙ slot_here b second))
      by_order first second (inr more) (inl less) =
          absurd (slots_differ rows.entries own b a less first (sym (slot_here b second) ∙ sym same ∙ slot_here a first))
      by_order first second (inr more) (inr less) = omega (arith, more, less)

      by_places : (a < length rows.entries) ⊎ (length rows.entries ≤ a) → (b < length rows.entries) ⊎ (length rows.entries ≤ b) → a ≡ b
      by_places (inl first) (inl second) = by_order first second (cases_lt a b) (cases_lt b a)
      by_places (inl first) (inr past) = absurd (omega (arith, slot_below a first, slot_behind b past, same))
      by_places (inr past) (inl second) = absurd (omega (arith, slot_below b second, slot_behind a past, same))
      by_places (inr before) (inr past) = omega (arith, slot_behind a before, slot_behind b past, same)

  pub apart_slots : (a b : ℕ) → (slot_at rows a == slot_at rows b) ≡ (a == b)
  apart_slots a b = by_same (a == b) refl
    where
      by_same : (eq : Bool) → (a == b) ≡ eq → (slot_at rows a == slot_at rows b) ≡ eq
      by_same true same = eq-eqb (slot_at rows a) (slot_at rows b) (ap (slot_at rows) (eqb-true a b same))
      by_same false differ = ne_eqb (slot_at rows a) (slot_at rows b) (λ same. true≢false (sym (eq-eqb a b (same_place a b same)) ∙ differ))

  named_rows : all_moved (slot_at rows) (placed_from 0 (rows_alone rows.entries)) ≡ rows.entries
  named_rows = named (slot_at rows) 0 rows.entries (λ i below. subst (λ (n : ℕ). slot_at rows n ≡ (get_or rows.entries i no_entry).1) (omega arith) (slot_here i below))

module _ (state : State) (valid : IsValidState state) (table : ℕ) (below : table < length state.tables) where
  -- the slots that stand for the places of this table's rows
  abbrev pub naming : ℕ → ℕ
  naming = slot_at (rows_of state table)

  pub apart_naming : (a b : ℕ) → (naming a == naming b) ≡ (a == b)
  apart_naming = apart_slots (rows_of state table) (rows_valid state valid table below).apart (rows_valid state valid table below).within

  pub named_tables : AreMoved naming table state.tables (map placed (map holding_in state.tables))
  named_tables =
      let alone = map holding_in state.tables in
      let long : length (map placed alone) ≡ length state.tables = length-map alone placed ∙ length-map state.tables holding_in in
      let there : get_or (map placed alone) table no_rows ≡ placed (holding_in (rows_of state table)) =
      get_or-map placed alone table no_holding no_rows (subst (λ (n : ℕ). table < n) (sym (length-map state.tables holding_in)) below)
      ∙ ap placed (get_or-map holding_in state.tables table no_rows no_holding below) in
      record {
        within = subst (λ (n : ℕ). table < n) (sym long) below;
        entries =
            sym (named_rows (rows_of state table) (rows_valid state valid table below).apart (rows_valid state valid table below).within)
            ∙ ap (λ (rows : Rows). all_moved naming rows.entries) (sym there);
        alone = sym (tables_placed alone);
      }
