-- Counters from before changes.
--     no_counter      a table without a counted column
--     counters_long, schema_long, noted_table      how many tables there are, and those that notes name
--     counters_next      one change more that is older
--     counters_at      the counter of one table
use Rattle.std.proofs.Common.{◌≡◌, ℕ, zero, suc, ◌<◌, List, [], ◌∷◌, ◌++◌, length, map, set, get_or, refl, sym, ap, subst, ◌∙◌}
use Rattle.std.specs.Prelude.{Option, Some, None, slice_get}
use Rattle.std.proofs.lemmas.Option.{same_Some}
use Rattle.std.proofs.lemmas.List.{length-map}
use Rattle.index_tree.proofs.Elements.{all_members, contains_at}
use Rattle.table_rows.specs.Counters.{IsCounter, counter_if}
use Rattle.table_rows.specs.declared.undo.Undo.{Undo}
use Rattle.table_rows.specs.declared.undo.Undo.TheVariants.{Put, Replaced, Deleted, Count}
use Rattle.table_rows.specs.Rows.{Rows, State, no_rows, counted_at, counter_of}
use Rattle.table_rows.specs.Undoing.{since, table_of, undone, undone_all}
use Rattle.table_rows.specs.Valid.{AreValidRows, IsValidState}
use Rattle.table_rows.proofs.States.{rows_valid, zip_long}
use Rattle.table_rows.proofs.Undone.{undone_all-append}
use Rattle.change_set.specs.Touched.{AreOfTables, counter_before, counters}
use Rattle.change_set.proofs.NoteSteps.{since_next, map_set, map_set_same}

nothing_noted : (noted : ℕ × ℕ) → None ≡ Some noted → ⊥
nothing_noted noted e = cc

some_none : (n : ℕ) → Some n ≡ None → ⊥
some_none n e = cc

no_counted : (counted : Option ℕ) (counter : ℕ) → IsCounter counted counter → counter_if counted counter ≡ None → 0 ≡ counter
no_counted None counter is none = sym is
no_counted (Some column) counter is none = absurd (some_none counter none)

pub no_counter : (state : State) → IsValidState state → (table : ℕ) → table < length state.tables → counter_if (counted_at state table) (counter_of state table) ≡ None → 0 ≡ counter_of state table
no_counter state valid table within none = no_counted (counted_at state table) (counter_of state table) (rows_valid state valid table within).counter none

-- as many as there are tables
pub counters_long : (state : State) → length (counters state) ≡ length state.tables
counters_long state = length-map state.tables (λ (rows : Rows). rows.counter)

pub schema_long : (state : State) → IsValidState state → length state.schema.tables ≡ length state.tables
schema_long state valid = zip_long AreValidRows state.schema.tables state.tables valid.tables

-- a note's table
of_note : (note : Undo) (noted : ℕ × ℕ) → counter_before note ≡ Some noted → table_of note ≡ noted.0
of_note (Put t s counter) noted is = ap (λ (p : ℕ × ℕ). p.0) (same_Some (t, counter) noted is)
of_note (Replaced t s row counter) noted is = ap (λ (p : ℕ × ℕ). p.0) (same_Some (t, counter) noted is)
of_note (Deleted t s row) noted is = absurd (nothing_noted noted is)
of_note (Count t counter) noted is = ap (λ (p : ℕ × ℕ). p.0) (same_Some (t, counter) noted is)

pub noted_table : (state : State) (entries : List Undo) → AreOfTables state entries → (at : ℕ) (note : Undo) → slice_get entries at ≡ Some note → (noted : ℕ × ℕ) → counter_before note ≡ Some noted → noted.0 < length state.tables
noted_table state entries tables at note here noted is =
    subst (λ (n : ℕ). n < length state.tables) (of_note note noted is) (all_members (λ (u : Undo). table_of u < length state.tables) entries note tables (contains_at entries at note here))

-- the counters with the one that a note has
abbrev pub with_noted : Option (ℕ × ℕ) → List ℕ → List ℕ
with_noted None counts = counts
with_noted (Some noted) counts = set counts noted.0 noted.1

undone_counters : (note : Undo) (state : State) → counters (undone note state) ≡ with_noted (counter_before note) (counters state)
undone_counters (Put t s counter) state = map_set (λ (rows : Rows). rows.counter) state.tables t _
undone_counters (Replaced t s row counter) state = map_set (λ (rows : Rows). rows.counter) state.tables t _
undone_counters (Deleted t s row) state = map_set_same (λ (rows : Rows). rows.counter) state.tables t _ no_rows refl
undone_counters (Count t counter) state = map_set (λ (rows : Rows). rows.counter) state.tables t _

pub counters_next : (entries : List Undo) (at : ℕ) (note : Undo) (state : State) → slice_get entries at ≡ Some note → counters (undone_all (since at entries) state) ≡ with_noted (counter_before note) (counters (undone_all (since (suc at) entries) state))
counters_next entries at note state is =
    ap (λ (us : List Undo). counters (undone_all us state)) (since_next entries at note is)
    ∙ ap counters (undone_all-append (since (suc at) entries) (note ∷ []) state)
    ∙ undone_counters note (undone_all (since (suc at) entries) state)

counter_in : (tables : List Rows) (table : ℕ) → get_or (map (λ (rows : Rows). rows.counter) tables) table 0 ≡ (get_or tables table no_rows).counter
counter_in [] table = refl
counter_in (t ∷ ts) zero = refl
counter_in (t ∷ ts) (suc table) = counter_in ts table

pub counters_at : (state : State) (table : ℕ) → get_or (counters state) table 0 ≡ counter_of state table
counters_at state table = counter_in state.tables table
