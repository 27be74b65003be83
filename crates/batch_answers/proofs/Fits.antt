-- What a request that fits says of the tables.
--     find_within, find_numbers      the table of a find, and its columns
--     slots_are      the slots that it selects
--     ends_last      the last of all items ends its run
use Rattle.std.proofs.Common.{◌≡◌, ℕ, zero, suc, ◌+◌, ◌<◌, true, List, [], ◌∷◌, length, drop, refl, subst, arith, ◌≤◌}
use Rattle.std.specs.List.{All}
use Rattle.std.proofs.lemmas.List.Elements.{recursion_from_All}
use Rattle.row_types.specs.declared.tables.TableDef.{TableDef}
use Rattle.request_types.specs.declared.finds.FindSpec.{FindSpec}
use Rattle.request_types.specs.Fits.{AreNumbers, FindFits, FindFitsTable}
use Rattle.request_types.proofs.FitFacts.{is_within, holds_there}
use Rattle.table_rows.specs.declared.slot_ref.SlotRef.{SlotRef}
use Rattle.table_rows.specs.Rows.{State, no_table, columns_of}
use Rattle.table_rows.specs.Slots.{is_live_in}
use Rattle.table_rows.specs.Valid.{AreValidRows, IsValidState}
use Rattle.table_rows.proofs.States.{zip_long}
use Rattle.table_rows.specs.Named.{AreDistinct, AreSlots}
use Rattle.request_types.specs.declared.batches.Item.{Item}
use Rattle.batch_answers.specs.Steps.{ends_run}

module _ (state : State) (valid : IsValidState state) (find : FindSpec) (fits : FindFits state.schema find) where
  pub find_within : find.table < length state.tables
  find_within =
      subst (λ (n : ℕ). find.table < n) (zip_long AreValidRows state.schema.tables state.tables valid.tables)
      (is_within (λ (t : TableDef). FindFitsTable t find) state.schema.tables find.table fits)

  pub find_numbers : AreNumbers (columns_of state find.table) find.columns
  find_numbers = (holds_there (λ (t : TableDef). FindFitsTable t find) state.schema.tables find.table no_table fits).columns

pub slots_are : (state : State) (table : ℕ) (slots : List SlotRef) → All (λ (slot : SlotRef). is_live_in state table slot.0 ≡ true) slots → AreDistinct slots → AreSlots state table slots
slots_are state table slots live apart = record {
  live = recursion_from_All (λ (slot : SlotRef). is_live_in state table slot.0 ≡ true) slots live;
  once = apart;
}

pub ends_last : (items : List Item) (place : ℕ) → length items ≤ place + 1 → true ≡ ends_run (drop place items)
ends_last [] zero past = refl
ends_last [] (suc place) past = refl
ends_last (item ∷ []) zero past = refl
ends_last (item ∷ next ∷ later) zero past = absurd (omega (arith, past))
ends_last (item ∷ items) (suc place) past = ends_last items place (omega (arith, past))
