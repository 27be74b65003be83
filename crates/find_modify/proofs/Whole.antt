-- The whole change.
--     table_within, mod_fits      what it asks for
--     all_noted, none_made, fault_answered      what it answers
use Rattle.std.proofs.Common.{◌≡◌, ℕ, ◌<◌, List, length, Result, Ok, Err, ap, sym, subst}
use Rattle.std.specs.Prelude.{IfOk, IsErr}
use Rattle.row_types.specs.declared.tables.TableDef.{TableDef}
use Rattle.request_types.specs.declared.codes.Code.{Code}
use Rattle.request_types.specs.declared.mods.ModSpec.{ModSpec}
use Rattle.request_types.specs.declared.faults.Fault.{Fault}
use Rattle.request_types.specs.declared.faults.Fault.TheVariants.{Refused, NoMemory}
use Rattle.request_types.specs.Refusal.{Fails}
use Rattle.request_types.specs.Fits.{ModFitsTable, ModFits}
use Rattle.request_types.proofs.FitFacts.{is_within, holds_there}
use Rattle.table_rows.specs.declared.slot_ref.SlotRef.{SlotRef}
use Rattle.table_rows.specs.Rows.{State, no_table, def_of}
use Rattle.table_rows.specs.Valid.{AreValidRows, IsValidState}
use Rattle.table_rows.proofs.States.{zip_long}
use Rattle.find_modify.specs.declared.modifies.Modified.{Modified}
use Rattle.find_modify.specs.Change.{answer_to}
use Rattle.find_modify.specs.Steps.{IsAnswer}

module _ (state : State) (table : ℕ) (columns : List ℕ) (change : ModSpec) (fits : ModFits state.schema table columns change) where
  pub table_within : IsValidState state → table < length state.tables
  table_within valid =
      subst (λ (n : ℕ). table < n) (zip_long AreValidRows state.schema.tables state.tables valid.tables) (is_within (λ (t : TableDef). ModFitsTable t columns change) state.schema.tables table fits)

  pub mod_fits : ModFitsTable (def_of state table) columns change
  mod_fits = holds_there (λ (t : TableDef). ModFitsTable t columns change) state.schema.tables table no_table fits

err_no_answer : {E : Type 0} (result : Result Modified E) (P : Modified → Type 0) → IsErr result → IfOk result P
err_no_answer (Ok answer) P err = absurd cc
err_no_answer (Err e) P err = tt

pub fault_answered : {E : Type 0} (slots : List SlotRef) (made : Result State Code) (fault : Fault) (result : Result Modified E) → IsAnswer fault result → Fails fault made → IfOk result (λ answer. answer ≡ answer_to slots made)
fault_answered slots made (Refused code) result is fails =
    subst (λ r. IfOk r (λ answer. answer ≡ answer_to slots made)) (sym is) (sym (ap (answer_to slots) fails))
fault_answered slots made NoMemory result is fails = err_no_answer result _ is
