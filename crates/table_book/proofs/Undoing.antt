-- Rows before changes that are noted.
--     same_shape      the schema and the limit are the same
--     before_valid      the rows are valid
--     noted_leads      the net changes lead on from them
--     noted_differs, noted_none      where there is a net change, and where there is none
use Rattle.std.proofs.Common.{◌≡◌, List, [], ◌∷◌, refl, sym, subst}
use Rattle.std.specs.Prelude.{◌≢◌}
use Rattle.table_rows.specs.declared.undo.Undo.{Undo}
use Rattle.table_rows.specs.declared.undo.Undo.TheVariants.{Put, Replaced, Deleted, Count}
use Rattle.table_rows.specs.Database.{Database, database_of}
use Rattle.table_rows.specs.Rows.{State}
use Rattle.table_rows.specs.Undoing.{since, undone, undone_all, AreUndoable}
use Rattle.table_rows.specs.Valid.{IsValidState}
use Rattle.change_set.specs.Fitting.{AreValuesHeld}
use Rattle.change_set.specs.Net.{changes}
use Rattle.change_set.specs.Payload.{payload}
use Rattle.change_set.specs.Putting.{IsValidDatabase, NoneLower}
use Rattle.change_set.proofs.ValidAlone.{database_valid}
use Rattle.table_recovery.specs.Shown.{Leads}
use Rattle.table_recovery.proofs.PayloadLaws.{net_leads}
use Rattle.table_book.specs.Committing.{before_all, noted}
use Rattle.table_book.proofs.NoChange.{net_of_itself, same_when_none}

abbrev AreAlike : State → State → Type 0
AreAlike after before = (after.schema ≡ before.schema) × (after.bytes_max ≡ before.bytes_max)

pub same_shape : (undos : List Undo) (state : State) → AreAlike (undone_all undos state) state
same_shape [] state = (refl, refl)
same_shape (Put table slot counter ∷ undos) state = same_shape undos (undone (Put table slot counter) state)
same_shape (Replaced table slot row counter ∷ undos) state = same_shape undos (undone (Replaced table slot row counter) state)
same_shape (Deleted table slot row ∷ undos) state = same_shape undos (undone (Deleted table slot row) state)
same_shape (Count table counter ∷ undos) state = same_shape undos (undone (Count table counter) state)

pub before_valid : (undos : List Undo) (state : State) → IsValidState state → AreUndoable undos state → IsValidState (undone_all undos state)
before_valid [] state valid can = valid
before_valid (undo ∷ undos) state valid can = before_valid undos (undone undo state) can.0.valid can.1

module _ (notes : List Undo) (tables : State) (valid : IsValidState tables) (can : AreUndoable (since 0 notes) tables) where
  pub old_valid : IsValidDatabase (before_all notes tables)
  old_valid = database_valid (undone_all (since 0 notes) tables) (before_valid (since 0 notes) tables valid can)

  pub new_valid : IsValidDatabase (database_of tables)
  new_valid = database_valid tables valid

  pub noted_leads : NoneLower (before_all notes tables).tables (database_of tables).tables → AreValuesHeld (noted notes tables) → noted notes tables ≢ [] → Leads (before_all notes tables) (payload (noted notes tables)) (database_of tables)
  noted_leads lower held some =
      let shape = same_shape (since 0 notes) tables in
      net_leads (before_all notes tables) (database_of tables) old_valid new_valid (sym shape.0) (sym shape.1) lower held some

  pub noted_none : noted notes tables ≡ [] → before_all notes tables ≡ database_of tables
  noted_none none =
      let shape = same_shape (since 0 notes) tables in
      sym (same_when_none (before_all notes tables) (database_of tables) old_valid new_valid (sym shape.0) (sym shape.1) none)

pub noted_differs : (notes : List Undo) (tables : State) → noted notes tables ≢ [] → database_of tables ≢ before_all notes tables
noted_differs notes tables some same =
    some (subst (λ (db : Database). changes db (database_of tables) ≡ []) same (net_of_itself (database_of tables)))
