-- What an insert that fits says of the tables.
--     insert_within, insert_kinds
--     put_is      the row that came was put
use Rattle.std.proofs.Common.{◌≡◌, ℕ, ℤ, ◌<◌, List, [], ◌∷◌, ◌++◌, Option, Ok, length, get_or, subst, ap, ◌∙◌}
use Rattle.row_types.specs.declared.values.Value.{Value}
use Rattle.row_types.specs.declared.tables.TableDef.{TableDef}
use Rattle.row_types.specs.declared.tables.Schema.{Schema}
use Rattle.request_types.proofs.FitFacts.{is_within, holds_there}
use Rattle.request_types.specs.declared.inserts.InsertSpec.{InsertSpec}
use Rattle.request_types.specs.Fits.{InsertFitsTable, InsertFits}
use Rattle.table_rows.specs.declared.undo.Undo.{Undo}
use Rattle.table_rows.specs.declared.undo.Undo.TheVariants.{Put}
use Rattle.table_rows.specs.Rows.{Rows, State, no_table, def_of, columns_of, rows_of, counter_of}
use Rattle.table_rows.specs.Slots.{IsVacant, with_row_at}
use Rattle.table_rows.specs.Widths.{with_slots}
use Rattle.table_rows.specs.Valid.{AreValidRows, IsValidState}
use Rattle.table_rows.proofs.States.{zip_long, rows_with, def_valid}
use Rattle.row_insert.specs.Refusal.{IsOfKinds}
use Rattle.row_insert.specs.Draw.{coming_to}
use Rattle.row_insert.specs.Insert.{new_row, IsPut}
use Rattle.row_insert.proofs.ValueKinds.{new_row_kinds}

module _ (state : State) (valid : IsValidState state) (schema : Schema) (same : schema ≡ state.schema) (spec : InsertSpec) (fits : InsertFits schema spec) where
  pub insert_within : spec.table < length state.tables
  insert_within =
      let inside = is_within (λ (t : TableDef). InsertFitsTable t spec) schema.tables spec.table fits in
      let long = ap (λ (s : Schema). length s.tables) same ∙ zip_long AreValidRows state.schema.tables state.tables valid.tables in
      subst (λ n. spec.table < n) long inside

  pub insert_named : InsertFitsTable (def_of state spec.table) spec
  insert_named =
      subst (λ (s : Schema). InsertFitsTable (get_or s.tables spec.table no_table) spec) same
      (holds_there (λ (t : TableDef). InsertFitsTable t spec) schema.tables spec.table no_table fits)

  pub insert_kinds : IsOfKinds (columns_of state spec.table) (new_row (columns_of state spec.table) spec)
  insert_kinds = new_row_kinds (columns_of state spec.table) spec insert_named.values (def_valid state valid spec.table insert_within).columns.each

  pub insert_in_schema : spec.table < length state.schema.tables
  insert_in_schema = subst (λ (s : Schema). spec.table < length s.tables) same (is_within (λ (t : TableDef). InsertFitsTable t spec) schema.tables spec.table fits)

-- the row that came was put once there was a slot for it
module _ (table : ℕ) (asked row : List Value) (number : Option ℤ) (before between after : State) (undos noted more : List Undo) where
  -- what a put says
  abbrev pub Puts : Type 0
  Puts = (slot : ℕ) × IsVacant slot (rows_of between table) × (after ≡ with_row_at between table slot row) × (more ≡ noted ++ Put table (record { 0 = slot }) (counter_of between table) ∷ [])

  pub put_is : table < length before.tables → coming_to before table asked ≡ Ok (record { row = row; number = number }) → between ≡ with_slots before table 1 → noted ≡ undos → Puts → IsPut table asked number before after undos more
  put_is within comes wide same put =
      let counter : counter_of between table ≡ counter_of before table = ap (λ (s : State). counter_of s table) wide ∙ ap (λ (rows : Rows). rows.counter) (rows_with before table within _) in
      record {
        row = row;
        comes = comes;
        slot = put.0;
        vacant = subst (λ (s : State). IsVacant put.0 (rows_of s table)) wide put.1;
        put = put.2 ∙ ap (λ (s : State). with_row_at s table put.0 row) wide;
        noted = put.3 ∙ (λ i. same i ++ Put table (record { 0 = put.0 }) (counter i) ∷ []);
      }
