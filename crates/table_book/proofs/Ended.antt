-- What a batch's end says of the tables' shape and of histories.
--     ended_shape      the schema and the limits are the same
--     ended_history, ended_same      a history goes on where the rows changed, and else stays
use Rattle.std.proofs.Common.{◌≡◌, ◌⊎◌, inl, inr, ℕ, List, sym, ap, subst, ◌∙◌}
use Rattle.std.specs.Prelude.{◌≢◌}
use Rattle.request_types.specs.declared.batches.Item.{Item}
use Rattle.request_types.specs.declared.batches.Part.{Part}
use Rattle.line_pipeline.specs.declared.outcomes.Outcome.{Outcome}
use Rattle.line_pipeline.specs.declared.outcomes.Outcome.TheVariants as outcomes
use Rattle.table_rows.specs.Database.{Database}
use Rattle.batch_answers.specs.Answers.{after}
use Rattle.table_book.specs.declared.entry.Entry.{Entry}
use Rattle.table_book.specs.Histories.{LeadsTo, with_entry}
use Rattle.table_book.specs.Books.{Keeping, rows, place}
use Rattle.table_book.specs.Settling.{Settles}
use Rattle.table_book.specs.Outcomes.{IfDone, IfUndone}
use Rattle.table_book.proofs.Histories.{goes_on}

one_of_two : (P Q : Type 0) (result : Outcome) → IfDone result (λ replies. P) → IfUndone result Q → P ⊎ Q
one_of_two P Q (outcomes.Done replies) done undone = inl done
one_of_two P Q outcomes.DiskFault done undone = inr undone
one_of_two P Q outcomes.NoMemory done undone = inr undone

module _ {D : Type 0} (tells : Type 0) (seen : D → List ℕ) (may_leave : D → List ℕ → Type 0) (moment : D → ℕ) (left_at : D → ℕ → List ℕ → Type 0) (fault_count which : D → ℕ)
    (parts : List Part) (before : Keeping D) (next : Database) (result : Outcome) (now : Keeping D) (ends : Settles tells seen may_leave moment left_at fault_count which parts before next result now) where
  -- the rows are the next ones, or those from before
  reached : (rows now ≡ next) ⊎ (rows now ≡ rows before)
  reached = one_of_two (rows now ≡ next) (rows now ≡ rows before) result ends.done ends.undone

  pub ended_shape : next.schema ≡ before.tables.schema → next.bytes_max ≡ before.tables.bytes_max → (now.tables.schema ≡ before.tables.schema) × (now.tables.bytes_max ≡ before.tables.bytes_max) × (now.log_max ≡ before.log_max)
  ended_shape schema bytes_max = elim reached [
    | inl there ↦ (ap (λ (db : Database). db.schema) there ∙ schema, ap (λ (db : Database). db.bytes_max) there ∙ bytes_max, ends.of_log)
    | inr back ↦ (ap (λ (db : Database). db.schema) back, ap (λ (db : Database). db.bytes_max) back, ends.of_log)
  ]

  pub ended_history : (items : List Item) → next ≡ after (rows before) items → (base : Database) (first seat : ℕ) (history : List Entry) → LeadsTo base first history (rows before) (place before) → rows now ≢ rows before → LeadsTo base first (with_entry history seat items) (rows now) (place now)
  ended_history items leads base first seat history so_far moved = elim reached [
    | inl there ↦
        let is : after (rows before) items ≡ rows now = sym (there ∙ leads) in
        subst (λ (s : Database × ℕ). LeadsTo base first (with_entry history seat items) s.0 s.1) (λ i. (is i, sym (ends.counted.next moved) i))
        (goes_on base (rows before) first (place before) seat history items so_far (λ same. moved (sym is ∙ same)))
    | inr back ↦ absurd (moved back)
  ]

  pub ended_same : (base : Database) (first : ℕ) (history : List Entry) → LeadsTo base first history (rows before) (place before) → rows now ≡ rows before → LeadsTo base first history (rows now) (place now)
  ended_same base first history so_far same =
      subst (λ (s : Database × ℕ). LeadsTo base first history s.0 s.1) (λ i. (sym same i, sym (ends.counted.same same) i)) so_far
