-- What a book says of a batch, as one that runs batches.
use Rattle.std.specs.Prelude.{◌≡◌, ◌≢◌, ℕ, List}
use Rattle.request_types.specs.declared.batches.Item.{Item}
use Rattle.line_pipeline.specs.declared.outcomes.Outcome.{Outcome}
use Rattle.table_rows.specs.Database.{Database}
use Rattle.batch_answers.specs.Answers.{after, parts_for}
use Rattle.table_book.specs.declared.entry.Entry.{Entry}
use Rattle.table_book.specs.Books.{Keeping, rows, place}
use Rattle.table_book.specs.Settling.{Settles}
use Rattle.table_book.specs.Histories.{LeadsTo, with_entry}

-- The batch is done or taken back, its disk keeps the rows that the book has, and a legal history that led to the book
-- goes on by the batch where it changed anything.
pub record RanOn {D : Type 0} (tells : Type 0) (seen : D → List ℕ) (may_leave : D → List ℕ → Type 0) (moment : D → ℕ)
    (left_at : D → ℕ → List ℕ → Type 0) (fault_count which : D → ℕ) (before : Keeping D) (items : List Item)
    (result : Outcome) (book : Keeping D) : Type 0 where
  pub settles : Settles tells seen may_leave moment left_at fault_count which (parts_for (rows before) items) before
      (after (rows before) items) result book
  pub schema : (book.tables.schema ≡ before.tables.schema) × (book.tables.bytes_max ≡ before.tables.bytes_max)
  pub history : (base : Database) (first seat : ℕ) (history : List Entry)
      → LeadsTo base first history (rows before) (place before) → rows book ≢ rows before
      → LeadsTo base first (with_entry history seat items) (rows book) (place book)
  pub same_history : (base : Database) (first : ℕ) (history : List Entry)
      → LeadsTo base first history (rows before) (place before) → rows book ≡ rows before
      → LeadsTo base first history (rows book) (place book)
