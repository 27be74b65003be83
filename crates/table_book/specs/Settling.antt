-- What comes of a batch whose changes are written, or that is taken back.
use Rattle.std.specs.Prelude.{◌≡◌, ◌≢◌, ◌⊎◌, ◌≤◌, ℕ, suc, List}
use Rattle.fault_count.specs.Cause.{Rose}
use Rattle.hs_disk.specs.Disk.{AllImages, LeavesOnly}
use Rattle.request_types.specs.declared.batches.Part.{Part}
use Rattle.line_pipeline.specs.declared.outcomes.Outcome.{Outcome}
use Rattle.table_rows.specs.Database.{Database}
use Rattle.table_book.specs.Books.{Keeping, rows, place, ShowsBook, ShowsStep, IsKeptBeside, IsKept, IsCounted}
use Rattle.table_book.specs.Outcomes.{IfDone, IfUndone, IfDiskFault}

-- What comes of a batch that leads a book to the next rows, with these parts for an answer: it is done, and the book
-- has those rows, or it is not, and the book has its rows from before. In each case the disk keeps the rows that the
-- book has.
pub record Settles {D : Type 0} (tells : Type 0) (seen : D → List ℕ) (may_leave : D → List ℕ → Type 0) (moment : D → ℕ)
    (left_at : D → ℕ → List ℕ → Type 0) (fault_count which : D → ℕ) (parts : List Part) (before : Keeping D)
    (next : Database) (result : Outcome) (after : Keeping D) : Type 0 where
  pub answered : IfDone result (λ replies. replies.parts ≡ parts)
  pub done : IfDone result (λ replies. rows after ≡ next)
  pub undone : IfUndone result (rows after ≡ rows before)
  pub counted : IsCounted (rows before) (rows after) (place before) (place after)
  pub of_log : after.log_max ≡ before.log_max
  pub idle : IfDone result (λ replies. rows after ≡ rows before → after.disk ≡ before.disk)
  -- what a crash leaves, at each moment and behind it
  pub any_moment : tells → (other : Database) (number : ℕ) → IsKeptBeside seen may_leave other number before
      → LeavesOnly moment left_at before.disk after.disk (ShowsStep before other number next)
  pub acknowledged : tells → IfDone result (λ replies. rows after ≢ rows before
      → AllImages (ShowsBook after) (may_leave after.disk))
  pub kept : tells → IsKept seen may_leave after
  pub kept_back : tells → (other : Database) (number : ℕ) → IsKeptBeside seen may_leave other number before
      → IfUndone result (IsKeptBeside seen may_leave other number after
      ⊎ IsKeptBeside seen may_leave next (suc (place before)) after)
  pub later : fault_count before.disk ≤ fault_count after.disk
  pub fault : IfDiskFault result (Rose (fault_count before.disk) (fault_count after.disk))
  pub same : which after.disk ≡ which before.disk
