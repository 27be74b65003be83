-- What a book keeps, and what its disk shows.
use Rattle.std.specs.Prelude.{◌≡◌, ◌≢◌, ◌⊎◌, ℕ, suc, true, List, Result, Ok, Err}
use Rattle.table_rows.specs.Database.{Database, database_of}
use Rattle.table_rows.specs.Rows.{State}
use Rattle.hs_schema.specs.Spelling.{spelled}
use Rattle.redo_journal.specs.Image.{Contents}
use Rattle.redo_journal.specs.Journal.{Standing, StandsOn, records, is_due}
use Rattle.redo_journal.specs.declared.refusal.Refusal.{Refusal}
use Rattle.table_recovery.specs.Shown.{Shows, ImageShows}

-- The tables, the journal of what was done to them, the disk that it stands on, and how many records a segment of it
-- may have.
pub record Keeping (D : Type 0) : Type 0 where
  pub tables : State
  pub journal : Standing
  pub disk : D
  pub log_max : ℕ

-- The rows and counters of a book.
abbrev pub rows : {D : Type 0} → Keeping D → Database
rows book = database_of book.tables

-- Its place: how many batches have changed a table.
abbrev pub place : {D : Type 0} → Keeping D → ℕ
place book = records book.journal

-- An image shows these rows at this place, of a book's schema.
abbrev pub ShowsAt : {D : Type 0} → Keeping D → Database → ℕ → List ℕ → Type 0
ShowsAt book db number image = ImageShows book.tables.schema book.tables.bytes_max db number image

-- An image shows the book.
abbrev pub ShowsBook : {D : Type 0} → Keeping D → List ℕ → Type 0
ShowsBook book image = ShowsAt book (rows book) (place book) image

-- It shows the book, or, where a repair is due, the doubtful rows and their place.
abbrev pub ShowsEither : {D : Type 0} → Keeping D → Database → ℕ → List ℕ → Type 0
ShowsEither book other number image =
    ShowsBook book image ⊎ ((is_due book.journal ≡ true) × ShowsAt book other number image)

-- The journal stands on the disk for contents that show the book. Where a repair is due, the doubtful contents show
-- these other rows and their place.
pub record IsKeptBeside {D : Type 0} (seen : D → List ℕ) (may_leave : D → List ℕ → Type 0) (other : Database)
    (number : ℕ) (book : Keeping D) : Type 0 where
  pub contents : Contents
  pub doubtful : Contents
  pub stands : StandsOn (spelled book.tables.schema) contents doubtful book.journal (seen book.disk) (may_leave book.disk)
  pub shows : Shows book.tables.schema book.tables.bytes_max contents (rows book) (place book)
  pub doubts : is_due book.journal ≡ true → Shows book.tables.schema book.tables.bytes_max doubtful other number

-- So it is, whatever the doubtful rows are.
pub record IsKept {D : Type 0} (seen : D → List ℕ) (may_leave : D → List ℕ → Type 0) (book : Keeping D) : Type 0 where
  pub other : Database
  pub number : ℕ
  pub beside : IsKeptBeside seen may_leave other number book

-- A call that leads a book to other rows: a crash at each moment of it shows the book as it was, or what was doubtful
-- before, or the rows that it leads to, at the next place.
abbrev pub ShowsStep : {D : Type 0} → Keeping D → Database → ℕ → Database → List ℕ → Type 0
ShowsStep book other number next image =
    ShowsEither book other number image ⊎ ShowsAt book next (suc (place book)) image

-- Where rows changed, the place is the next one, and else the same.
pub record IsCounted (before after : Database) (from to : ℕ) : Type 0 where
  pub same : after ≡ before → to ≡ from
  pub next : after ≢ before → to ≡ suc from

-- The disk of a book that was opened, or that was handed back.
abbrev pub disk_behind : {D : Type 0} → Result (Keeping D) (Refusal × D) → D
disk_behind (Ok book) = book.disk
disk_behind (Err refused) = refused.1
