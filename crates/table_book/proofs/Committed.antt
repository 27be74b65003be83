-- What comes of a batch, by what the writing of its changes answers.
--     idle_settles, written_settles      nothing was written, or a record
--     room_kept      what the disk keeps before room is made
--     fault_settles, memory_settles      neither: the disk failed, or memory ran out
use Rattle.std.proofs.Common.{◌≡◌, ℕ, ◌+◌, ◌≤◌, Bool, false, List, [], Result, Ok, Err, refl, sym, ap, subst, arith}
use Rattle.std.specs.Prelude.{◌≢◌}
use Rattle.fault_count.specs.Cause.{Rose}
use Rattle.request_types.specs.declared.batches.Part.{Part}
use Rattle.request_types.specs.declared.batches.Replies.{Replies}
use Rattle.line_pipeline.specs.declared.outcomes.Outcome.{Outcome}
use Rattle.line_pipeline.specs.declared.outcomes.Outcome.TheVariants as outcomes
use Rattle.table_rows.specs.declared.undo.Undo.{Undo}
use Rattle.table_rows.specs.Database.{database_of}
use Rattle.table_rows.specs.Rows.{State}
use Rattle.table_rows.specs.Undoing.{since, undone_all, AreUndoable}
use Rattle.table_rows.specs.Valid.{IsValidState}
use Rattle.change_set.specs.Fitting.{AreValuesHeld}
use Rattle.change_set.specs.Payload.{payload}
use Rattle.change_set.specs.Putting.{NoneLower}
use Rattle.redo_journal.specs.Committing.{Commits}
use Rattle.redo_journal.specs.Image.{Contents, added}
use Rattle.redo_journal.specs.Journal.{Standing, StandsOn, is_due}
use Rattle.table_book.specs.declared.fault.Fault.{Fault}
use Rattle.table_book.specs.declared.fault.Fault.TheVariants as faults
use Rattle.table_book.specs.Books.{Keeping, rows, IsKept}
use Rattle.table_book.specs.Committing.{before_all, noted, book_before, IfCalled, IfNotCalled, IfIdle, IfWritten, IfDisk}
use Rattle.table_book.specs.Settling.{Settles}
use Rattle.table_book.proofs.Settling.{IsSame, OnlyNow, Called, IsAhead, MakesRoom, written_ok, disk_failed, idle, no_memory, mid_kept, written, refused}
use Rattle.table_book.proofs.Undoing.{same_shape, noted_leads, noted_none, noted_differs}

abbrev nothing_written : Result Bool Fault
nothing_written = Ok false

abbrev out_of_memory : Result Bool Fault
out_of_memory = Err faults.NoMemory

module _ {D : Type 0} (tells : Type 0) (seen : D → List ℕ) (may_leave : D → List ℕ → Type 0) (moment : D → ℕ) (left_at : D → ℕ → List ℕ → Type 0) (fault_count which : D → ℕ) where
  -- A book's changes are noted, and were to be written. This is what came of the journal and the disk.
  pub record Commit (notes : List Undo) (book : Keeping D) (result : Result Bool Fault) (journal : Standing) (disk : D) : Type 0 where
    pub can : AreUndoable (since 0 notes) book.tables
    pub lower : NoneLower (before_all notes book.tables).tables (rows book).tables
    pub kept : tells → IsKept seen may_leave (book_before notes book)
    pub valid : IsValidState book.tables
    pub idle : IfIdle result (noted notes book.tables ≡ [])
    pub changed : IfCalled result (noted notes book.tables ≢ [])
    pub held : IfCalled result (AreValuesHeld (noted notes book.tables))
    pub uncalled : IfNotCalled result ((journal ≡ book.journal) × (disk ≡ book.disk))
    pub commits : tells → (text : List ℕ) (contents doubtful : Contents) → StandsOn text contents doubtful book.journal (seen book.disk) (may_leave book.disk)
        → IfCalled result (Commits seen may_leave moment left_at text contents doubtful (added contents (payload (noted notes book.tables))) book.journal journal book.disk disk result)
    pub counted : IfWritten result ((journal.since ≡ book.journal.since + 1) × (is_due journal ≡ false))
    pub uncounted : IfDisk result (journal.since ≡ book.journal.since)
    pub first : journal.first ≡ book.journal.first
    pub later : fault_count book.disk ≤ fault_count disk
    pub fault : IfDisk result (Rose (fault_count book.disk) (fault_count disk))
    pub faultless : IfWritten result (fault_count disk ≡ fault_count book.disk)
    pub same : which disk ≡ which book.disk

  module _ (notes : List Undo) (book : Keeping D) (result : Result Bool Fault) (journal : Standing) (disk : D) (commit : Commit notes book result journal disk) (parts : List Part) where
    abbrev with_tables : State → Keeping D
    with_tables tables = record { tables = tables; journal = journal; disk = disk; log_max = book.log_max }

    abbrev Ends : Outcome → Keeping D → Type 0
    Ends came after = Settles tells seen may_leave moment left_at fault_count which parts (book_before notes book) (rows book) came after

    called : ((P : Type 0) → IfCalled result P → P) → Called tells seen may_leave moment left_at fault_count which (book_before notes book) (payload (noted notes book.tables)) (rows book) result journal disk
    called so = record {
      leads = noted_leads notes book.tables commit.valid commit.can commit.lower (so (AreValuesHeld (noted notes book.tables)) commit.held) (so (noted notes book.tables ≢ []) commit.changed);
      commits = λ told contents doubtful. commit.commits told _ contents doubtful;
    }

    pub idle_settles : result ≡ nothing_written → OnlyNow tells seen may_leave moment left_at fault_count which book.disk → (replies : Replies) → replies.parts ≡ parts → Ends (outcomes.Done replies) (with_tables book.tables)
    idle_settles is only_now replies answered =
        let none : noted notes book.tables ≡ [] = subst (λ (r : Result Bool Fault). IfIdle r (noted notes book.tables ≡ [])) is commit.idle in
        let still = subst (λ (r : Result Bool Fault). IfNotCalled r ((journal ≡ book.journal) × (disk ≡ book.disk))) is commit.uncalled in
        let nothing : before_all notes book.tables ≡ database_of book.tables = noted_none notes book.tables commit.valid commit.can none in
        let same : IsSame (book_before notes book) (with_tables book.tables) = record { rows_are = sym nothing; journal = still.0; disk = still.1; log = refl } in
        idle tells seen may_leave moment left_at fault_count which parts (book_before notes book) (with_tables book.tables) (rows book) replies answered only_now same nothing commit.kept

    pub memory_settles : result ≡ out_of_memory → OnlyNow tells seen may_leave moment left_at fault_count which book.disk → (tables : State) → tables ≡ undone_all (since 0 notes) book.tables → Ends outcomes.NoMemory (with_tables tables)
    memory_settles is only_now tables back =
        let still = subst (λ (r : Result Bool Fault). IfNotCalled r ((journal ≡ book.journal) × (disk ≡ book.disk))) is commit.uncalled in
        let same : IsSame (book_before notes book) (with_tables tables) = record { rows_are = ap database_of back; journal = still.0; disk = still.1; log = refl } in
        no_memory tells seen may_leave moment left_at fault_count which parts (book_before notes book) (with_tables tables) (rows book) only_now same commit.kept

    pub fault_settles : result ≡ disk_failed → (tables : State) → tables ≡ undone_all (since 0 notes) book.tables → Ends outcomes.DiskFault (with_tables tables)
    fault_settles is tables back =
        let stays : journal.since ≡ book.journal.since = subst (λ (r : Result Bool Fault). IfDisk r (journal.since ≡ book.journal.since)) is commit.uncounted in
        let rose = subst (λ (r : Result Bool Fault). IfDisk r (Rose (fault_count book.disk) (fault_count disk))) is commit.fault in
        refused tells seen may_leave moment left_at fault_count which (book_before notes book) (with_tables tables) (payload (noted notes book.tables)) (rows book) result is
        (called (λ P so. subst (λ (r : Result Bool Fault). IfCalled r P) is so))
        (ap database_of back) (omega (arith, commit.first, stays)) parts refl commit.kept commit.later rose commit.same

    ahead : result ≡ written_ok → IsAhead tells seen may_leave moment left_at fault_count which (book_before notes book) (with_tables book.tables)
    ahead is =
        let shape = same_shape (since 0 notes) book.tables in
        let counted = subst (λ (r : Result Bool Fault). IfWritten r ((journal.since ≡ book.journal.since + 1) × (is_due journal ≡ false))) is commit.counted in
        record { schema = sym shape.0; bytes_max = sym shape.1; log = refl; place_is = omega (arith, commit.first, counted.0); quiet = counted.1 }

    pub room_kept : result ≡ written_ok → tells → IsKept seen may_leave (with_tables book.tables)
    room_kept is =
        mid_kept tells seen may_leave moment left_at fault_count which (book_before notes book) (with_tables book.tables) (payload (noted notes book.tables)) result is
        (called (λ P so. subst (λ (r : Result Bool Fault). IfCalled r P) is so)) (ahead is) commit.kept

    pub written_settles : result ≡ written_ok → (replies : Replies) → replies.parts ≡ parts → (after : Keeping D) → MakesRoom tells seen may_leave moment left_at fault_count which (with_tables book.tables) after → Ends (outcomes.Done replies) after
    written_settles is replies answered after room =
        let some = subst (λ (r : Result Bool Fault). IfCalled r (noted notes book.tables ≢ [])) is commit.changed in
        let faultless = subst (λ (r : Result Bool Fault). IfWritten r (fault_count disk ≡ fault_count book.disk)) is commit.faultless in
        written tells seen may_leave moment left_at fault_count which (book_before notes book) (with_tables book.tables) (payload (noted notes book.tables)) result is
        (called (λ P so. subst (λ (r : Result Bool Fault). IfCalled r P) is so)) (ahead is)
        parts replies after answered (noted_differs notes book.tables some) faultless commit.same room
