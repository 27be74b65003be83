-- What comes of a batch, by each way in which it may end.
--     kept_same, still_kept, settled_same      a book of which the rows, the journal and the disk are the same
--     idle, no_memory      nothing was written
--     mid_kept, written      a record was written, and then room was made
--     refused      the disk failed
use Rattle.std.proofs.Common.{◌≡◌, ◌⊎◌, inl, inr, ℕ, suc, ◌≤◌, Bool, true, false, List, Result, Ok, Err, sym, ap, subst, ◌∙◌, arith}
use Rattle.std.specs.Prelude.{◌≢◌}
use Rattle.fault_count.specs.Cause.{Rose}
use Rattle.row_types.specs.declared.tables.Schema.{Schema}
use Rattle.request_types.specs.declared.batches.Part.{Part}
use Rattle.request_types.specs.declared.batches.Replies.{Replies}
use Rattle.line_pipeline.specs.declared.outcomes.Outcome.{Outcome}
use Rattle.line_pipeline.specs.declared.outcomes.Outcome.TheVariants as outcomes
use Rattle.table_rows.specs.Database.{Database, database_of}
use Rattle.hs_schema.specs.Spelling.{spelled}
use Rattle.hs_disk.specs.Disk.{AllImages, LeavesOnly}
use Rattle.redo_journal.specs.Image.{Contents, added}
use Rattle.redo_journal.specs.Journal.{Standing, StandsOn, ShowsOldOrNew, is_due, records}
use Rattle.redo_journal.specs.Committing.{Commits}
use Rattle.redo_journal.proofs.Moments.{joined, started, wider}
use Rattle.table_recovery.specs.Shown.{Leads, Shows, ImageShows}
use Rattle.table_recovery.proofs.ShownLaws.{shows_added}
use Rattle.table_book.specs.declared.fault.Fault.{Fault}
use Rattle.table_book.specs.declared.fault.Fault.TheVariants as faults
use Rattle.table_book.specs.Books.{Keeping, rows, place, ShowsBook, ShowsStep, IsKeptBeside, IsKept, IsCounted}
use Rattle.table_book.specs.Committing.{IfCalled}
use Rattle.table_book.specs.Settling.{Settles}
use Rattle.table_book.specs.Outcomes.{IfDone, IfUndone, IfDiskFault}
use Rattle.table_book.proofs.Keeping.{IsReady, ready, image_shows, failed_kept, done_kept, kept_images}

-- Two books have the same rows, journal and disk, whatever slots the rows are in.
pub record IsSame {D : Type 0} (before after : Keeping D) : Type 0 where
  pub rows_are : rows after ≡ rows before
  pub journal : after.journal ≡ before.journal
  pub disk : after.disk ≡ before.disk
  pub log : after.log_max ≡ before.log_max

pub same_back : {D : Type 0} (before after : Keeping D) → IsSame before after → IsSame after before
same_back before after same =
    record { rows_are = sym same.rows_are; journal = sym same.journal; disk = sym same.disk; log = sym same.log }

-- what of a book its disk shows
abbrev Seen : Type 0 → Type 0
Seen D = Database × Standing × D

abbrev seen_of : {D : Type 0} → Keeping D → Seen D
seen_of book = (rows book, book.journal, book.disk)

seen_same : {D : Type 0} (before after : Keeping D) → IsSame before after → seen_of before ≡ seen_of after
seen_same before after same = λ i. (sym same.rows_are i, sym same.journal i, sym same.disk i)

abbrev pub written_ok : Result Bool Fault
written_ok = Ok true

abbrev pub disk_failed : Result Bool Fault
disk_failed = Err faults.Disk

abbrev StepFrom : {D : Type 0} → Seen D → Database → ℕ → Database → List ℕ → Type 0
StepFrom s other number next image =
    (ImageShows s.0.schema s.0.bytes_max s.0 (records s.1) image ⊎ ((is_due s.1 ≡ true) × ImageShows s.0.schema s.0.bytes_max other number image))
    ⊎ ImageShows s.0.schema s.0.bytes_max next (suc (records s.1)) image

module _ {D : Type 0} (seen : D → List ℕ) (may_leave : D → List ℕ → Type 0) where
  pub kept_same : (other : Database) (number : ℕ) (before after : Keeping D) → IsSame before after → IsKeptBeside seen may_leave other number before → IsKeptBeside seen may_leave other number after
  kept_same other number before after same kept =
      let path : seen_of before ≡ seen_of after = seen_same before after same in
      record {
        contents = kept.contents;
        doubtful = kept.doubtful;
        stands = subst (λ (s : Seen D). StandsOn (spelled s.0.schema) kept.contents kept.doubtful s.1 (seen s.2) (may_leave s.2)) path kept.stands;
        shows = subst (λ (s : Seen D). Shows s.0.schema s.0.bytes_max kept.contents s.0 (records s.1)) path kept.shows;
        doubts = λ due. subst (λ (s : Seen D). Shows s.0.schema s.0.bytes_max kept.doubtful other number) path (kept.doubts (subst (λ (j : Standing). is_due j ≡ true) same.journal due));
      }

  pub still_kept : (before after : Keeping D) → IsSame before after → IsKept seen may_leave before → IsKept seen may_leave after
  still_kept before after same kept =
      record { other = kept.other; number = kept.number; beside = kept_same kept.other kept.number before after same kept.beside }

module _ {D : Type 0} (tells : Type 0) (seen : D → List ℕ) (may_leave : D → List ℕ → Type 0) (moment : D → ℕ) (left_at : D → ℕ → List ℕ → Type 0) (fault_count which : D → ℕ) where
  abbrev Ends : List Part → Keeping D → Database → Outcome → Keeping D → Type 0
  Ends parts before next result after = Settles tells seen may_leave moment left_at fault_count which parts before next result after

  abbrev pub OnlyNow : D → Type 0
  OnlyNow disk = tells → (image : List ℕ) → left_at disk (moment disk) image → may_leave disk image

  pub settled_same : (parts : List Part) (was book : Keeping D) (next : Database) (result : Outcome) (after : Keeping D) → IsSame was book → Ends parts was next result after → Ends parts book next result after
  settled_same parts was book next result after same ends =
      let path : seen_of was ≡ seen_of book = seen_same was book same in
      record {
        answered = ends.answered;
        done = ends.done;
        undone = subst (λ (s : Seen D). IfUndone result (rows after ≡ s.0)) path ends.undone;
        counted = subst (λ (s : Seen D). IsCounted s.0 (rows after) (records s.1) (place after)) path ends.counted;
        of_log = ends.of_log ∙ sym same.log;
        idle = subst (λ (s : Seen D). IfDone result (λ replies. rows after ≡ s.0 → after.disk ≡ s.2)) path ends.idle;
        any_moment = λ told other number kept.
            subst (λ (s : Seen D). LeavesOnly moment left_at s.2 after.disk (StepFrom s other number next)) path
            (ends.any_moment told other number (kept_same seen may_leave other number book was (same_back was book same) kept));
        acknowledged = λ told. subst (λ (s : Seen D). IfDone result (λ replies. rows after ≢ s.0 → AllImages (ShowsBook after) (may_leave after.disk))) path (ends.acknowledged told);
        kept = ends.kept;
        kept_back = λ told other number kept.
            subst (λ (s : Seen D). IfUndone result (IsKeptBeside seen may_leave other number after ⊎ IsKeptBeside seen may_leave next (suc (records s.1)) after)) path
            (ends.kept_back told other number (kept_same seen may_leave other number book was (same_back was book same) kept));
        later = subst (λ (s : Seen D). fault_count s.2 ≤ fault_count after.disk) path ends.later;
        fault = subst (λ (s : Seen D). IfDiskFault result (Rose (fault_count s.2) (fault_count after.disk))) path ends.fault;
        same = subst (λ (s : Seen D). which after.disk ≡ which s.2) path ends.same;
      }

  -- of a disk that isn't called, a crash leaves what it left before
  still_shows : (before after : Keeping D) (other : Database) (number : ℕ) (next : Database) → ((image : List ℕ) → left_at before.disk (moment before.disk) image → may_leave before.disk image) → after.disk ≡ before.disk → IsKeptBeside seen may_leave other number before → LeavesOnly moment left_at before.disk after.disk (ShowsStep before other number next)
  still_shows before after other number next only_now disk kept =
      subst (λ (d : D). LeavesOnly moment left_at before.disk d (ShowsStep before other number next)) (sym disk)
      (started moment left_at before.disk (ShowsStep before other number next) (may_leave before.disk) only_now (λ image left. inl (kept_images seen may_leave other number before kept image left)))

  pub idle : (parts : List Part) (before after : Keeping D) (next : Database) (replies : Replies) → replies.parts ≡ parts → OnlyNow before.disk → IsSame before after → rows before ≡ next → (tells → IsKept seen may_leave before) → Ends parts before next (outcomes.Done replies) after
  idle parts before after next replies answered only_now same nothing kept = record {
    answered = answered;
    done = same.rows_are ∙ nothing;
    undone = tt;
    counted = record { same = λ is. ap records same.journal; next = λ differs. absurd (differs same.rows_are) };
    of_log = same.log;
    idle = λ is. same.disk;
    any_moment = λ told other number beside. still_shows before after other number next (only_now told) same.disk beside;
    acknowledged = λ told differs. absurd (differs same.rows_are);
    kept = λ told. still_kept seen may_leave before after same (kept told);
    kept_back = λ told other number beside. tt;
    later = subst (λ (d : D). fault_count before.disk ≤ fault_count d) (sym same.disk) (omega arith);
    fault = tt;
    same = ap which same.disk;
  }

  pub no_memory : (parts : List Part) (before after : Keeping D) (next : Database) → OnlyNow before.disk → IsSame before after → (tells → IsKept seen may_leave before) → Ends parts before next outcomes.NoMemory after
  no_memory parts before after next only_now same kept = record {
    answered = tt;
    done = tt;
    undone = same.rows_are;
    counted = record { same = λ is. ap records same.journal; next = λ differs. absurd (differs same.rows_are) };
    of_log = same.log;
    idle = tt;
    any_moment = λ told other number beside. still_shows before after other number next (only_now told) same.disk beside;
    acknowledged = λ told. tt;
    kept = λ told. still_kept seen may_leave before after same (kept told);
    kept_back = λ told other number beside. inl (kept_same seen may_leave other number before after same beside);
    later = subst (λ (d : D). fault_count before.disk ≤ fault_count d) (sym same.disk) (omega arith);
    fault = tt;
    same = ap which same.disk;
  }

  -- What the writing of this payload did to a book, with this result. It leads from its rows to these.
  pub record Called (before : Keeping D) (bytes : List ℕ) (next : Database) (result : Result Bool Fault) (journal : Standing) (disk : D) : Type 0 where
    pub leads : Leads (rows before) bytes next
    pub commits : tells → (contents doubtful : Contents) → StandsOn (spelled before.tables.schema) contents doubtful before.journal (seen before.disk) (may_leave before.disk)
        → IfCalled result (Commits seen may_leave moment left_at (spelled before.tables.schema) contents doubtful (added contents bytes) before.journal journal before.disk disk result)

  next_shows : (before : Keeping D) (bytes : List ℕ) (next : Database) → Leads (rows before) bytes next → (contents : Contents) → Shows before.tables.schema before.tables.bytes_max contents (rows before) (place before) → Shows before.tables.schema before.tables.bytes_max (added contents bytes) next (suc (place before))
  next_shows before bytes next leads contents shows =
      subst (Shows before.tables.schema before.tables.bytes_max (added contents bytes) next) (omega arith)
      (shows_added before.tables.schema before.tables.bytes_max contents (rows before) next (place before) bytes shows leads)

  -- what a crash leaves at each moment of it
  call_moments : (before : Keeping D) (bytes : List ℕ) (next : Database) (journal : Standing) (disk : D) (result : Result Bool Fault) → Leads (rows before) bytes next → (other : Database) (number : ℕ) (kept : IsKeptBeside seen may_leave other number before) (now : IsReady seen may_leave other number before kept.contents (added kept.contents bytes)) → Commits seen may_leave moment left_at (spelled before.tables.schema) kept.contents now.doubtful (added kept.contents bytes) before.journal journal before.disk disk result → LeavesOnly moment left_at before.disk disk (ShowsStep before other number next)
  call_moments before bytes next journal disk result leads other number kept now commits =
      wider moment left_at before.disk disk (ShowsOldOrNew (spelled before.tables.schema) kept.contents now.doubtful before.journal (added kept.contents bytes)) (ShowsStep before other number next)
      (image_shows seen may_leave other number before kept.contents (added kept.contents bytes) now next (suc (place before)) (next_shows before bytes next leads kept.contents now.shows))
      commits.any_moment

  -- A record was written: the place is the next one, and no repair is due.
  pub record IsAhead (before mid : Keeping D) : Type 0 where
    pub schema : mid.tables.schema ≡ before.tables.schema
    pub bytes_max : mid.tables.bytes_max ≡ before.tables.bytes_max
    pub log : mid.log_max ≡ before.log_max
    pub place_is : place mid ≡ suc (place before)
    pub quiet : is_due mid.journal ≡ false

  -- And then room was made.
  pub record MakesRoom (mid after : Keeping D) : Type 0 where
    pub tables : after.tables ≡ mid.tables
    pub place_is : place after ≡ place mid
    pub log : after.log_max ≡ mid.log_max
    pub any_moment : tells → LeavesOnly moment left_at mid.disk after.disk (ShowsBook mid)
    pub again : tells → AllImages (ShowsBook after) (may_leave after.disk)
    pub kept : tells → IsKept seen may_leave after
    pub later : fault_count mid.disk ≤ fault_count after.disk
    pub same : which after.disk ≡ which mid.disk

  module _ (before mid : Keeping D) (bytes : List ℕ) (result : Result Bool Fault) (is : result ≡ written_ok) (called : Called before bytes (rows mid) result mid.journal mid.disk) (ahead : IsAhead before mid) where
    done_commits : tells → (contents doubtful : Contents) → StandsOn (spelled before.tables.schema) contents doubtful before.journal (seen before.disk) (may_leave before.disk) → Commits seen may_leave moment left_at (spelled before.tables.schema) contents doubtful (added contents bytes) before.journal mid.journal before.disk mid.disk written_ok
    done_commits told contents doubtful stands =
        subst (λ (r : Result Bool Fault). IfCalled r (Commits seen may_leave moment left_at (spelled before.tables.schema) contents doubtful (added contents bytes) before.journal mid.journal before.disk mid.disk r)) is (called.commits told contents doubtful stands)

    mid_beside : tells → (other : Database) (number : ℕ) → IsKeptBeside seen may_leave other number before → IsKeptBeside seen may_leave other number mid
    mid_beside told other number kept =
        let next : Contents = added kept.contents bytes in
        let now : IsReady seen may_leave other number before kept.contents next = ready seen may_leave other number before next kept in
        let commits = done_commits told kept.contents now.doubtful now.stands in
        done_kept seen may_leave before mid next other number ahead.schema ahead.bytes_max
        (subst (Shows before.tables.schema before.tables.bytes_max next (rows mid)) (sym ahead.place_is) (next_shows before bytes (rows mid) called.leads kept.contents now.shows))
        ahead.quiet commits.acknowledged

    pub mid_kept : (tells → IsKept seen may_leave before) → tells → IsKept seen may_leave mid
    mid_kept kept told =
        let was : IsKept seen may_leave before = kept told in
        record { other = was.other; number = was.number; beside = mid_beside told was.other was.number was.beside }

    late : (other : Database) (number : ℕ) (image : List ℕ) → ShowsBook mid image → ShowsStep before other number (rows mid) image
    late other number image shows =
        inr (subst (λ (s : Schema × ℕ × ℕ). ImageShows s.0 s.1 (rows mid) s.2 image) (λ i. (ahead.schema i, ahead.bytes_max i, ahead.place_is i)) shows)

    pub written : (parts : List Part) (replies : Replies) (after : Keeping D) → replies.parts ≡ parts → rows mid ≢ rows before → fault_count mid.disk ≡ fault_count before.disk → which mid.disk ≡ which before.disk → MakesRoom mid after → Ends parts before (rows mid) (outcomes.Done replies) after
    written parts replies after answered differs faultless same room =
        let reached : rows after ≡ rows mid = ap database_of room.tables in
        record {
          answered = answered;
          done = reached;
          undone = tt;
          counted = record { same = λ still. absurd (differs (sym reached ∙ still)); next = λ moved. room.place_is ∙ ahead.place_is };
          of_log = room.log ∙ ahead.log;
          idle = λ still. absurd (differs (sym reached ∙ still));
          any_moment = λ told other number kept.
              let now : IsReady seen may_leave other number before kept.contents (added kept.contents bytes) = ready seen may_leave other number before (added kept.contents bytes) kept in
              joined moment left_at before.disk mid.disk after.disk (ShowsStep before other number (rows mid))
              (call_moments before bytes (rows mid) mid.journal mid.disk written_ok called.leads other number kept now (done_commits told kept.contents now.doubtful now.stands))
              (wider moment left_at mid.disk after.disk (ShowsBook mid) (ShowsStep before other number (rows mid)) (late other number) (room.any_moment told));
          acknowledged = λ told moved. room.again told;
          kept = room.kept;
          kept_back = λ told other number kept. tt;
          later = subst (λ (n : ℕ). n ≤ fault_count after.disk) faultless room.later;
          fault = tt;
          same = room.same ∙ same;
        }

  module _ (before after : Keeping D) (bytes : List ℕ) (next : Database) (result : Result Bool Fault) (is : result ≡ disk_failed) (called : Called before bytes next result after.journal after.disk) (still : rows after ≡ rows before) (place_is : place after ≡ place before) where
    failed_commits : tells → (contents doubtful : Contents) → StandsOn (spelled before.tables.schema) contents doubtful before.journal (seen before.disk) (may_leave before.disk) → Commits seen may_leave moment left_at (spelled before.tables.schema) contents doubtful (added contents bytes) before.journal after.journal before.disk after.disk disk_failed
    failed_commits told contents doubtful stands =
        subst (λ (r : Result Bool Fault). IfCalled r (Commits seen may_leave moment left_at (spelled before.tables.schema) contents doubtful (added contents bytes) before.journal after.journal before.disk after.disk r)) is (called.commits told contents doubtful stands)

    either_kept : tells → (other : Database) (number : ℕ) → IsKeptBeside seen may_leave other number before → IsKeptBeside seen may_leave other number after ⊎ IsKeptBeside seen may_leave next (suc (place before)) after
    either_kept told other number kept =
        let now : IsReady seen may_leave other number before kept.contents (added kept.contents bytes) = ready seen may_leave other number before (added kept.contents bytes) kept in
        let commits = failed_commits told kept.contents now.doubtful now.stands in
        failed_kept seen may_leave other number before kept.contents (added kept.contents bytes) now next (suc (place before)) (next_shows before bytes next called.leads kept.contents now.shows) after
        (ap (λ (db : Database). db.schema) still) (ap (λ (db : Database). db.bytes_max) still) still place_is commits.refused

    still_some : (tells → IsKept seen may_leave before) → tells → IsKept seen may_leave after
    still_some kept told = elim (either_kept told (kept told).other (kept told).number (kept told).beside) [
      | inl beside ↦ record { other = (kept told).other; number = (kept told).number; beside = beside }
      | inr beside ↦ record { other = next; number = suc (place before); beside = beside }
    ]

    pub refused : (parts : List Part) → after.log_max ≡ before.log_max → (tells → IsKept seen may_leave before) → fault_count before.disk ≤ fault_count after.disk → Rose (fault_count before.disk) (fault_count after.disk) → which after.disk ≡ which before.disk → Ends parts before next outcomes.DiskFault after
    refused parts log kept later rose same = record {
      answered = tt;
      done = tt;
      undone = still;
      counted = record { same = λ stays. place_is; next = λ moved. absurd (moved still) };
      of_log = log;
      idle = tt;
      any_moment = λ told other number beside.
          let now : IsReady seen may_leave other number before beside.contents (added beside.contents bytes) = ready seen may_leave other number before (added beside.contents bytes) beside in
          call_moments before bytes next after.journal after.disk disk_failed called.leads other number beside now (failed_commits told beside.contents now.doubtful now.stands);
      acknowledged = λ told. tt;
      kept = still_some kept;
      kept_back = either_kept;
      later = later;
      fault = rose;
      same = same;
    }
