-- A book whose rows are written in place of the records that led to them.
--     untouched_moments, untouched_again      where the disk isn't called
--     rotate_moments, rotate_again      at each moment of a rotation, and behind it
--     rotated_place, rotated_kept, rotated_shows      once it is done
--     failed_place, failed_back      once it failed
--     kept_either      what is doubtful then
--     room_moments, room_again      where nothing is in doubt
--     some_root, still_rooted      a root is there, and stays
--     journal_on      a kept book's journal stands on its disk
use Rattle.std.proofs.Common.{◌≡◌, ◌⊎◌, inl, inr, ℕ, ◌<◌, ◌^◌, false, List, refl, sym, ap, subst, ◌∙◌, arith, Result, Ok, Err}
use Rattle.std.specs.Prelude.{Option, Some, None, IsSome, is_some, OnOk, OnErr}
use Rattle.std.proofs.lemmas.Bool.{true≢false}
use Rattle.table_rows.specs.Database.{Database, database_of}
use Rattle.table_rows.specs.Rows.{State}
use Rattle.check_point.specs.Area.{Makes, area_of, segment_of}
use Rattle.hs_schema.specs.Spelling.{spelled}
use Rattle.hs_disk.specs.Disk.{AllImages, LeavesOnly}
use Rattle.redo_journal.specs.Committing.{Commits}
use Rattle.redo_journal.specs.Image.{Contents, Journals, area_alone}
use Rattle.redo_journal.specs.Journal.{Standing, StandsOn, IsJournalOn, ShowsOldOrNew, Turned, records, is_due}
use Rattle.redo_journal.specs.declared.root.Root.{Root}
use Rattle.redo_journal.proofs.Moments.{after_run, started, wider}
use Rattle.table_recovery.specs.Shown.{Shows, ImageShows}
use Rattle.table_recovery.proofs.PayloadLaws.{number_back}
use Rattle.table_recovery.proofs.ShownLaws.{area_shows}
use Rattle.table_book.specs.Books.{Keeping, rows, place, ShowsBook, ShowsEither, IsKeptBeside, IsKept}
use Rattle.table_book.proofs.Keeping.{done_kept, failed_kept, image_shows, kept_images, quiet_shows, ready}

-- a book with its journal in another state, and its disk
abbrev pub moved : {D : Type 0} → Keeping D → Standing → D → Keeping D
moved book journal disk = record book { journal = journal; disk = disk }

-- what stands in the journal once its segment is full of the rows alone
abbrev pub whole : {D : Type 0} → Keeping D → Contents
whole book = area_alone (place book) (area_of (rows book))

pub some_root : (root : Option Root) → IsSome root → (found : Root) × (root ≡ Some found)
some_root None is = absurd (true≢false (sym is))
some_root (Some root) is = (root, refl)

-- whatever comes of a rotation, the journal has a root
pub still_rooted : {T E : Type 0} (old new : Standing) (turned : Root) (segment : List ℕ) (result : Result T E) (root : Root) → old.root ≡ Some root → OnOk result (Turned turned segment new) → OnErr result (new ≡ record old { doubt = new.doubt }) → IsSome new.root
still_rooted old new turned segment (Ok done) root is ok err = subst IsSome (sym ok.root_is) refl
still_rooted old new turned segment (Err fault) root is ok err = subst IsSome (sym (ap (λ (j : Standing). j.root) err ∙ is)) refl

module _ {D : Type 0} (seen : D → List ℕ) (may_leave : D → List ℕ → Type 0) (moment : D → ℕ) (left_at : D → ℕ → List ℕ → Type 0) where
  -- each moment up to this disk
  abbrev pub AnyMoment : D → Keeping D → Type 0
  AnyMoment last book = (other : Database) (number : ℕ) → IsKeptBeside seen may_leave other number book
      → LeavesOnly moment left_at book.disk last (ShowsEither book other number)

  -- the images behind it
  abbrev pub Behind : D → Keeping D → Type 0
  Behind last book = (other : Database) (number : ℕ) → IsKeptBeside seen may_leave other number book
      → AllImages (ShowsEither book other number) (may_leave last)

  -- the book behind it
  abbrev pub KeptBack : Keeping D → Keeping D → Type 0
  KeptBack after book = (other : Database) (number : ℕ) → IsKeptBeside seen may_leave other number book
      → IsKeptBeside seen may_leave other number after ⊎ IsKeptBeside seen may_leave (rows book) (place book) after

  pub untouched_moments : (book : Keeping D) → ((image : List ℕ) → left_at book.disk (moment book.disk) image → may_leave book.disk image) → AnyMoment book.disk book
  untouched_moments book only_now other number kept =
      started moment left_at book.disk (ShowsEither book other number) (may_leave book.disk) only_now (kept_images seen may_leave other number book kept)

  pub untouched_again : (book : Keeping D) → Behind book.disk book
  untouched_again book other number kept = kept_images seen may_leave other number book kept

  pub kept_either : (after book : Keeping D) → IsKept seen may_leave book → KeptBack after book → IsKept seen may_leave after
  kept_either after book kept back = elim (back kept.other kept.number kept.beside) [
    | inl same ↦ record { other = kept.other; number = kept.number; beside = same }
    | inr own ↦ record { other = rows book; number = place book; beside = own }
  ]

  module _ (here : Keeping D) (new : Standing) (last : D) (makes : Makes here.tables.schema here.tables.bytes_max (area_of (rows here)) (rows here)) where
    whole_shows : Shows here.tables.schema here.tables.bytes_max (whole here) (rows here) (place here)
    whole_shows = area_shows here.tables.schema here.tables.bytes_max (area_of (rows here)) (rows here) (place here) makes

    here_moments : {T E : Type 0} (result : Result T E) → ((contents doubtful : Contents) → StandsOn (spelled here.tables.schema) contents doubtful here.journal (seen here.disk) (may_leave here.disk) → Commits seen may_leave moment left_at (spelled here.tables.schema) contents doubtful (whole here) here.journal new here.disk last result) → AnyMoment last here
    here_moments result commits other number kept =
        let now = ready seen may_leave other number here (whole here) kept in
        wider moment left_at here.disk last (ShowsOldOrNew (spelled here.tables.schema) kept.contents now.doubtful here.journal (whole here)) (ShowsEither here other number)
        (λ image is. elim (image_shows seen may_leave other number here kept.contents (whole here) now (rows here) (place here) whole_shows image is) [
          | inl either ↦ either
          | inr own ↦ inl own
        ])
        (commits kept.contents now.doubtful now.stands).any_moment

    pub rotate_moments : {T E : Type 0} (result : Result T E) (book : Keeping D) → here ≡ book → ((contents doubtful : Contents) → StandsOn (spelled here.tables.schema) contents doubtful here.journal (seen here.disk) (may_leave here.disk) → Commits seen may_leave moment left_at (spelled here.tables.schema) contents doubtful (whole here) here.journal new here.disk last result) → AnyMoment last book
    rotate_moments result book view_is commits = subst (AnyMoment last) view_is (here_moments result commits)

    pub rotate_again : (book : Keeping D) → AnyMoment last book → ((image : List ℕ) → may_leave last image → left_at last (moment last) image) → Behind last book
    rotate_again book moments counts_now other number kept =
        after_run moment left_at book.disk last (ShowsEither book other number) (may_leave last) (moments other number kept) counts_now

    -- the number of all records is the same
    pub rotated_place : (root : Root) (segment : List ℕ) → Turned root segment new → segment ≡ segment_of (place here) (area_of (rows here)) → place here < 2 ^ 64 → records new ≡ place here
    rotated_place root segment turned is small =
        omega (arith, turned.first, turned.since, number_back (place here) (area_of (rows here)) segment is small)

    whole_shown : records new ≡ place here → Shows here.tables.schema here.tables.bytes_max (whole here) (rows here) (records new)
    whole_shown counted = subst (λ (n : ℕ). Shows here.tables.schema here.tables.bytes_max (whole here) (rows here) n) (sym counted) whole_shows

    rotated_here : records new ≡ place here → new.doubt ≡ None → StandsOn (spelled here.tables.schema) (whole here) (whole here) new (seen last) (may_leave last) → KeptBack (moved here new last) here
    rotated_here counted quiet stands other number kept =
        inl (done_kept seen may_leave here (moved here new last) (whole here) other number refl refl (whole_shown counted) (ap (λ d. is_some d) quiet) stands)

    pub rotated_back : (book : Keeping D) → here ≡ book → records new ≡ place here → new.doubt ≡ None → StandsOn (spelled here.tables.schema) (whole here) (whole here) new (seen last) (may_leave last) → KeptBack (moved here new last) book
    rotated_back book view_is counted quiet stands = subst (KeptBack (moved here new last)) view_is (rotated_here counted quiet stands)

    pub rotated_shows : records new ≡ place here → AllImages (Journals (spelled here.tables.schema) (whole here)) (may_leave last) → AllImages (ShowsBook (moved here new last)) (may_leave last)
    rotated_shows counted all image left = record { contents = whole here; journals = inr (all image left); shows = whole_shown counted }

    failed_here : records new ≡ place here → ((contents doubtful : Contents) → StandsOn (spelled here.tables.schema) contents doubtful here.journal (seen here.disk) (may_leave here.disk) → StandsOn (spelled here.tables.schema) contents doubtful new (seen last) (may_leave last) ⊎ StandsOn (spelled here.tables.schema) contents (whole here) new (seen last) (may_leave last)) → KeptBack (moved here new last) here
    failed_here counted refused other number kept =
        let now = ready seen may_leave other number here (whole here) kept in
        failed_kept seen may_leave other number here kept.contents (whole here) now (rows here) (place here) whole_shows (moved here new last) refl refl refl counted (refused kept.contents now.doubtful now.stands)

    pub failed_back : (book : Keeping D) → here ≡ book → records new ≡ place here → ((contents doubtful : Contents) → StandsOn (spelled here.tables.schema) contents doubtful here.journal (seen here.disk) (may_leave here.disk) → StandsOn (spelled here.tables.schema) contents doubtful new (seen last) (may_leave last) ⊎ StandsOn (spelled here.tables.schema) contents (whole here) new (seen last) (may_leave last)) → KeptBack (moved here new last) book
    failed_back book view_is counted refused = subst (KeptBack (moved here new last)) view_is (failed_here counted refused)

  -- where nothing is in doubt, each image shows the book
  module _ (last : D) (book : Keeping D) (quiet : is_due book.journal ≡ false) (kept : IsKept seen may_leave book) where
    pub room_moments : AnyMoment last book → LeavesOnly moment left_at book.disk last (ShowsBook book)
    room_moments moments =
        wider moment left_at book.disk last (ShowsEither book kept.other kept.number) (ShowsBook book) (quiet_shows seen may_leave kept.other kept.number book quiet) (moments kept.other kept.number kept.beside)

    pub room_again : (after : Keeping D) → after.tables ≡ book.tables → place after ≡ place book → Behind last book → AllImages (ShowsBook after) (may_leave last)
    room_again after tables counted behind image left =
        subst (λ (s : State × ℕ). ImageShows s.0.schema s.0.bytes_max (database_of s.0) s.1 image) (λ i. (sym tables i, sym counted i))
        (quiet_shows seen may_leave kept.other kept.number book quiet image (behind kept.other kept.number kept.beside image left))

-- a book as its fields are
pub kept_here : {D : Type 0} (seen : D → List ℕ) (may_leave : D → List ℕ → Type 0) (here book : Keeping D) → here ≡ book → IsKept seen may_leave book → IsKept seen may_leave here
kept_here seen may_leave here book view_is = subst (IsKept seen may_leave) (sym view_is)

pub journal_on : {D : Type 0} (seen : D → List ℕ) (may_leave : D → List ℕ → Type 0) (here : Keeping D) → IsKept seen may_leave here → IsJournalOn here.journal (seen here.disk) (may_leave here.disk)
journal_on seen may_leave here on =
    record { text = spelled here.tables.schema; contents = on.beside.contents; doubtful = on.beside.doubtful; stands = on.beside.stands }
