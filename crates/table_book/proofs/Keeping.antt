-- What the disk of a book shows, as its journal gets other contents.
--     ready      what is in doubt before a call, seen from the contents that it gives
--     image_shows, kept_images      what an image shows
--     done_kept, failed_kept      the book once a call is over
use Rattle.std.proofs.Common.{◌≡◌, ◌⊎◌, inl, inr, ℕ, Bool, true, false, List, refl, sym, subst, ◌∙◌}
use Rattle.std.specs.Prelude.{Option, None, Some, is_some}
use Rattle.std.proofs.lemmas.Bool.{true≢false}
use Rattle.row_types.specs.declared.tables.Schema.{Schema}
use Rattle.table_rows.specs.Database.{Database}
use Rattle.hs_schema.specs.Spelling.{spelled}
use Rattle.hs_disk.specs.Disk.{AllImages}
use Rattle.redo_journal.specs.Gates.{Throughout}
use Rattle.redo_journal.specs.Image.{Contents, Journals}
use Rattle.redo_journal.specs.Journal.{Standing, Holds, StandsOn, ShowsOld, ShowsOldOrNew, is_due}
use Rattle.redo_journal.specs.declared.doubt.Doubt.{Doubt}
use Rattle.redo_journal.proofs.DoubtLemmas.{shows_old}
use Rattle.table_recovery.specs.Shown.{Shows}
use Rattle.table_book.specs.Books.{Keeping, rows, place, ShowsAt, ShowsBook, ShowsEither, IsKeptBeside}

-- where no byte is in doubt, any contents may be named as the doubtful ones
beside : (text : List ℕ) (contents doubtful other : Contents) (journal : Standing) (doubt : Option Doubt) (seen : List ℕ) (may_leave : List ℕ → Type 0) → is_some doubt ≡ false → Throughout (Holds text contents doubtful journal doubt) seen may_leave → Throughout (Holds text contents other journal doubt) seen may_leave
beside text contents doubtful other journal None seen may_leave quiet stands = stands
beside text contents doubtful other journal (Some doubt) seen may_leave quiet stands = absurd (true≢false quiet)

module _ {D : Type 0} (seen : D → List ℕ) (may_leave : D → List ℕ → Type 0) where
  -- The book stands for these contents, and what is in doubt shows the other rows, or is what a call is to give it.
  pub record IsReady (other : Database) (number : ℕ) (book : Keeping D) (contents next : Contents) : Type 0 where
    pub doubtful : Contents
    pub stands : StandsOn (spelled book.tables.schema) contents doubtful book.journal (seen book.disk) (may_leave book.disk)
    pub shows : Shows book.tables.schema book.tables.bytes_max contents (rows book) (place book)
    pub either : ((is_due book.journal ≡ true) × Shows book.tables.schema book.tables.bytes_max doubtful other number)
        ⊎ ((is_due book.journal ≡ false) × (doubtful ≡ next))

  pub ready : (other : Database) (number : ℕ) (book : Keeping D) (next : Contents) (kept : IsKeptBeside seen may_leave other number book) → IsReady other number book kept.contents next
  ready other number book next kept = by_due (is_due book.journal) refl
    where
      by_due : (due : Bool) → is_due book.journal ≡ due → IsReady other number book kept.contents next
      by_due true due = record {
        doubtful = kept.doubtful;
        stands = kept.stands;
        shows = kept.shows;
        either = inl (due, kept.doubts due);
      }
      by_due false quiet = record {
        doubtful = next;
        stands = beside (spelled book.tables.schema) kept.contents kept.doubtful next book.journal book.journal.doubt (seen book.disk) (may_leave book.disk) quiet kept.stands;
        shows = kept.shows;
        either = inr (quiet, refl);
      }

  module _ (other : Database) (number : ℕ) (book : Keeping D) (contents next : Contents) (now : IsReady other number book contents next) where
    contents_show : (image : List ℕ) → Journals (spelled book.tables.schema) contents image → ShowsBook book image
    contents_show image is = record { contents = contents; journals = inr is; shows = now.shows }

    pub old_shows : (image : List ℕ) → ShowsOld (spelled book.tables.schema) contents now.doubtful book.journal image → ShowsEither book other number image
    old_shows image (inl is) = inl (contents_show image is)
    old_shows image (inr is) = elim now.either [
      | inl due ↦ inr (due.0, record { contents = now.doubtful; journals = inr is.1; shows = due.1 })
      | inr quiet ↦ absurd (true≢false (sym is.0 ∙ quiet.0))
    ]

    pub image_shows : (db : Database) (to : ℕ) → Shows book.tables.schema book.tables.bytes_max next db to → (image : List ℕ) → ShowsOldOrNew (spelled book.tables.schema) contents now.doubtful book.journal next image → ShowsEither book other number image ⊎ ShowsAt book db to image
    image_shows db to shows image (inl old) = inl (old_shows image old)
    image_shows db to shows image (inr is) = inr (record { contents = next; journals = inr is; shows = shows })

    -- where a call failed
    pub failed_kept : (db : Database) (to : ℕ) → Shows book.tables.schema book.tables.bytes_max next db to → (after : Keeping D) → after.tables.schema ≡ book.tables.schema → after.tables.bytes_max ≡ book.tables.bytes_max → rows after ≡ rows book → place after ≡ place book → (StandsOn (spelled book.tables.schema) contents now.doubtful after.journal (seen after.disk) (may_leave after.disk) ⊎ StandsOn (spelled book.tables.schema) contents next after.journal (seen after.disk) (may_leave after.disk)) → IsKeptBeside seen may_leave other number after ⊎ IsKeptBeside seen may_leave db to after
    failed_kept db to shows after schema bytes_max same counted stands = by_either stands now.either
      where
        Stands : Contents → Schema → Type 0
        Stands doubtful s = StandsOn (spelled s) contents doubtful after.journal (seen after.disk) (may_leave after.disk)

        on : (doubtful : Contents) → Stands doubtful book.tables.schema → Stands doubtful after.tables.schema
        on doubtful = subst (Stands doubtful) (sym schema)

        shown : (these : Contents) (db_ : Database) (at : ℕ) → Shows book.tables.schema book.tables.bytes_max these db_ at → Shows after.tables.schema after.tables.bytes_max these db_ at
        shown these db_ at = subst (λ (s : Schema × ℕ). Shows s.0 s.1 these db_ at) (λ i. (sym schema i, sym bytes_max i))

        still : Shows after.tables.schema after.tables.bytes_max contents (rows after) (place after)
        still = subst (λ (s : Database × ℕ). Shows after.tables.schema after.tables.bytes_max contents s.0 s.1) (λ i. (sym same i, sym counted i)) (shown contents (rows book) (place book) now.shows)

        beside_next : StandsOn (spelled book.tables.schema) contents next after.journal (seen after.disk) (may_leave after.disk) → IsKeptBeside seen may_leave db to after
        beside_next stands = record {
          contents = contents;
          doubtful = next;
          stands = on next stands;
          shows = still;
          doubts = λ due. shown next db to shows;
        }

        by_either : (StandsOn (spelled book.tables.schema) contents now.doubtful after.journal (seen after.disk) (may_leave after.disk) ⊎ StandsOn (spelled book.tables.schema) contents next after.journal (seen after.disk) (may_leave after.disk)) → (((is_due book.journal ≡ true) × Shows book.tables.schema book.tables.bytes_max now.doubtful other number) ⊎ ((is_due book.journal ≡ false) × (now.doubtful ≡ next))) → IsKeptBeside seen may_leave other number after ⊎ IsKeptBeside seen may_leave db to after
        by_either (inl stands) (inl due) = inl (record {
          contents = contents;
          doubtful = now.doubtful;
          stands = on now.doubtful stands;
          shows = still;
          doubts = λ due_now. shown now.doubtful other number due.1;
        })
        by_either (inl stands) (inr quiet) = inr (beside_next (subst (λ (doubtful : Contents). Stands doubtful book.tables.schema) quiet.1 stands))
        by_either (inr stands) either = inr (beside_next stands)

  -- where a call is done
  pub done_kept : (book after : Keeping D) (next : Contents) (other : Database) (number : ℕ) → after.tables.schema ≡ book.tables.schema → after.tables.bytes_max ≡ book.tables.bytes_max → Shows book.tables.schema book.tables.bytes_max next (rows after) (place after) → is_due after.journal ≡ false → StandsOn (spelled book.tables.schema) next next after.journal (seen after.disk) (may_leave after.disk) → IsKeptBeside seen may_leave other number after
  done_kept book after next other number schema bytes_max shows quiet stands = record {
    contents = next;
    doubtful = next;
    stands = subst (λ (s : Schema). StandsOn (spelled s) next next after.journal (seen after.disk) (may_leave after.disk)) (sym schema) stands;
    shows = subst (λ (s : Schema × ℕ). Shows s.0 s.1 next (rows after) (place after)) (λ i. (sym schema i, sym bytes_max i)) shows;
    doubts = λ due. absurd (true≢false (sym due ∙ quiet));
  }

  -- what a crash leaves now
  pub kept_images : (other : Database) (number : ℕ) (book : Keeping D) → IsKeptBeside seen may_leave other number book → AllImages (ShowsEither book other number) (may_leave book.disk)
  kept_images other number book kept image left =
      let now = ready other number book kept.contents kept in
      old_shows other number book kept.contents kept.contents now image (shows_old (spelled book.tables.schema) kept.contents now.doubtful book.journal image (now.stands.leaves image left))

  -- and where no repair is due
  pub quiet_shows : (other : Database) (number : ℕ) (book : Keeping D) → is_due book.journal ≡ false → (image : List ℕ) → ShowsEither book other number image → ShowsBook book image
  quiet_shows other number book quiet image (inl shows) = shows
  quiet_shows other number book quiet image (inr shows) = absurd (true≢false (sym shows.0 ∙ quiet))
