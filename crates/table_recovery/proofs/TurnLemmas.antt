-- A journal that gets a root.
--     any_doubtful      where no byte is in doubt, any contents may be named as the doubtful ones
--     still_old      where nothing is called, images show what they showed
--     turn_moments, turn_again      what is shown while a journal gets a root, and behind it
--     turns_show, turns_begun      that shows the same tables, and is the image of a journal
--     shown_turned      the tables that the journal with its root shows
use Rattle.std.proofs.Common.{◌≡◌, ◌⊎◌, ℕ, List, sym, subst, inl, inr}
use Rattle.std.specs.Prelude.{Option, None, Result}
use Rattle.row_types.specs.declared.tables.Schema.{Schema}
use Rattle.table_rows.specs.Database.{Database, database_of}
use Rattle.table_rows.specs.Rows.{State}
use Rattle.check_point.specs.Area.{Makes, area_of}
use Rattle.hs_disk.specs.Disk.{LeavesOnly}
use Rattle.hs_schema.specs.Spelling.{spelled}
use Rattle.redo_journal.specs.Committing.{Commits}
use Rattle.redo_journal.specs.Gates.{Throughout}
use Rattle.redo_journal.specs.Image.{Contents, IsFresh, Journals, area_alone, nothing}
use Rattle.redo_journal.specs.Journal.{Standing, Holds, StandsOn, ShowsOld, ShowsOldOrNew, records}
use Rattle.redo_journal.specs.declared.doubt.Doubt.{Doubt}
use Rattle.redo_journal.proofs.DoubtLemmas.{shows_old}
use Rattle.redo_journal.proofs.Moments.{either_way, started, wider, widened}
use Rattle.redo_journal.proofs.ReadingLaws.{fresh_no_journal}
use Rattle.table_recovery.specs.Answers.{ShownOn, Turns}
use Rattle.table_recovery.specs.Shown.{Shows, ImageShows}
use Rattle.table_recovery.proofs.RefusedLemmas.{shows_keep}
use Rattle.table_recovery.proofs.ShownLaws.{area_shows}

pub any_doubtful : (text : List ℕ) (contents one other : Contents) (journal : Standing) (seen : List ℕ) (may_leave : List ℕ → Type 0) → journal.doubt ≡ None → StandsOn text contents one journal seen may_leave → StandsOn text contents other journal seen may_leave
any_doubtful text contents one other journal seen may_leave quiet stands =
    let quietly : Throughout (Holds text contents one journal None) seen may_leave = subst (λ (doubt : Option Doubt). Throughout (Holds text contents one journal doubt) seen may_leave) quiet stands in
    subst (λ (doubt : Option Doubt). Throughout (Holds text contents other journal doubt) seen may_leave) (sym quiet) quietly

-- what is shown where the doubtful contents are the same
of_old : (text : List ℕ) (contents : Contents) (journal : Standing) (image : List ℕ) → ShowsOld text contents contents journal image → Journals text contents image
of_old text contents journal image (inl is) = is
of_old text contents journal image (inr (due, is)) = is

module _ {D : Type 0} (seen : D → List ℕ) (may_leave : D → List ℕ → Type 0) (moment : D → ℕ) (left_at : D → ℕ → List ℕ → Type 0) (text : List ℕ) (contents : Contents) (db : Database) (place : ℕ) where
  old_turns : (other : Contents) (journal : Standing) (disk : D) → journal.doubt ≡ None → StandsOn text contents other journal (seen disk) (may_leave disk) → Throughout (Turns text contents db place) (seen disk) (may_leave disk)
  old_turns other journal disk quiet stands =
      widened (Holds text contents contents journal journal.doubt) (Turns text contents db place) (seen disk) (may_leave disk) (λ image is. inl (of_old text contents journal image (shows_old text contents contents journal image is)))
      (any_doubtful text contents other contents journal (seen disk) (may_leave disk) quiet stands)

  pub still_old : (other : Contents) (journal : Standing) (disk : D) → journal.doubt ≡ None → StandsOn text contents other journal (seen disk) (may_leave disk) → ((image : List ℕ) → left_at disk (moment disk) image → may_leave disk image) → LeavesOnly moment left_at disk disk (Turns text contents db place) × Throughout (Turns text contents db place) (seen disk) (may_leave disk)
  still_old other journal disk quiet stands only_now =
      let all = old_turns other journal disk quiet stands in
      (started moment left_at disk (Turns text contents db place) (may_leave disk) only_now all.leaves, all)

  module _ (makes : Makes db.schema db.bytes_max (area_of db) db) (old new : Standing) (before after : D) where
    old_or_new : (image : List ℕ) → ShowsOldOrNew text contents contents old (area_alone place (area_of db)) image → Turns text contents db place image
    old_or_new image (inl is) = inl (of_old text contents old image is)
    old_or_new image (inr is) = inr (makes, is)

    doubted : (image : List ℕ) → ShowsOld text contents (area_alone place (area_of db)) new image → Turns text contents db place image
    doubted image (inl is) = inl is
    doubted image (inr (due, is)) = inr (makes, is)

    pub turn_moments : {T E : Type 0} (result : Result T E) → Commits seen may_leave moment left_at text contents contents (area_alone place (area_of db)) old new before after result → LeavesOnly moment left_at before after (Turns text contents db place)
    turn_moments result commits =
        wider moment left_at before after (ShowsOldOrNew text contents contents old (area_alone place (area_of db))) (Turns text contents db place) old_or_new commits.any_moment

    turn_fails : (StandsOn text contents contents new (seen after) (may_leave after) ⊎ StandsOn text contents (area_alone place (area_of db)) new (seen after) (may_leave after)) → Throughout (Turns text contents db place) (seen after) (may_leave after)
    turn_fails (inl stands) =
        widened (Holds text contents contents new new.doubt) (Turns text contents db place) (seen after) (may_leave after) (λ image is. inl (of_old text contents new image (shows_old text contents contents new image is))) stands
    turn_fails (inr stands) =
        widened (Holds text contents (area_alone place (area_of db)) new new.doubt) (Turns text contents db place) (seen after) (may_leave after) (λ image is. doubted image (shows_old text contents (area_alone place (area_of db)) new image is)) stands

    turn_done : StandsOn text (area_alone place (area_of db)) (area_alone place (area_of db)) new (seen after) (may_leave after) → Throughout (Turns text contents db place) (seen after) (may_leave after)
    turn_done stands =
        widened (Holds text (area_alone place (area_of db)) (area_alone place (area_of db)) new new.doubt) (Turns text contents db place) (seen after) (may_leave after) (λ image is. inr (makes, of_old text (area_alone place (area_of db)) new image (shows_old text (area_alone place (area_of db)) (area_alone place (area_of db)) new image is))) stands

    pub turn_again : {T E : Type 0} (result : Result T E) → Commits seen may_leave moment left_at text contents contents (area_alone place (area_of db)) old new before after result → Throughout (Turns text contents db place) (seen after) (may_leave after)
    turn_again result commits =
        either_way {R = Throughout (Turns text contents db place) (seen after) (may_leave after)} result commits.acknowledged commits.refused turn_done turn_fails

pub turns_show : (schema : Schema) (bytes_max : ℕ) (contents : Contents) (db : Database) (place : ℕ) → Shows schema bytes_max contents db place → (image : List ℕ) → Turns (spelled schema) contents db place image → ImageShows schema bytes_max db place image
turns_show schema bytes_max contents db place shows image (inl is) = record { contents = contents; journals = inr is; shows = shows }
turns_show schema bytes_max contents db place shows image (inr (makes, is)) =
    let keep = shows_keep schema bytes_max contents db place shows in
    let there : Makes schema bytes_max (area_of db) db =
    subst (λ (s : Schema). Makes s bytes_max (area_of db) db) keep.0
    (subst (λ (n : ℕ). Makes db.schema n (area_of db) db) keep.1 makes) in
    record { contents = area_alone place (area_of db); journals = inr is; shows = area_shows schema bytes_max (area_of db) db place there }

pub turns_begun : (text : List ℕ) (contents : Contents) (db : Database) (place : ℕ) (image : List ℕ) → Turns text contents db place image → IsFresh image → ⊥
turns_begun text contents db place image (inl is) fresh = fresh_no_journal text image contents fresh is
turns_begun text contents db place image (inr (makes, is)) fresh = fresh_no_journal text image (area_alone place (area_of db)) fresh is

pub shown_turned : (schema : Schema) (bytes_max : ℕ) (state : State) (before journal : Standing) (seen : List ℕ) (may_leave : List ℕ → Type 0) → state.schema ≡ schema → state.bytes_max ≡ bytes_max → records journal ≡ records before → Makes state.schema state.bytes_max (area_of (database_of state)) (database_of state) → StandsOn (spelled schema) (area_alone (records before) (area_of (database_of state))) nothing journal seen may_leave → ShownOn schema bytes_max (database_of state) journal seen may_leave
shown_turned schema bytes_max state before journal seen may_leave of_schema of_max counted makes stands =
    let db = database_of state in
    let there : Makes schema bytes_max (area_of db) db =
    subst (λ (s : Schema). Makes s bytes_max (area_of db) db) of_schema
    (subst (λ (n : ℕ). Makes state.schema n (area_of db) db) of_max makes) in
    record {
      contents = area_alone (records before) (area_of db);
      stands = stands;
      shows = subst (λ (n : ℕ). Shows schema bytes_max (area_alone (records before) (area_of db)) db n) (sym counted) (area_shows schema bytes_max (area_of db) db (records before) there);
    }
