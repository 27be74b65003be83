-- What a call that gives a journal new contents, and a repair, do to it and to what a crash may
-- leave of it.
use Rattle.std.specs.Prelude.{◌⊎◌, ℕ, List, Result, OnOk, OnErr}
use Rattle.hs_disk.specs.Disk.{AllImages, LeavesOnly}
use Rattle.redo_journal.specs.Image.{Contents, Journals}
use Rattle.redo_journal.specs.Journal.{Standing, StandsOn, ShowsOld, ShowsOldOrNew}

-- A call that gives the next contents to a journal that stands for these, or, where a repair is due,
-- for these or the doubtful ones: a crash at each moment of it shows what was shown before, or the
-- next contents.
pub record Commits {D T E : Type 0} (seen : D → List ℕ) (may_leave : D → List ℕ → Type 0)
    (moment : D → ℕ) (left_at : D → ℕ → List ℕ → Type 0)
    (text : List ℕ) (contents doubtful next : Contents)
    (old new : Standing) (before after : D) (result : Result T E) : Type 0 where
  pub any_moment : LeavesOnly moment left_at before after
      (ShowsOldOrNew text contents doubtful old next)
  -- after Ok, the journal stands for the next contents, and every image shows them
  pub acknowledged : OnOk result (StandsOn text next next new (seen after) (may_leave after))
  pub shows_new : OnOk result (AllImages (Journals text next) (may_leave after))
  -- after a fault, it stands for those from before, and, where a repair is due, the doubtful ones
  -- are the same as before or the next ones
  pub refused : OnErr result (StandsOn text contents doubtful new (seen after) (may_leave after)
      ⊎ StandsOn text contents next new (seen after) (may_leave after))
  pub shows_old : OnErr result (AllImages (λ image. ShowsOld text contents doubtful new image
      ⊎ ShowsOld text contents next new image) (may_leave after))

-- A repair shows nothing new at any moment, and the journal stands as before, whatever the answer.
pub record Repairs {D : Type 0} (seen : D → List ℕ) (may_leave : D → List ℕ → Type 0)
    (moment : D → ℕ) (left_at : D → ℕ → List ℕ → Type 0)
    (text : List ℕ) (contents doubtful : Contents)
    (old new : Standing) (before after : D) : Type 0 where
  pub any_moment : LeavesOnly moment left_at before after (ShowsOld text contents doubtful old)
  pub stands : StandsOn text contents doubtful new (seen after) (may_leave after)
