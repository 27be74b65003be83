-- What a call that gives a journal new contents does, of what its steps leave.
use Rattle.std.proofs.Common.{◌≡◌, ◌⊎◌, inl, inr, ℕ, false, List, sym, subst, Result, Ok, Err}
use Rattle.std.specs.Prelude.{Option, None, OnOk, OnErr}
use Rattle.hs_disk.specs.Disk.{AllImages, LeavesOnly}
use Rattle.redo_journal.specs.Committing.{Commits}
use Rattle.redo_journal.specs.Gates.{Is, Syncs, Throughout, TornFrom}
use Rattle.redo_journal.specs.Image.{Contents}
use Rattle.redo_journal.specs.Journal.{Standing, IsOf, InDoubt, Holds, StandsOn, ShowsOld, ShowsOldOrNew, is_due}
use Rattle.redo_journal.specs.declared.doubt.Doubt.{Doubt}
use Rattle.redo_journal.proofs.DoubtLemmas.{of_shows, doubt_kept, doubt_shows, shows_old, shows_only}
use Rattle.redo_journal.proofs.Moments.{joined, wider}

-- where a journal may stand after a fault: what is in doubt is the same as before, or the next contents
abbrev pub Refused : List ℕ → Contents → Contents → Contents → Standing → List ℕ → (List ℕ → Type 0) → Type 0
Refused text contents doubtful next journal seen may_leave =
    StandsOn text contents doubtful journal seen may_leave ⊎ StandsOn text contents next journal seen may_leave

refused_shows : (text : List ℕ) (contents doubtful next : Contents) (journal : Standing) (seen : List ℕ) (may_leave : List ℕ → Type 0) → Refused text contents doubtful next journal seen may_leave → AllImages (λ image. ShowsOld text contents doubtful journal image ⊎ ShowsOld text contents next journal image) may_leave
refused_shows text contents doubtful next journal seen may_leave (inl stands) =
    λ image left. inl (shows_old text contents doubtful journal image (stands.leaves image left))
refused_shows text contents doubtful next journal seen may_leave (inr stands) =
    λ image left. inr (shows_old text contents next journal image (stands.leaves image left))

-- a journal with no byte in doubt
pub stands_quiet : (text : List ℕ) (contents doubtful : Contents) (journal : Standing) (seen : List ℕ) (may_leave : List ℕ → Type 0) → journal.doubt ≡ None → Throughout (IsOf text contents journal) seen may_leave → StandsOn text contents doubtful journal seen may_leave
stands_quiet text contents doubtful journal seen may_leave quiet all =
    subst (λ (d : Option Doubt). Throughout (Holds text contents doubtful journal d) seen may_leave) (sym quiet) all

pub quiet_stands : (text : List ℕ) (contents doubtful : Contents) (journal : Standing) (seen : List ℕ) (may_leave : List ℕ → Type 0) → journal.doubt ≡ None → StandsOn text contents doubtful journal seen may_leave → Throughout (IsOf text contents journal) seen may_leave
quiet_stands text contents doubtful journal seen may_leave quiet stands =
    subst (λ (d : Option Doubt). Throughout (Holds text contents doubtful journal d) seen may_leave) quiet stands

-- what holds of some bytes, holds where they alone are left
pub only_these : (P : List ℕ → Type 0) (bytes seen : List ℕ) (may_leave : List ℕ → Type 0) → P bytes → Throughout (Is bytes) seen may_leave → Throughout P seen may_leave
only_these P bytes seen may_leave is these = record {
  reads = subst P (sym these.reads) is;
  leaves = λ image left. subst P (sym (these.leaves image left)) is;
}

module _ {D T E : Type 0} (seen : D → List ℕ) (may_leave : D → List ℕ → Type 0) (moment : D → ℕ) (left_at : D → ℕ → List ℕ → Type 0) (text : List ℕ) (contents doubtful next : Contents) (old : Standing) where
  pub commits : (new : Standing) (before after : D) (result : Result T E) → LeavesOnly moment left_at before after (ShowsOldOrNew text contents doubtful old next) → OnOk result (StandsOn text next next new (seen after) (may_leave after)) → OnOk result (is_due new ≡ false) → OnErr result (Refused text contents doubtful next new (seen after) (may_leave after)) → Commits seen may_leave moment left_at text contents doubtful next old new before after result
  commits new before after (Ok x) moments stands quiet refused = record {
    any_moment = moments;
    acknowledged = stands;
    shows_new = λ image left. shows_only text next next new image quiet (stands.leaves image left);
    refused = tt;
    shows_old = tt;
  }
  commits new before after (Err e) moments stands quiet refused = record {
    any_moment = moments;
    acknowledged = tt;
    shows_new = tt;
    refused = refused;
    shows_old = refused_shows text contents doubtful next new (seen after) (may_leave after) refused;
  }

  -- the writes before the byte, and a sync: the journal is as it was
  pub first_moments : (journal : Standing) (before mid : D) (during : List ℕ → Type 0) (bytes : List ℕ) (result : Result T E) → Syncs seen may_leave moment left_at before mid during bytes result → ((image : List ℕ) → during image → IsOf text contents journal image) → LeavesOnly moment left_at before mid (ShowsOldOrNew text contents doubtful old next)
  first_moments journal before mid during bytes result syncs into =
      wider moment left_at before mid during (ShowsOldOrNew text contents doubtful old next) (λ image is. inl (inl (of_shows text contents journal image (into image is)))) syncs.moments

  -- the byte, and a sync: it is in doubt
  pub second_moments : (journal : Standing) (doubt : Doubt) (before mid after : D) (bytes : List ℕ) (result : Result T E) → LeavesOnly moment left_at before mid (ShowsOldOrNew text contents doubtful old next) → Throughout (InDoubt text contents next journal doubt) (seen mid) (may_leave mid) → Syncs seen may_leave moment left_at mid after (TornFrom doubt.place 1 (may_leave mid)) bytes result → LeavesOnly moment left_at before after (ShowsOldOrNew text contents doubtful old next)
  second_moments journal doubt before mid after bytes result so_far doubted syncs =
      joined moment left_at before mid after Shows so_far (wider moment left_at mid after (TornFrom doubt.place 1 (may_leave mid)) Shows into syncs.moments)
    where
      Shows : List ℕ → Type 0
      Shows = ShowsOldOrNew text contents doubtful old next

      into : (image : List ℕ) → TornFrom doubt.place 1 (may_leave mid) image → Shows image
      into image from = elim (doubt_shows text contents next journal doubt image (doubt_kept text contents next journal doubt from.earlier image from.torn (doubted.leaves from.earlier from.was))) [
        | inl is ↦ inl (inl is)
        | inr is ↦ inr is
      ]

-- what a failed write of a byte in doubt, or a failed sync behind it, leaves
pub still_in_doubt : {D T E : Type 0} (seen : D → List ℕ) (may_leave : D → List ℕ → Type 0) (moment : D → ℕ) (left_at : D → ℕ → List ℕ → Type 0) (text : List ℕ) (contents doubtful : Contents) (journal : Standing) (doubt : Doubt) (mid after : D) (bytes : List ℕ) (result : Result T E) → Throughout (InDoubt text contents doubtful journal doubt) (seen mid) (may_leave mid) → Syncs seen may_leave moment left_at mid after (TornFrom doubt.place 1 (may_leave mid)) bytes result → Throughout (InDoubt text contents doubtful journal doubt) (seen after) (may_leave after)
still_in_doubt seen may_leave moment left_at text contents doubtful journal doubt mid after bytes result doubted syncs = record {
  reads = into (seen after) syncs.leaves.reads;
  leaves = λ image left. into image (syncs.leaves.leaves image left);
}
  where
    into : (image : List ℕ) → TornFrom doubt.place 1 (may_leave mid) image → InDoubt text contents doubtful journal doubt image
    into image from = doubt_kept text contents doubtful journal doubt from.earlier image from.torn (doubted.leaves from.earlier from.was)
