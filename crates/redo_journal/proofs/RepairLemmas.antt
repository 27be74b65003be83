-- What a repair does, and what follows it.
use Rattle.std.proofs.Common.{◌≡◌, inl, inr, ⊎_elim, ℕ, false, List, [], ◌∷◌, sym, ◌∙◌, ap, subst, Result}
use Rattle.std.specs.Prelude.{Option, None, Some, is_some, OnOk}
use Rattle.std.proofs.lemmas.Bool.{true≢false}
use Rattle.hs_disk.specs.Disk.{LeavesOnly, written}
use Rattle.redo_journal.specs.Committing.{Commits, Repairs}
use Rattle.redo_journal.specs.Gates.{Is, Syncs, Throughout, TornFrom}
use Rattle.redo_journal.specs.Image.{Contents}
use Rattle.redo_journal.specs.Journal.{Standing, IsOf, InDoubt, Holds, IsJournalOn, StandsOn, ShowsOld, ShowsOldOrNew, is_due}
use Rattle.redo_journal.specs.declared.doubt.Doubt.{Doubt}
use Rattle.redo_journal.proofs.CommitLemmas.{commits, only_these, still_in_doubt}
use Rattle.redo_journal.proofs.DoubtLemmas.{doubt_kept, doubt_shows, of_moved, shows_old}
use Rattle.redo_journal.proofs.Moments.{either_way, joined, on_err, started, wider}

module _ {D : Type 0} (seen : D → List ℕ) (may_leave : D → List ℕ → Type 0) (moment : D → ℕ) (left_at : D → ℕ → List ℕ → Type 0) (text : List ℕ) (contents doubtful : Contents) where
  -- the byte that is in doubt
  pub doubted : (journal : Standing) (doubt : Doubt) (disk : D) → journal.doubt ≡ Some doubt → StandsOn text contents doubtful journal (seen disk) (may_leave disk) → Throughout (InDoubt text contents doubtful journal doubt) (seen disk) (may_leave disk)
  doubted journal doubt disk due stands =
      subst (λ (d : Option Doubt). Throughout (Holds text contents doubtful journal d) (seen disk) (may_leave disk)) due stands

  repair_moments : {T E : Type 0} (journal : Standing) (doubt : Doubt) (before after : D) (bytes : List ℕ) (result : Result T E) → journal.doubt ≡ Some doubt → Throughout (InDoubt text contents doubtful journal doubt) (seen before) (may_leave before) → Syncs seen may_leave moment left_at before after (TornFrom doubt.place 1 (may_leave before)) bytes result → LeavesOnly moment left_at before after (ShowsOld text contents doubtful journal)
  repair_moments journal doubt before after bytes result due was syncs =
      wider moment left_at before after (TornFrom doubt.place 1 (may_leave before)) (ShowsOld text contents doubtful journal) into syncs.moments
    where
      into : (image : List ℕ) → TornFrom doubt.place 1 (may_leave before) image → ShowsOld text contents doubtful journal image
      into image from = elim (doubt_shows text contents doubtful journal doubt image (doubt_kept text contents doubtful journal doubt from.earlier image from.torn (was.leaves from.earlier from.was))) [
        | inl old ↦ inl old
        | inr new ↦ inr (ap (λ (d : Option Doubt). is_some d) due, new)
      ]

  pub repair_fails : {T E : Type 0} (journal : Standing) (doubt : Doubt) (before after : D) (bytes : List ℕ) (result : Result T E) → journal.doubt ≡ Some doubt → StandsOn text contents doubtful journal (seen before) (may_leave before) → Syncs seen may_leave moment left_at before after (TornFrom doubt.place 1 (may_leave before)) bytes result → Repairs seen may_leave moment left_at text contents doubtful journal journal before after
  repair_fails journal doubt before after bytes result due stands syncs = record {
    any_moment = repair_moments journal doubt before after bytes result due was syncs;
    stands = subst (λ (d : Option Doubt). Throughout (Holds text contents doubtful journal d) (seen after) (may_leave after)) (sym due) (still_in_doubt seen may_leave moment left_at text contents doubtful journal doubt before after bytes result was syncs);
  }
    where
      was : Throughout (InDoubt text contents doubtful journal doubt) (seen before) (may_leave before)
      was = doubted journal doubt before due stands

  pub repair_ends : {T E : Type 0} (journal : Standing) (doubt : Doubt) (before after : D) (result : Result T E) → journal.doubt ≡ Some doubt → StandsOn text contents doubtful journal (seen before) (may_leave before) → Syncs seen may_leave moment left_at before after (TornFrom doubt.place 1 (may_leave before)) (written doubt.place (doubt.byte ∷ []) (seen before)) result → Throughout (Is (written doubt.place (doubt.byte ∷ []) (seen before))) (seen after) (may_leave after) → Repairs seen may_leave moment left_at text contents doubtful journal (record journal { doubt = None }) before after
  repair_ends journal doubt before after result due stands syncs these = record {
    any_moment = repair_moments journal doubt before after (written doubt.place (doubt.byte ∷ []) (seen before)) result due was syncs;
    stands = only_these (IsOf text contents (record journal { doubt = None })) image (seen after) (may_leave after) (of_moved text contents journal None image was.reads.back) these;
  }
    where
      was : Throughout (InDoubt text contents doubtful journal doubt) (seen before) (may_leave before)
      was = doubted journal doubt before due stands

      image : List ℕ
      image = written doubt.place (doubt.byte ∷ []) (seen before)

  pub no_repair : (journal : Standing) (disk : D) → ((image : List ℕ) → left_at disk (moment disk) image → may_leave disk image) → StandsOn text contents doubtful journal (seen disk) (may_leave disk) → Repairs seen may_leave moment left_at text contents doubtful journal journal disk disk
  no_repair journal disk only_now stands = record {
    any_moment = started moment left_at disk (ShowsOld text contents doubtful journal) (may_leave disk) only_now (λ image left. shows_old text contents doubtful journal image (stands.leaves image left));
    stands = stands;
  }

  repaired_moments : (next : Contents) (old mid : Standing) (before between : D) → Repairs seen may_leave moment left_at text contents doubtful old mid before between → LeavesOnly moment left_at before between (ShowsOldOrNew text contents doubtful old next)
  repaired_moments next old mid before between repaired =
      wider moment left_at before between (ShowsOld text contents doubtful old) (ShowsOldOrNew text contents doubtful old next) (λ image is. inl is) repaired.any_moment

  module _ {T E : Type 0} (next : Contents) (old mid : Standing) (before between : D) (repaired : Repairs seen may_leave moment left_at text contents doubtful old mid before between) where
    -- a call whose repair fails
    pub commit_stops : (result : Result T E) → OnOk result (StandsOn text next next mid (seen between) (may_leave between)) → OnOk result (is_due mid ≡ false) → Commits seen may_leave moment left_at text contents doubtful next old mid before between result
    commit_stops result acknowledged quiet =
        commits seen may_leave moment left_at text contents doubtful next old mid before between result (repaired_moments next old mid before between repaired) acknowledged quiet (on_err result (inl repaired.stands))

    -- and one that goes on behind it
    pub commit_follows : (new : Standing) (after : D) (result : Result T E) → is_due mid ≡ false → Commits seen may_leave moment left_at text contents doubtful next mid new between after result → Commits seen may_leave moment left_at text contents doubtful next old new before after result
    commit_follows new after result quiet commits = record {
      any_moment = joined moment left_at before between after (ShowsOldOrNew text contents doubtful old next) (repaired_moments next old mid before between repaired)
          (wider moment left_at between after (ShowsOldOrNew text contents doubtful mid next) (ShowsOldOrNew text contents doubtful old next) into commits.any_moment);
      acknowledged = commits.acknowledged;
      shows_new = commits.shows_new;
      refused = commits.refused;
      shows_old = commits.shows_old;
    }
      where
        into : (image : List ℕ) → ShowsOldOrNew text contents doubtful mid next image → ShowsOldOrNew text contents doubtful old next image
        into image (inl (inl is)) = inl (inl is)
        into image (inl (inr more)) = absurd (true≢false (sym more.0 ∙ quiet))
        into image (inr is) = inr is

  -- whatever the answer, the journal stands for something
  pub still_on : {T E : Type 0} (next : Contents) (old new : Standing) (before after : D) (result : Result T E) → Commits seen may_leave moment left_at text contents doubtful next old new before after result → IsJournalOn new (seen after) (may_leave after)
  still_on next old new before after result commits =
      either_way {R = IsJournalOn new (seen after) (may_leave after)} result commits.acknowledged commits.refused
      (λ now. record { text = text; contents = next; doubtful = next; stands = now })
      (λ refused. ⊎_elim
      (λ now. record { text = text; contents = contents; doubtful = doubtful; stands = now })
      (λ now. record { text = text; contents = contents; doubtful = next; stands = now })
      refused)
