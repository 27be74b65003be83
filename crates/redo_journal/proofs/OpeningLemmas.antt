-- What an opening hands out, of what the image is that was read.
use Rattle.std.proofs.Common.{inr, List, ℕ, refl}
use Rattle.std.specs.Prelude.{None, Result, Ok, Err, IfErr}
use Rattle.redo_journal.specs.Gates.{Is, Throughout}
use Rattle.redo_journal.specs.Image.{IsImageAt, StandsFor, nothing}
use Rattle.redo_journal.specs.Journal.{Standing, IsOf, IsJournalOn, StandsOn}
use Rattle.redo_journal.specs.Opening.{Opens, RefusesImage, RefusesReading, contents_of}
use Rattle.redo_journal.specs.declared.opened.Opened.{Opened}
use Rattle.redo_journal.specs.declared.refusal.Refusal.{Refusal}
use Rattle.redo_journal.specs.declared.refusal.Refusal.TheVariants.{OtherSchema, Damaged, DiskFault, NoMemory}
use Rattle.redo_journal.proofs.CommitLemmas.{stands_quiet, only_these}
use Rattle.redo_journal.proofs.DoubtLemmas.{of_shows}
use Rattle.redo_journal.proofs.Moments.{widened}

module _ (text image : List ℕ) (journal : Standing) (opened : Opened) (opens : Opens text image journal opened) where
  pub opens_shows : StandsFor text (contents_of opened) image
  opens_shows = inr (of_shows text (contents_of opened) journal image opens.is)

  pub opens_stands : (seen : List ℕ) (may_leave : List ℕ → Type 0) → Throughout (Is image) seen may_leave → StandsOn text (contents_of opened) nothing journal seen may_leave
  opens_stands seen may_leave these =
      stands_quiet text (contents_of opened) nothing journal seen may_leave opens.quiet (only_these (IsOf text (contents_of opened) journal) image seen may_leave opens.is these)

  pub opens_on : (seen : List ℕ) (may_leave : List ℕ → Type 0) → Throughout (Is image) seen may_leave → IsJournalOn journal seen may_leave
  opens_on seen may_leave these =
      record { text = text; contents = contents_of opened; doubtful = nothing; stands = opens_stands seen may_leave these }

-- a journal that was just made
abbrev pub made : ℕ → Standing
made gate = record { gate = gate; first = 0; since = 0; root = None; doubt = None }

pub made_stands : (text : List ℕ) (gate : ℕ) (seen : List ℕ) (may_leave : List ℕ → Type 0) → Throughout (IsImageAt text nothing None gate) seen may_leave → StandsOn text nothing nothing (made gate) seen may_leave
made_stands text gate seen may_leave all =
    widened (IsImageAt text nothing None gate) (IsOf text nothing (made gate)) seen may_leave (λ image is. record { is = is; first = refl; since = refl }) all

-- why the reading refuses, the opening does
pub refuses_image : (text image : List ℕ) (refusal : Refusal) → RefusesReading text image refusal → RefusesImage text image refusal
refuses_image text image OtherSchema refuses = refuses
refuses_image text image (Damaged place) refuses = refuses
refuses_image text image DiskFault refuses = absurd refuses
refuses_image text image NoMemory refuses = refuses

pub err_weaker : {T E : Type 0} (r : Result T E) (P Q : E → Type 0) → ((e : E) → P e → Q e) → IfErr r P → IfErr r Q
err_weaker (Ok x) P Q into is = tt
err_weaker (Err e) P Q into is = into e is
