-- What an image shows while a byte is in doubt, and what a write of that byte leaves.
use Rattle.std.proofs.Common.{◌≡◌, ◌⊎◌, inl, inr, ℕ, true, false, List, [], ◌∷◌, get_or, refl, sym, subst, arith}
use Rattle.std.specs.Prelude.{Option, None, Some, is_some}
use Rattle.std.proofs.lemmas.Bool.{true≢false}
use Rattle.hs_disk.specs.Disk.{written, Torn}
use Rattle.redo_journal.specs.Image.{Contents, Journals}
use Rattle.redo_journal.specs.Journal.{Standing, IsOf, InDoubt, Holds, ShowsOld, is_due}
use Rattle.redo_journal.specs.declared.doubt.Doubt.{Doubt}
use Rattle.redo_journal.proofs.StandLemmas.{rewritten, overwritten}

pub of_shows : (text : List ℕ) (contents : Contents) (journal : Standing) (image : List ℕ) → IsOf text contents journal image → Journals text contents image
of_shows text contents journal image is = record { root = journal.root; gate = journal.gate; is = is.is }

module _ (text : List ℕ) (contents doubtful : Contents) (journal : Standing) (doubt : Doubt) where
  -- the byte stays in doubt, whatever a torn write of it leaves
  pub doubt_kept : (earlier image : List ℕ) → Torn doubt.place 1 earlier image → InDoubt text contents doubtful journal doubt earlier → InDoubt text contents doubtful journal doubt image
  doubt_kept earlier image torn was = record {
    within = omega (arith, was.within, torn.no_shorter);
    either = λ byte. subst (λ (l : List ℕ). Journals text contents l ⊎ Journals text doubtful l) (sym (overwritten doubt.place byte earlier image torn)) (was.either byte);
    back = subst (IsOf text contents journal) (sym (overwritten doubt.place doubt.byte earlier image torn)) was.back;
  }

  pub doubt_shows : (image : List ℕ) → InDoubt text contents doubtful journal doubt image → Journals text contents image ⊎ Journals text doubtful image
  doubt_shows image is =
      subst (λ (l : List ℕ). Journals text contents l ⊎ Journals text doubtful l) (rewritten doubt.place image is.within) (is.either (get_or image doubt.place 0))

module _ (text : List ℕ) (contents doubtful : Contents) (journal : Standing) (image : List ℕ) where
  holds_shows : (doubt : Option Doubt) → Holds text contents doubtful journal doubt image → Journals text contents image ⊎ ((is_some doubt ≡ true) × Journals text doubtful image)
  holds_shows None is = inl (of_shows text contents journal image is)
  holds_shows (Some doubt) is = elim (doubt_shows text contents doubtful journal doubt image is) [
    | inl old ↦ inl old
    | inr new ↦ inr (refl, new)
  ]

  pub shows_old : Holds text contents doubtful journal journal.doubt image → ShowsOld text contents doubtful journal image
  shows_old = holds_shows journal.doubt

  quiet_shows : (doubt : Option Doubt) → is_some doubt ≡ false → Holds text contents doubtful journal doubt image → Journals text contents image
  quiet_shows None quiet is = of_shows text contents journal image is
  quiet_shows (Some doubt) quiet is = absurd (true≢false quiet)

  -- where no repair is due
  pub shows_only : is_due journal ≡ false → Holds text contents doubtful journal journal.doubt image → Journals text contents image
  shows_only = quiet_shows journal.doubt

-- of a journal, the byte in doubt is no part of what its image is
pub of_moved : (text : List ℕ) (contents : Contents) (journal : Standing) (doubt : Option Doubt) (image : List ℕ) → IsOf text contents journal image → IsOf text contents (record journal { doubt = doubt }) image
of_moved text contents journal doubt image is = record { is = is.is; first = is.first; since = is.since }

pub doubt_moved : (text : List ℕ) (contents doubtful : Contents) (journal : Standing) (doubt : Doubt) (now : Option Doubt) (image : List ℕ) → InDoubt text contents doubtful journal doubt image → InDoubt text contents doubtful (record journal { doubt = now }) doubt image
doubt_moved text contents doubtful journal doubt now image is = record {
  within = is.within;
  either = is.either;
  back = of_moved text contents journal now (written doubt.place (doubt.byte ∷ []) image) is.back;
}
