-- A book that was opened.
--     opened_shows      what a read gave shows it
--     opened_kept      its journal stands on the disk for it
use Rattle.std.proofs.Common.{◌≡◌, ℕ, false, true, List, sym, ap, subst, ◌∙◌}
use Rattle.std.specs.Prelude.{Option, None, is_some}
use Rattle.std.proofs.lemmas.Bool.{true≢false}
use Rattle.row_types.specs.declared.tables.Schema.{Schema}
use Rattle.hs_schema.specs.Spelling.{spelled}
use Rattle.redo_journal.specs.Image.{nothing}
use Rattle.redo_journal.specs.Journal.{StandsOn}
use Rattle.redo_journal.specs.declared.doubt.Doubt.{Doubt}
use Rattle.table_recovery.specs.Answers.{ShownOn}
use Rattle.table_recovery.specs.Shown.{Shows, ImageShows}
use Rattle.table_book.specs.Books.{Keeping, rows, place, ShowsBook, IsKept}

module _ {D : Type 0} (book : Keeping D) (schema : Schema) (bytes_max : ℕ) (of_schema : book.tables.schema ≡ schema) (of_bytes : book.tables.bytes_max ≡ bytes_max) where
  pub opened_shows : (image : List ℕ) → ImageShows schema bytes_max (rows book) (place book) image → ShowsBook book image
  opened_shows image =
      subst (λ (s : Schema × ℕ). ImageShows s.0 s.1 (rows book) (place book) image) (λ i. (sym of_schema i, sym of_bytes i))

  pub opened_kept : (seen : D → List ℕ) (may_leave : D → List ℕ → Type 0) → book.journal.doubt ≡ None → ShownOn schema bytes_max (rows book) book.journal (seen book.disk) (may_leave book.disk) → IsKept seen may_leave book
  opened_kept seen may_leave quiet shown = record {
    other = rows book;
    number = place book;
    beside = record {
      contents = shown.contents;
      doubtful = nothing;
      stands = subst (λ (s : Schema). StandsOn (spelled s) shown.contents nothing book.journal (seen book.disk) (may_leave book.disk)) (sym of_schema) shown.stands;
      shows = subst (λ (s : Schema × ℕ). Shows s.0 s.1 shown.contents (rows book) (place book)) (λ i. (sym of_schema i, sym of_bytes i)) shown.shows;
      doubts = λ due. absurd (true≢false (sym due ∙ ap (λ (d : Option Doubt). is_some d) quiet));
    };
  }
