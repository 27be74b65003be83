-- What recovery does to a disk, of what the opening of its tables does and then the writing of a root.
--     opened_moments, opened_again      the opening shows nothing else
--     rooted_moments, rooted_again      nor does a root that is written then
--     no_area_without_root      a journal without a root has no area
--     not_for_bytes      a refusal that isn't for the bytes
--     fresh_alike, begun_alike      disks of which all images show the same
use Rattle.std.proofs.Common.{◌≡◌, ℕ, List, false, refl, sym, ap, subst, ◌∙◌, inl, inr}
use Rattle.std.specs.Prelude.{Option, Some, None, is_some}
use Rattle.std.proofs.lemmas.Bool.{true≢false}
use Rattle.row_types.specs.declared.tables.Schema.{Schema}
use Rattle.table_rows.specs.Database.{Database, empty_database}
use Rattle.hs_disk.specs.Disk.{AllImages, LeavesOnly}
use Rattle.hs_schema.specs.Spelling.{spelled}
use Rattle.redo_journal.specs.Gates.{Throughout}
use Rattle.redo_journal.specs.Image.{Contents, IsFresh, Journals, StandsFor, nothing}
use Rattle.redo_journal.specs.Journal.{Standing, Holds, records}
use Rattle.redo_journal.specs.declared.doubt.Doubt.{Doubt}
use Rattle.redo_journal.specs.declared.refusal.Refusal.{Refusal}
use Rattle.redo_journal.specs.declared.refusal.Refusal.TheVariants.{OtherSchema, Damaged, DiskFault, NoMemory}
use Rattle.redo_journal.specs.declared.root.Root.{Root}
use Rattle.redo_journal.proofs.Moments.{after_run, joined, wider}
use Rattle.redo_journal.proofs.ReadingLaws.{fresh_no_journal, one_contents}
use Rattle.table_recovery.specs.Answers.{ShownOn, RefusesTables, IsOfBytes, Turns}
use Rattle.table_recovery.specs.Shown.{Shows, ImageShows, AllShow}
use Rattle.table_recovery.proofs.OpenedLemmas.{form_rooted}
use Rattle.table_recovery.proofs.ShownLaws.{image_one}
use Rattle.table_recovery.proofs.TurnLemmas.{turns_begun, turns_show}

none_some : (found : Option Root) (root : Root) → found ≡ None → found ≡ Some root → ⊥
none_some None root none some = absurd cc
none_some (Some r) root none some = absurd cc

-- an image of a journal with an area, which is read
pub no_area_without_root : (schema : Schema) (bytes_max : ℕ) (db : Database) (journal : Standing) (seen : List ℕ) (may_leave : List ℕ → Type 0) → ShownOn schema bytes_max db journal seen may_leave → journal.doubt ≡ None → journal.root ≡ None → (contents : Contents) (area old : List ℕ) → ((IsFresh old → ⊥) → seen ≡ old) → Journals (spelled schema) contents old → contents.area ≡ Some area → ⊥
no_area_without_root schema bytes_max db journal seen may_leave shown quiet no_root contents area old same is has =
    let text = spelled schema in
    let begun : IsFresh old → ⊥ = λ fresh. fresh_no_journal text old contents fresh is in
    let quietly : Throughout (Holds text shown.contents nothing journal None) seen may_leave = subst (λ (doubt : Option Doubt). Throughout (Holds text shown.contents nothing journal doubt) seen may_leave) quiet shown.stands in
    let own : Journals text shown.contents old = subst (Journals text shown.contents) (same begun) (record { root = journal.root; gate = journal.gate; is = quietly.reads.is }) in
    let area_is : shown.contents.area ≡ Some area = ap (λ (c : Contents). c.area) (one_contents text old shown.contents contents own is) ∙ has in
    let found = form_rooted text shown.contents.first shown.contents.payloads shown.contents.area journal.root journal.gate seen area quietly.reads.is.form area_is in
    none_some journal.root found.0 no_root found.1

pub none_is : (found : Option Root) → is_some found ≡ false → found ≡ None
none_is None e = refl
none_is (Some root) e = absurd (true≢false e)

-- what is not for the bytes that were read, may come at any time
pub not_for_bytes : (schema : Schema) (bytes_max : ℕ) (image : List ℕ) (refusal : Refusal) → (IsOfBytes refusal → ⊥) → RefusesTables schema bytes_max image refusal
not_for_bytes schema bytes_max image OtherSchema other = absurd (other tt)
not_for_bytes schema bytes_max image (Damaged place) other = absurd (other tt)
not_for_bytes schema bytes_max image DiskFault other = tt
not_for_bytes schema bytes_max image NoMemory other = tt

-- where nothing was written, images show what nothing shows
of_nothing : (schema : Schema) (bytes_max : ℕ) (db : Database) (place : ℕ) → Shows schema bytes_max nothing db place → (image : List ℕ) → StandsFor (spelled schema) nothing image → ImageShows schema bytes_max db place image
of_nothing schema bytes_max db place shows image stands = record { contents = nothing; journals = stands; shows = shows }

module _ {D : Type 0} (seen : D → List ℕ) (may_leave : D → List ℕ → Type 0) (moment : D → ℕ) (left_at : D → ℕ → List ℕ → Type 0) (schema : Schema) (bytes_max : ℕ) (old mid : D) (harmless : (IsFresh (seen old) → ⊥) → LeavesOnly moment left_at old mid (may_leave old)) (db : Database) (place : ℕ) (all : AllShow schema bytes_max db place (seen old) (may_leave old)) where
  pub opened_moments : ((contents : Contents) → AllImages (StandsFor (spelled schema) contents) (may_leave old) → LeavesOnly moment left_at old mid (StandsFor (spelled schema) contents)) → LeavesOnly moment left_at old mid (ImageShows schema bytes_max db place)
  opened_moments making = by all
    where
      by : AllShow schema bytes_max db place (seen old) (may_leave old) → LeavesOnly moment left_at old mid (ImageShows schema bytes_max db place)
      by (inl begun) = wider moment left_at old mid (may_leave old) (ImageShows schema bytes_max db place) begun.1 (harmless begun.0)
      by (inr new) = wider moment left_at old mid (StandsFor (spelled schema) nothing) (ImageShows schema bytes_max db place) (of_nothing schema bytes_max db place new.0) (making nothing new.1)

  pub opened_again : ((contents : Contents) → AllImages (StandsFor (spelled schema) contents) (may_leave old) → AllImages (StandsFor (spelled schema) contents) (may_leave mid)) → ((IsFresh (seen old) → ⊥) → seen mid ≡ seen old) → ((image : List ℕ) → may_leave mid image → left_at mid (moment mid) image) → AllShow schema bytes_max db place (seen mid) (may_leave mid)
  opened_again made same counts_now = by all
    where
      by : AllShow schema bytes_max db place (seen old) (may_leave old) → AllShow schema bytes_max db place (seen mid) (may_leave mid)
      by (inl begun) = inl (
        subst (λ (image : List ℕ). IsFresh image → ⊥) (sym (same begun.0)) begun.0,
        λ image left. begun.1 image (after_run moment left_at old mid (may_leave old) (may_leave mid) (harmless begun.0) counts_now image left),
      )
      by (inr new) = inr (new.0, made nothing new.1)

  module _ (found : Database) (journal : Standing) (reads : ImageShows schema bytes_max found (records journal) (seen old)) (among : may_leave old (seen old)) (shown : ShownOn schema bytes_max found journal (seen mid) (may_leave mid)) where
    reads_shown : AllShow schema bytes_max db place (seen old) (may_leave old) → ImageShows schema bytes_max db place (seen old)
    reads_shown (inl begun) = begun.1 (seen old) among
    reads_shown (inr new) = of_nothing schema bytes_max db place new.0 (seen old) (new.1 (seen old) among)

    turns_same : (image : List ℕ) → Turns (spelled schema) shown.contents found (records journal) image → ImageShows schema bytes_max db place image
    turns_same image turns =
        let same = image_one schema bytes_max (seen old) found db (records journal) place reads (reads_shown all) in
        subst (λ (d : Database). ImageShows schema bytes_max d place image) same.0
        (subst (λ (n : ℕ). ImageShows schema bytes_max found n image) same.1
        (turns_show schema bytes_max shown.contents found (records journal) shown.shows image turns))

    pub rooted_moments : (last : D) → LeavesOnly moment left_at old mid (ImageShows schema bytes_max db place) → LeavesOnly moment left_at mid last (Turns (spelled schema) shown.contents found (records journal)) → LeavesOnly moment left_at old last (ImageShows schema bytes_max db place)
    rooted_moments last so_far more =
        joined moment left_at old mid last (ImageShows schema bytes_max db place) so_far (wider moment left_at mid last (Turns (spelled schema) shown.contents found (records journal)) (ImageShows schema bytes_max db place) turns_same more)

    pub rooted_again : (last : D) → Throughout (Turns (spelled schema) shown.contents found (records journal)) (seen last) (may_leave last) → AllShow schema bytes_max db place (seen last) (may_leave last)
    rooted_again last turned = inl (
      turns_begun (spelled schema) shown.contents found (records journal) (seen last) turned.reads,
      λ image left. turns_same image (turned.leaves image left),
    )

pub fresh_alike : (schema : Schema) (bytes_max : ℕ) (seen : List ℕ) (may_leave : List ℕ → Type 0) → AllImages IsFresh may_leave → AllShow schema bytes_max (empty_database schema bytes_max) 0 seen may_leave
fresh_alike schema bytes_max seen may_leave all = inr (
  record { start = empty_database schema bytes_max; begins = refl; leads = refl; place_is = refl },
  λ image left. inl (all image left, refl),
)

pub begun_alike : (schema : Schema) (bytes_max : ℕ) (contents : Contents) (db : Database) (place : ℕ) (seen : List ℕ) (may_leave : List ℕ → Type 0) → Shows schema bytes_max contents db place → may_leave seen → AllImages (Journals (spelled schema) contents) may_leave → AllShow schema bytes_max db place seen may_leave
begun_alike schema bytes_max contents db place seen may_leave shows among all = inl (
  λ fresh. fresh_no_journal (spelled schema) seen contents fresh (all seen among),
  λ image left. record { contents = contents; journals = inr (all image left); shows = shows },
)
