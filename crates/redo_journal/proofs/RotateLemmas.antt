-- What a segment in the free part of an image, the other cell and then the selector make of it.
use Rattle.std.proofs.Common.{◌≡◌, ◌⊎◌, inl, inr, ℕ, ◌+◌, ◌^◌, ◌<◌, ◌≤◌, ◌-◌, Bool, true, false, List, [], ◌∷◌, length, ◌∙◌, ap, arith}
use Rattle.std.specs.Prelude.{None, Some, ◌%◌, not, nat_le, if◌then◌else◌}
use Rattle.std.specs.Int.{w64, to_be_bytes}
use Rattle.std.proofs.lemmas.Bool.{cases_Bool, cases_eq}
use Rattle.std.proofs.lemmas.Bool.Decides.{nat_tests}
use Rattle.std.proofs.Math.Nat.{mod-lt}
use Rattle.hs_disk.specs.Disk.{written, Torn}
use Rattle.redo_journal.specs.Bytes.{StandsAt}
use Rattle.redo_journal.specs.Gates.{TornFrom}
use Rattle.redo_journal.specs.Image.{Contents, area_alone}
use Rattle.redo_journal.specs.Journal.{Standing, IsOf, InDoubt}
use Rattle.redo_journal.specs.Root.{HasRoot, cell_number, cell_place, root_end, segment_place}
use Rattle.redo_journal.specs.Segment.{IsSegment}
use Rattle.redo_journal.specs.declared.root.Root.{Root}
use Rattle.redo_journal.proofs.FormLemmas.{cell_behind, form_kept_apart, form_places, form_root, form_selected, has_root_kept}
use Rattle.redo_journal.proofs.SegmentLemmas.{cell_holds, names_segment, turned}
use Rattle.redo_journal.proofs.StandLemmas.{Apart, kept, closed_kept, closed_within, stands_written, torn_written}

-- a journal with a root, and no byte in doubt
abbrev pub rooted : ℕ → ℕ → ℕ → Root → Standing
rooted gate first since root = record { gate = gate; first = first; since = since; root = Some root; doubt = None }

-- the other cell, with this place
abbrev pub other : Root → ℕ → Root
other root place = record { gate = root.gate; second = not root.second; live = place }

-- so many bytes at this place are behind the root, and apart from the live segment
pub record IsFree (gate : ℕ) (root : Root) (place n : ℕ) : Type 0 where
  pub behind : root_end root < place
  pub within : place ≤ gate + 1
  pub apart : (gate + 1 ≤ place) ⊎ (place + n ≤ root.live)

pub free_place : (gate : ℕ) (root : Root) (n place : ℕ) → root_end root < root.live → root.live < gate → place ≡ segment_place root gate n → IsFree gate root place n
free_place gate root n place behind past is = elim (cases_Bool (nat_le (root.gate + 27 + n) root.live)) [
  | inl fit ↦
      let at : place ≡ root.gate + 27 = is ∙ ap (λ (b : Bool). if b then root.gate + 27 else gate + 1) fit in
      let fits : root.gate + 27 + n ≤ root.live = grind (arith, nat_tests, fit) in
      record { behind = omega (arith, at); within = omega (arith, at, behind, past); apart = inr (omega (arith, at, fits)) }
  | inr none ↦
      let at : place ≡ gate + 1 = is ∙ ap (λ (b : Bool). if b then root.gate + 27 else gate + 1) none in
      record { behind = omega (arith, at, behind, past); within = omega (arith, at); apart = inl (omega (arith, at)) }
]

cells_apart : (gate : ℕ) (second : Bool) → Apart (cell_place gate (not second)) 8 (cell_place gate second) 8
cells_apart gate true = inr (omega arith)
cells_apart gate false = inl (omega arith)

-- an even byte names the first cell, an odd one the second
either_number : (byte : ℕ) (second : Bool) → (byte % 2 ≡ cell_number second) ⊎ (byte % 2 ≡ cell_number (not second))
either_number byte true = elim (cases_eq (byte % 2) 1) [
  | inl odd ↦ inl odd
  | inr even ↦ inr (omega (arith, mod-lt byte {m = 2} (omega arith), even))
]
either_number byte false = elim (cases_eq (byte % 2) 0) [
  | inl even ↦ inl even
  | inr odd ↦ inr (omega (arith, mod-lt byte {m = 2} (omega arith), odd))
]

pub own_number : (second : Bool) → cell_number second % 2 ≡ cell_number second
own_number true = omega arith
own_number false = omega arith

module _ (text : List ℕ) (contents : Contents) (gate first since : ℕ) (root : Root) where
  abbrev pub Is : List ℕ → Type 0
  Is = IsOf text contents (rooted gate first since root)

  pub places : (image : List ℕ) → Is image → (root_end root < root.live) × (root.live + 12 ≤ gate) × (gate < length image)
  places image is =
      let p = form_places text contents.first contents.payloads contents.area root gate image is.is.form in
      (p.0, p.1, closed_within gate image is.is.shut)

  -- a write behind the selector, apart from the cell that is named and from the segment
  pub free_kept : (at n : ℕ) (earlier image : List ℕ) → Torn at n earlier image → root.gate + 10 ≤ at → Apart at n (cell_place root.gate root.second) 8 → (gate + 1 ≤ at) ⊎ (at + n ≤ root.live) → Is earlier → Is image
  free_kept at n earlier image torn behind cell apart was = record {
    is = record {
      text_fits = was.is.text_fits;
      payloads_fit = was.is.payloads_fit;
      form = form_kept_apart at n earlier image torn text contents.first contents.payloads contents.area root gate behind cell (upto apart) was.is.form;
      shut = closed_kept at n gate earlier image torn (past apart) was.is.shut;
    };
    first = was.first;
    since = was.since;
  }
    where
      upto : (gate + 1 ≤ at) ⊎ (at + n ≤ root.live) → (gate ≤ at) ⊎ (at + n ≤ root.live)
      upto (inl le) = inl (omega (arith, le))
      upto (inr le) = inr le

      past : (gate + 1 ≤ at) ⊎ (at + n ≤ root.live) → Apart at n gate 1
      past (inl le) = inl le
      past (inr le) = inr (omega (arith, le, (places earlier was).1))

  pub segment_kept : (place n : ℕ) (earlier image : List ℕ) → IsFree gate root place n → Torn place n earlier image → Is earlier → Is image
  segment_kept place n earlier image free torn was =
      free_kept place n earlier image torn (omega (arith, free.behind)) (inl (omega (arith, free.behind, (cell_behind root.gate root.second).1))) free.apart was

  pub cell_kept : (earlier image : List ℕ) → Torn (cell_place root.gate (not root.second)) 8 earlier image → Is earlier → Is image
  cell_kept earlier image torn was =
      free_kept (cell_place root.gate (not root.second)) 8 earlier image torn (cell_behind root.gate (not root.second)).0 (cells_apart root.gate root.second) (inr (omega (arith, (cell_behind root.gate (not root.second)).1, (places earlier was).0))) was

  pub both_kept : (place n : ℕ) (images : List ℕ → Type 0) (image : List ℕ) → IsFree gate root place n → ((i : List ℕ) → images i → Is i) → TornFrom (cell_place root.gate (not root.second)) 8 (TornFrom place n images) image → Is image
  both_kept place n images image free was from =
      cell_kept from.earlier image from.torn (segment_kept place n from.was.earlier from.earlier free from.was.torn (was from.was.earlier from.was.was))

  -- both are written, and the selector isn't yet
  pub record Laid (bytes : List ℕ) (place : ℕ) (image : List ℕ) : Type 0 where
    pub of : Is image
    pub segment : StandsAt place bytes image
    pub cell : StandsAt (cell_place root.gate (not root.second)) (to_be_bytes w64 place) image

  pub laid : (bytes seen : List ℕ) (place : ℕ) → IsFree gate root place (length bytes) → Is seen → Laid bytes place (written (cell_place root.gate (not root.second)) (to_be_bytes w64 place) (written place bytes seen))
  laid bytes seen place free was = record {
    of = cell_kept mid image cell_torn (segment_kept place (length bytes) seen mid free torn was);
    segment = kept cell 8 place bytes mid image cell_torn (inr (omega (arith, (cell_behind root.gate (not root.second)).1, free.behind))) (stands_written place bytes seen within);
    cell = stands_written cell (to_be_bytes w64 place) mid cell_within;
  }
    where
      cell : ℕ
      cell = cell_place root.gate (not root.second)

      mid : List ℕ
      mid = written place bytes seen

      image : List ℕ
      image = written cell (to_be_bytes w64 place) mid

      within : place ≤ length seen
      within = omega (arith, free.within, (places seen was).2)

      torn : Torn place (length bytes) seen mid
      torn = torn_written place bytes seen within

      cell_within : cell ≤ length mid
      cell_within = omega (arith, (cell_behind root.gate (not root.second)).1, (places seen was).0, (places seen was).1, (places seen was).2, torn.no_shorter)

      cell_torn : Torn cell 8 mid image
      cell_torn = torn_written cell (to_be_bytes w64 place) mid cell_within

  module _ (number : ℕ) (area bytes : List ℕ) (place : ℕ) (image : List ℕ) (is : IsSegment number area bytes) (behind : root_end root < place) (fits : place < 2 ^ 64) (was : Laid bytes place image) (byte : ℕ) where
    abbrev pub now : List ℕ
    now = written (root.gate + 9) (byte ∷ []) image

    within : root.gate + 9 ≤ length image
    within = omega (arith, (places image was.of).0, (places image was.of).1, (places image was.of).2)

    torn : Torn (root.gate + 9) 1 image now
    torn = torn_written (root.gate + 9) (byte ∷ []) image within

    selector : StandsAt (root.gate + 9) (byte ∷ []) now
    selector = stands_written (root.gate + 9) (byte ∷ []) image within

    -- a selector that names the same cell
    pub stays_named : byte % 2 ≡ cell_number root.second → Is now
    stays_named same = record {
      is = record {
        text_fits = was.of.is.text_fits;
        payloads_fit = was.of.is.payloads_fit;
        form = form_selected text contents.first contents.payloads contents.area root gate image now torn (record { selector = byte; stands = selector; low_bit = same }) was.of.is.form;
        shut = closed_kept (root.gate + 9) 1 gate image now torn (inr (omega (arith, (places image was.of).0, (places image was.of).1))) was.of.is.shut;
      };
      first = was.of.first;
      since = was.of.since;
    }

    -- and one that names the other
    pub names_other : byte % 2 ≡ cell_number (not root.second) → IsOf text (area_alone number area) (turned (other root place) bytes) now
    names_other differs =
        names_segment text number area bytes (other root place) now was.of.is.text_fits is
        (record { before = has.before; before_fit = has.before_fit; none_is_root = has.none_is_root; gate_is = has.gate_is; stands = has.stands })
        (record { selector = byte; stands = selector; low_bit = differs })
        (cell_holds (other root place) now fits (kept (root.gate + 9) 1 (cell_place root.gate (not root.second)) (to_be_bytes w64 place) image now torn (inr (omega (arith, (cell_behind root.gate (not root.second)).0))) was.cell))
        behind
        (kept (root.gate + 9) 1 place bytes image now torn (inr (omega (arith, behind))) was.segment)
      where
        has : HasRoot text root now
        has = has_root_kept (root.gate + 9) 1 image now torn text root (omega arith) (form_root text contents.first contents.payloads contents.area root gate image was.of.is.form)

  -- so the selector is in doubt
  pub laid_doubt : (number : ℕ) (area bytes : List ℕ) (place : ℕ) (image : List ℕ) → IsSegment number area bytes → root_end root < place → place < 2 ^ 64 → Laid bytes place image → InDoubt text contents (area_alone number area) (rooted gate first since root) (record { place = root.gate + 9; byte = cell_number root.second }) image
  laid_doubt number area bytes place image is behind fits was = record {
    within = omega (arith, (places image was.of).0, (places image was.of).1, (places image was.of).2);
    either = λ byte. elim (either_number byte root.second) [
      | inl same ↦ inl (record { root = Some root; gate = gate; is = (stays_named number area bytes place image is behind fits was byte same).is })
      | inr differs ↦ inr (record { root = Some (other root place); gate = place + (length bytes - 1); is = (names_other number area bytes place image is behind fits was byte differs).is })
    ];
    back = stays_named number area bytes place image is behind fits was (cell_number root.second) (own_number root.second);
  }

pub as_rooted : (journal : Standing) (root : Root) → journal.root ≡ Some root → journal.doubt ≡ None → journal ≡ rooted journal.gate journal.first journal.since root
as_rooted journal root has quiet = λ i. record { gate = journal.gate; first = journal.first; since = journal.since; root = has i; doubt = quiet i }
