-- A segment that is handed in, and what it makes of an image.
use Rattle.std.proofs.Common.{◌≡◌, ℕ, ◌+◌, ◌-◌, ◌^◌, ◌<◌, List, [], ◌∷◌, ◌++◌, length, take, drop, refl, sym, ◌∙◌, ap, subst, arith, append_assoc, length-append}
use Rattle.std.specs.Prelude.{None, Some}
use Rattle.std.specs.Int.{w64, to_be_bytes, from_be_bytes}
use Rattle.std.proofs.lemmas.List.{append-nil, drop_at, take_at}
use Rattle.std.proofs.lemmas.Nat.{from_be_bytes-to_be_bytes_8}
use Rattle.redo_journal.specs.Bytes.{FitsLength, StandsAt, counted, segment_head}
use Rattle.redo_journal.specs.Image.{area_alone}
use Rattle.redo_journal.specs.Journal.{Standing, IsOf}
use Rattle.redo_journal.specs.Root.{HasCell, HasRoot, Selects, cell_place, root_end}
use Rattle.redo_journal.specs.Segment.{IsSegment, number_of}
use Rattle.redo_journal.specs.declared.root.Root.{Root}
use Rattle.redo_journal.proofs.FormLemmas.{length-segment_head}
use Rattle.redo_journal.proofs.StandLemmas.{stands_split}

pub number_of_segment : (number : ℕ) (area bytes : List ℕ) → IsSegment number area bytes → number_of bytes ≡ number
unfolding number_of segment_head
number_of_segment number area bytes is =
    ap (λ (l : List ℕ). from_be_bytes w64 (take 8 l)) (is.is ∙ append_assoc (to_be_bytes w64 number) (counted area) (0 ∷ []))
    ∙ ap (from_be_bytes w64) (take_at (to_be_bytes w64 number) (counted area ++ 0 ∷ []) 8 refl)
    ∙ from_be_bytes-to_be_bytes_8 number is.number_fits

pub number_read : (bytes : List ℕ) → from_be_bytes w64 (take 8 (drop 0 bytes)) ≡ number_of bytes
unfolding number_of
number_read bytes = ap (λ (l : List ℕ). from_be_bytes w64 (take 8 l)) (drop_at [] bytes 0 refl)

pub length-segment : (number : ℕ) (area bytes : List ℕ) → IsSegment number area bytes → length bytes ≡ 13 + length area
length-segment number area bytes is =
    omega (arith, ap length is.is, length-append (segment_head number area) (0 ∷ []), length-segment_head number area)

-- the cell that was written holds the place
pub cell_holds : (root : Root) (image : List ℕ) → root.live < 2 ^ 64 → StandsAt (cell_place root.gate root.second) (to_be_bytes w64 root.live) image → HasCell root image
cell_holds root image fits stands = record {
  cell = to_be_bytes w64 root.live;
  size = refl;
  stands = stands;
  holds = from_be_bytes-to_be_bytes_8 root.live fits;
}

-- a journal behind a segment that was just written
abbrev pub turned : Root → List ℕ → Standing
turned root bytes = record {
  gate = root.live + (length bytes - 1);
  first = number_of bytes;
  since = 0;
  root = Some root;
  doubt = None;
}

-- an image whose root names a segment that was just written
pub names_segment : (text : List ℕ) (number : ℕ) (area bytes : List ℕ) (root : Root) (image : List ℕ) → FitsLength text → IsSegment number area bytes → HasRoot text root image → Selects root image → HasCell root image → root_end root < root.live → StandsAt root.live bytes image → IsOf text (area_alone number area) (turned root bytes) image
names_segment text number area bytes root image text_fits is has_root selects has_cell behind stands = record {
  is = record {
    text_fits = text_fits;
    payloads_fit = tt;
    form = (
      omega (arith, is.number_fits),
      selects,
      record {
        has_root = has_root;
        has_cell = has_cell;
        behind = behind;
        segment = record {
          first_fits = is.number_fits;
          area_fits = is.area_fits;
          stands = subst (λ (l : List ℕ). StandsAt root.live l image) (sym (append-nil (segment_head number area))) parts.0;
          gate_is = omega (arith, size, length-segment_head number area, ap length (append-nil (segment_head number area)));
        };
      },
    );
    shut = record {
      gate = 0;
      stands = subst (λ (g : ℕ). StandsAt g (0 ∷ []) image) (omega (arith, size, length-segment_head number area)) parts.1;
      closed = omega arith;
    };
  };
  first = number_of_segment number area bytes is;
  since = refl;
}
  where
    size : length bytes ≡ 13 + length area
    size = length-segment number area bytes is

    parts : StandsAt root.live (segment_head number area) image × StandsAt (root.live + length (segment_head number area)) (0 ∷ []) image
    parts = stands_split root.live (segment_head number area) (0 ∷ []) image (subst (λ (l : List ℕ). StandsAt root.live l image) is.is stands)
