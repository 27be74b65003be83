-- What a root and the head of a segment are read from.
use Rattle.std.proofs.Common.{◌≡◌, inl, inr, ℕ, zero, suc, ◌+◌, ◌-◌, ◌<◌, ◌≤◌, ◌^◌, Bool, List, length, get_or, take, drop, refl, sym, ◌∙◌, ap, subst, arith, length-drop}
use Rattle.std.specs.Prelude.{◌%◌, nat_eq}
use Rattle.std.specs.Int.{w64, to_be_bytes, from_be_bytes}
use Rattle.std.proofs.lemmas.Bool.{cases_lt}
use Rattle.std.proofs.lemmas.List.{length-take-le, get_or-take, get_or-drop, get_or_past}
use Rattle.std.proofs.lemmas.Nat.{be_bytes_8}
use Rattle.std.proofs.Math.Nat.{mod-lt}
use Rattle.redo_journal.specs.Bytes.{StandsAt, counted, length_of, segment_head}
use Rattle.redo_journal.specs.Reading.{IsRootAt, EndsAt, ReadsRoot, ReadsHead}
use Rattle.redo_journal.specs.Root.{cell_number, cell_place, root_end}
use Rattle.redo_journal.specs.declared.root.Root.{Root}
use Rattle.redo_journal.proofs.FormLemmas.{cell_behind, length-segment_head}
use Rattle.redo_journal.proofs.ImageLemmas.{ReadsText, reads_text}
use Rattle.redo_journal.proofs.StandLemmas.{byte_stands, stands_join}

small : (n : ℕ) → n < 2 → n ≡ cell_number (nat_eq n 1)
small zero lt = refl
small (suc zero) lt = refl
small (suc (suc n)) lt = absurd (omega (arith, lt))

-- bytes that are there stand there
taken : (place n : ℕ) (image : List ℕ) → place + n ≤ length image → length (take n (drop place image)) ≡ n
taken place n image within = length-take-le n (drop place image) (omega (arith, within, length-drop place image))

pub reads_root : (image : List ℕ) (gate live : ℕ) (second : Bool) → gate + 26 < length image → second ≡ nat_eq (get_or image (gate + 9) 0 % 2) 1 → live ≡ from_be_bytes w64 (take 8 (drop (cell_place gate second) image)) → ReadsRoot image gate (record { gate = gate; second = second; live = live })
reads_root image gate live second within is holds = record {
  gate_is = refl;
  selects = record {
    selector = get_or image (gate + 9) 0;
    stands = byte_stands (gate + 9) image (omega (arith, within));
    low_bit = small (get_or image (gate + 9) 0 % 2) (mod-lt (get_or image (gate + 9) 0) {m = 2} (omega arith)) ∙ ap cell_number (sym is);
  };
  has_cell = record {
    cell = cell;
    size = size;
    stands = ap (λ (n : ℕ). take n (drop (cell_place gate second) image)) size;
    holds = sym holds;
  };
}
  where
    cell : List ℕ
    cell = take 8 (drop (cell_place gate second) image)

    size : length cell ≡ 8
    size = taken (cell_place gate second) 8 image (omega (arith, within, (cell_behind gate second).1))

-- a number is read from eight bytes
pub number_stands_at : (image : List ℕ) (at n : ℕ) → ((i : ℕ) → get_or image i 0 < 256) → at + 8 ≤ length image → n ≡ from_be_bytes w64 (take 8 (drop at image)) → StandsAt at (to_be_bytes w64 n) image
number_stands_at image at n bytes within is = sym (be_bytes_8 eight n size in_range is)
  where
    eight : List ℕ
    eight = take 8 (drop at image)

    size : length eight ≡ 8
    size = taken at 8 image within

    in_range : (i : ℕ) → get_or eight i 0 < 256
    in_range i = elim (cases_lt i 8) [
      | inl below ↦ subst (λ (m : ℕ). m < 256) (sym (get_or-take 8 (drop at image) i 0 below ∙ get_or-drop at image i 0)) (bytes (at + i))
      | inr past ↦ subst (λ (m : ℕ). m < 256) (sym (get_or_past eight i 0 (omega (arith, size, past)))) (omega arith)
    ]

pub reads_head : (image : List ℕ) (root : Root) (first : ℕ) (area : List ℕ) (end : ℕ) → ((i : ℕ) → get_or image i 0 < 256) → root_end root < root.live → first < 2 ^ 64 → first ≡ from_be_bytes w64 (take 8 (drop root.live image)) → end ≡ root.live + 8 + 4 + length_of (drop (root.live + 8) image) → end < length image → length_of (drop (root.live + 8) image) < 2 ^ 32 → area ≡ take (end - (root.live + 8 + 4)) (drop (root.live + 8 + 4) image) → ReadsHead image root (record { first = first; area = area; end = end })
unfolding segment_head
reads_head image root first area end bytes behind fits number ends within small_length area_is = record {
  behind = behind;
  first_fits = fits;
  area_fits = read.fits;
  stands = stands_join root.live (to_be_bytes w64 first) (counted area) image (number_stands_at image root.live first bytes (omega (arith, within, ends)) number) read.stands;
  end_is = omega (arith, read.next_is, length-segment_head first area);
  within = within;
}
  where
    read : ReadsText image (root.live + 8) end area
    read = reads_text image (root.live + 8) end area bytes ends within small_length area_is

pub ends_root : (gate : ℕ) (image : List ℕ) → EndsAt gate image → get_or image gate 0 ≡ 1 → IsRootAt gate image
ends_root gate image (inl shut) is_open = absurd (shut is_open)
ends_root gate image (inr root) is_open = root
