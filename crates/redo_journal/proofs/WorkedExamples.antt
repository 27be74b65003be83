-- Worked examples of a journal's bytes.
use Rattle.std.proofs.Common.{◌≡◌, ℕ, false, List, [], ◌∷◌, refl, arith}
use Rattle.std.specs.Prelude.{None, Some}
use Rattle.redo_journal.specs.Bytes.{records_of, counted, segment_head, length_of, IsCutShort}
use Rattle.redo_journal.specs.Image.{IsFresh, Journals, area_alone, nothing}
use Rattle.redo_journal.specs.Segment.{IsSegment}

pub new_journal : Journals [] nothing (1 ∷ 72 ∷ 83 ∷ 74 ∷ 82 ∷ 78 ∷ 76 ∷ 48 ∷ 49 ∷ 0 ∷ 0 ∷ 0 ∷ 0 ∷ 0 ∷ [])
unfolding counted
new_journal = record {
  root = None;
  gate = 13;
  is = record {
    text_fits = omega arith;
    payloads_fit = tt;
    form = (refl, record { none_is_root = tt; stands = refl; gate_is = refl });
    shut = record { gate = 0; stands = refl; closed = omega arith };
  };
}

pub one_record : records_of ((7 ∷ 8 ∷ []) ∷ []) ≡ 1 ∷ 0 ∷ 0 ∷ 0 ∷ 2 ∷ 7 ∷ 8 ∷ []
unfolding counted
one_record = refl

-- a segment for no record, with an area of four bytes

abbrev pub empty_segment : List ℕ
empty_segment = 0 ∷ 0 ∷ 0 ∷ 0 ∷ 0 ∷ 0 ∷ 0 ∷ 0 ∷ 0 ∷ 0 ∷ 0 ∷ 4 ∷ 0 ∷ 0 ∷ 0 ∷ 0 ∷ 0 ∷ []

pub segment : IsSegment 0 (0 ∷ 0 ∷ 0 ∷ 0 ∷ []) empty_segment
unfolding segment_head counted
segment = record { number_fits = omega arith; area_fits = omega arith; is = refl }

-- one for two records
pub second_segment : IsSegment 2 (7 ∷ 8 ∷ []) (0 ∷ 0 ∷ 0 ∷ 0 ∷ 0 ∷ 0 ∷ 0 ∷ 2 ∷ 0 ∷ 0 ∷ 0 ∷ 2 ∷ 7 ∷ 8 ∷ 0 ∷ [])
unfolding segment_head counted
second_segment = record { number_fits = omega arith; area_fits = omega arith; is = refl }

-- with a root
pub with_a_root : Journals [] (area_alone 0 (0 ∷ 0 ∷ 0 ∷ 0 ∷ [])) (1 ∷ 72 ∷ 83 ∷ 74 ∷ 82 ∷ 78 ∷ 76 ∷ 48 ∷ 49 ∷ 0 ∷ 0 ∷ 0 ∷ 0 ∷ 1 ∷ 0 ∷ 0 ∷ 0 ∷ 21 ∷ 255 ∷ 255 ∷ 255 ∷ 255 ∷ 0 ∷ 0 ∷ 0 ∷ 0 ∷ 0 ∷ 0 ∷ 0 ∷ 0 ∷ 40 ∷ 0 ∷ 0 ∷ 0 ∷ 0 ∷ 0 ∷ 0 ∷ 0 ∷ 40 ∷ 0 ∷ 0 ∷ 0 ∷ 0 ∷ 0 ∷ 0 ∷ 0 ∷ 0 ∷ 0 ∷ 0 ∷ 0 ∷ 0 ∷ 4 ∷ 0 ∷ 0 ∷ 0 ∷ 0 ∷ 0 ∷ [])
unfolding segment_head counted
with_a_root = record {
  root = Some (record { gate = 13; second = false; live = 40 });
  gate = 56;
  is = record {
    text_fits = omega arith;
    payloads_fit = tt;
    form = (
      omega arith,
      record { selector = 0; stands = refl; low_bit = refl },
      record {
        has_root = record { before = []; before_fit = tt; none_is_root = tt; gate_is = refl; stands = refl };
        has_cell = record { cell = 0 ∷ 0 ∷ 0 ∷ 0 ∷ 0 ∷ 0 ∷ 0 ∷ 40 ∷ []; size = refl; stands = refl; holds = refl };
        behind = omega arith;
        segment = record { first_fits = omega arith; area_fits = omega arith; stands = refl; gate_is = refl };
      },
    );
    shut = record { gate = 0; stands = refl; closed = omega arith };
  };
}

pub no_gate_behind : IsCutShort (0 ∷ 0 ∷ 0 ∷ 2 ∷ 7 ∷ 8 ∷ [])
unfolding length_of
no_gate_behind = omega arith

pub gate_behind : IsCutShort (0 ∷ 0 ∷ 0 ∷ 2 ∷ 7 ∷ 8 ∷ 9 ∷ []) → ⊥
unfolding length_of
gate_behind cut = omega (arith, cut)

pub closed_header : IsFresh (0 ∷ 72 ∷ [])
closed_header = omega arith

pub open_header : IsFresh (1 ∷ 72 ∷ []) → ⊥
open_header fresh = fresh refl
