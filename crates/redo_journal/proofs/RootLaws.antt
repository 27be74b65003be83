-- An image has one root, and one segment where it says.
use Rattle.std.proofs.Common.{◌≡◌, ℕ, ◌+◌, ◌<◌, ◌≤◌, Bool, true, false, List, [], ◌∷◌, length, drop, refl, sym, ◌∙◌, ap, subst, arith, length-append}
use Rattle.std.specs.Prelude.{◌%◌}
use Rattle.std.specs.List.{AllByRecursion}
use Rattle.std.specs.Int.{w64, to_be_bytes, from_be_bytes}
use Rattle.std.proofs.lemmas.Nat.{from_be_bytes-to_be_bytes_8}
use Rattle.redo_journal.specs.Bytes.{FitsLength, StandsAt, IsCutShort, counted, front, heading, records_of, segment_head}
use Rattle.redo_journal.specs.Image.{IsSegmentAt}
use Rattle.redo_journal.specs.Reading.{RunFrom, IsRootAt}
use Rattle.redo_journal.specs.Root.{IsRoot, NoneIsRoot, HasRoot, HasCell, Selects, cell_number, cell_place, root_mark, root_end}
use Rattle.redo_journal.specs.declared.root.Root.{Root}
use Rattle.redo_journal.proofs.FormLemmas.{length-segment_head}
use Rattle.redo_journal.proofs.OpenLemmas.{Any, all_any}
use Rattle.redo_journal.proofs.RunLemmas.{Blocks, one_run, same_gate, same_counted, counted_not_cut}
use Rattle.redo_journal.proofs.StandLemmas.{same_byte, same_bytes, stands_split}

-- behind a whole header, whole records that are no roots stand up to this gate
pub record FirstRun (text : List ℕ) (payloads : List (List ℕ)) (gate : ℕ) (image : List ℕ) : Type 0 where
  pub text_fits : FitsLength text
  pub header : StandsAt 0 (1 ∷ heading text) image
  pub none_is_root : NoneIsRoot payloads
  pub run : RunFrom image (length (1 ∷ heading text)) payloads gate

pub first_run : (text : List ℕ) (payloads : List (List ℕ)) (gate : ℕ) (image : List ℕ) → FitsLength text → AllByRecursion FitsLength payloads → NoneIsRoot payloads → StandsAt 0 (front text payloads) image → gate ≡ length (front text payloads) → gate < length image → FirstRun text payloads gate image
first_run text payloads gate image text_fits fit none stands gate_is within = record {
  text_fits = text_fits;
  header = parts.0;
  none_is_root = none;
  run = record {
    fit = fit;
    stand = subst (λ (place : ℕ). StandsAt place (records_of payloads) image) behind parts.1;
    gate_is = omega (arith, gate_is, length-append (1 ∷ heading text) (records_of payloads));
    within = within;
  };
}
  where
    behind : 0 + length (1 ∷ heading text) ≡ length (1 ∷ heading text)
    behind = omega arith

    parts : StandsAt 0 (1 ∷ heading text) image × StandsAt (0 + length (1 ∷ heading text)) (records_of payloads) image
    parts = stands_split 0 (1 ∷ heading text) (records_of payloads) image stands

-- such a run is one
pub one_first : (text : List ℕ) (ps qs : List (List ℕ)) (g h : ℕ) (image : List ℕ) → FirstRun text ps g image → Blocks (λ p. IsRoot p → ⊥) g image → FirstRun text qs h image → Blocks (λ p. IsRoot p → ⊥) h image → (ps ≡ qs) × (g ≡ h)
one_first text ps qs g h image one blocks other blocks' =
    let same = one_run (λ p. IsRoot p → ⊥) image (length (1 ∷ heading text)) g h ps qs one.run one.none_is_root blocks other.run other.none_is_root blocks' in
    (same, same_gate image (length (1 ∷ heading text)) g h ps qs one.run other.run same)

-- up to a root
pub root_run : (text : List ℕ) (root : Root) (image : List ℕ) → FitsLength text → (has : HasRoot text root image) → root_end root < length image → FirstRun text has.before root.gate image × IsRootAt root.gate image
root_run text root image fits has whole = (
  first_run text has.before root.gate image fits has.before_fit has.none_is_root parts.0 has.gate_is (omega (arith, whole)),
  record { stands = subst (λ (place : ℕ). StandsAt place root_mark image) (omega (arith, has.gate_is)) parts.1; whole = whole },
)
  where
    parts : StandsAt 0 (front text has.before) image × StandsAt (0 + length (front text has.before)) root_mark image
    parts = stands_split 0 (front text has.before) root_mark image has.stands

same_number : (second other : Bool) → cell_number second ≡ cell_number other → second ≡ other
same_number true true is = refl
same_number true false is = absurd (omega (arith, is))
same_number false true is = absurd (omega (arith, is))
same_number false false is = refl

-- a root with its cell is one
pub one_root : (image : List ℕ) (root other : Root) → root.gate ≡ other.gate → Selects root image → Selects other image → HasCell root image → HasCell other image → root ≡ other
one_root image root other gate selects selects' cell cell' =
    λ i. record { gate = gate i; second = second i; live = live i }
  where
    selector : selects.selector ≡ selects'.selector
    selector = same_byte (root.gate + 9) selects.selector selects'.selector image selects.stands (subst (λ (g : ℕ). StandsAt (g + 9) (selects'.selector ∷ []) image) (sym gate) selects'.stands)

    second : root.second ≡ other.second
    second = same_number root.second other.second (sym selects.low_bit ∙ ap (λ (s : ℕ). s % 2) selector ∙ selects'.low_bit)

    place : cell_place other.gate other.second ≡ cell_place root.gate root.second
    place = λ i. cell_place (sym gate i) (sym second i)

    bytes : cell.cell ≡ cell'.cell
    bytes = same_bytes (cell_place root.gate root.second) cell.cell cell'.cell image (cell.size ∙ sym cell'.size) cell.stands (subst (λ (p : ℕ). StandsAt p cell'.cell image) place cell'.stands)

    live : root.live ≡ other.live
    live = sym cell.holds ∙ ap (from_be_bytes w64) bytes ∙ cell'.holds

-- the parts of a segment
module _ (place first : ℕ) (area : List ℕ) (payloads : List (List ℕ)) (gate : ℕ) (image : List ℕ) (is : IsSegmentAt place first area payloads gate image) where
  parts : StandsAt place (segment_head first area) image × StandsAt (place + length (segment_head first area)) (records_of payloads) image
  parts = stands_split place (segment_head first area) (records_of payloads) image is.stands

  head : StandsAt place (to_be_bytes w64 first) image × StandsAt (place + 8) (counted area) image
  unfolding segment_head
  head = stands_split place (to_be_bytes w64 first) (counted area) image parts.0

  pub number_stands : StandsAt place (to_be_bytes w64 first) image
  number_stands = head.0

  pub area_stands : StandsAt (place + 8) (counted area) image
  area_stands = head.1

  pub records_run : AllByRecursion FitsLength payloads → gate < length image → RunFrom image (place + (12 + length area)) payloads gate
  records_run fit within = record {
    fit = fit;
    stand = subst (λ (p : ℕ). StandsAt p (records_of payloads) image) (omega (arith, length-segment_head first area)) parts.1;
    gate_is = omega (arith, is.gate_is, length-append (segment_head first area) (records_of payloads), length-segment_head first area);
    within = within;
  }

  pub far : place + (12 + length area) ≤ gate
  far = omega (arith, is.gate_is, length-append (segment_head first area) (records_of payloads), length-segment_head first area)

-- a segment at a place is one
pub one_segment : (place first other : ℕ) (area area' : List ℕ) (ps qs : List (List ℕ)) (g h : ℕ) (image : List ℕ) → IsSegmentAt place first area ps g image → AllByRecursion FitsLength ps → g < length image → Blocks Any g image → IsSegmentAt place other area' qs h image → AllByRecursion FitsLength qs → h < length image → Blocks Any h image → (first ≡ other) × (area ≡ area') × (ps ≡ qs) × (g ≡ h)
one_segment place first other area area' ps qs g h image is fit within blocks is' fit' within' blocks' =
    (number, same_area, records, same_gate image (place + (12 + length area)) g h ps qs run run' records)
  where
    number : first ≡ other
    number =
        sym (from_be_bytes-to_be_bytes_8 first is.first_fits)
        ∙ ap (from_be_bytes w64) (same_bytes place (to_be_bytes w64 first) (to_be_bytes w64 other) image refl (number_stands place first area ps g image is) (number_stands place other area' qs h image is'))
        ∙ from_be_bytes-to_be_bytes_8 other is'.first_fits

    same_area : area ≡ area'
    same_area = same_counted (place + 8) area area' image is.area_fits is'.area_fits (area_stands place first area ps g image is) (area_stands place other area' qs h image is')

    run : RunFrom image (place + (12 + length area)) ps g
    run = records_run place first area ps g image is fit within

    run' : RunFrom image (place + (12 + length area)) qs h
    run' = subst (λ (l : List ℕ). RunFrom image (place + (12 + length l)) qs h) (sym same_area) (records_run place other area' qs h image is' fit' within')

    records : ps ≡ qs
    records = one_run Any image (place + (12 + length area)) g h ps qs run (all_any ps) blocks run' (all_any qs) blocks'

-- and a whole one isn't cut short
pub segment_not_cut : (place first : ℕ) (area : List ℕ) (payloads : List (List ℕ)) (gate : ℕ) (image : List ℕ) → IsSegmentAt place first area payloads gate image → gate < length image → IsCutShort (drop (place + 8) image) → ⊥
segment_not_cut place first area payloads gate image is within cut =
    counted_not_cut (place + 8) area image is.area_fits (area_stands place first area payloads gate image is) (omega (arith, within, far place first area payloads gate image is)) cut
