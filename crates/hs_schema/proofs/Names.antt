-- One byte more of a list of names.
use Rattle.std.proofs.Common.{◌≡◌, ◌≢◌, ◌∙◌, ℕ, ◌+◌, ◌-◌, ◌<◌, ◌≤◌, List, [], ◌∷◌, ◌++◌, length, take, drop, get_or, map, refl, sym, ap, arith, eq-eqb}
use Rattle.std.specs.Prelude.{slice_range}
use Rattle.std.proofs.lemmas.Bool.{ne_eqb}
use Rattle.std.proofs.lemmas.List.{at_drop_more, take_more, get_or-drop, length-drop}
use mathlib.Core.List.{append_assoc}
use Rattle.row_types.specs.declared.columns.Column.{Column}
use Rattle.hs_schema.specs.Reading.{names_from, place_of}

at_comma : (name text : List ℕ) (i : ℕ) → i < length text → get_or text i 0 ≡ 44 → names_from name (drop i text) ≡ name ∷ names_from [] (drop (i + 1) text)
at_comma name text i lt e = at_drop_more (names_from name) text i 0 lt ∙ rw (eq-eqb (get_or text i 0) 44 e) refl

at_other : (name text : List ℕ) (i : ℕ) → i < length text → get_or text i 0 ≢ 44 → names_from name (drop i text) ≡ names_from (name ++ get_or text i 0 ∷ []) (drop (i + 1) text)
at_other name text i lt e = at_drop_more (names_from name) text i 0 lt ∙ rw (ne_eqb (get_or text i 0) 44 e) refl

range_more : (text : List ℕ) (start end : ℕ) → start ≤ end → end < length text → slice_range text start (end + 1) ≡ slice_range text start end ++ get_or text end 0 ∷ []
range_more text start end order lt =
    let one : end + 1 - start ≡ end - start + 1 = omega arith in
    let back : start + (end - start) ≡ end = omega arith in
    let within : end - start < length (drop start text) = omega (arith, length-drop start text) in
    rw one (take_more (drop start text) (end - start) 0 within ∙ ap (λ b. take (end - start) (drop start text) ++ b ∷ []) (get_or-drop start text (end - start) 0 ∙ ap (λ k. get_or text k 0) back))

-- the places read so far, and those of the names from here on
abbrev pub all_from : List Column → List ℕ → List ℕ → ℕ → ℕ → List ℕ
all_from columns text parts start end = parts ++ map (place_of columns) (names_from (slice_range text start end) (drop end text))

pub comma_step : (columns : List Column) (text parts new : List ℕ) (start end p : ℕ) → end < length text → get_or text end 0 ≡ 44 → p ≡ place_of columns (slice_range text start end) → new ≡ parts ++ p ∷ [] → all_from columns text new (end + 1) (end + 1) ≡ all_from columns text parts start end
comma_step columns text parts new start end p lt e is pushed =
    let none : end + 1 - (end + 1) ≡ 0 = omega arith in
    let name = slice_range text start end in
    let rest = names_from [] (drop (end + 1) text) in
    rw (none, pushed, is) (append_assoc parts (place_of columns name ∷ []) (map (place_of columns) rest) ∙ sym (ap (λ names. parts ++ map (place_of columns) names) (at_comma name text end lt e)))

pub other_step : (columns : List Column) (text parts : List ℕ) (start end : ℕ) → start ≤ end → end < length text → get_or text end 0 ≢ 44 → all_from columns text parts start (end + 1) ≡ all_from columns text parts start end
other_step columns text parts start end order lt e =
    ap (λ names. parts ++ map (place_of columns) names) (ap (λ name. names_from name (drop (end + 1) text)) (range_more text start end order lt) ∙ sym (at_other (slice_range text start end) text end lt e))
