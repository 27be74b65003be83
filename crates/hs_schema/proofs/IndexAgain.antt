-- What an index spells is read again.
use Rattle.std.proofs.Common.{◌≡◌, ◌∙◌, ℕ, zero, suc, ◌+◌, ◌<◌, ◌≤◌, Bool, true, false, cond, not, ltb, eqb, List, [], ◌∷◌, ◌++◌, length, drop, map, Some, Ok, refl, sym, ap, subst, arith, codes, add-zero}
use Rattle.std.specs.Prelude.{slice_get, flat_map, nat_lt}
use Rattle.std.specs.Str.{bytes_eq}
use Rattle.std.specs.Char.{to_ascii_lowercase}
use Rattle.std.specs.List.{list_any, list_all, AllByRecursion}
use Rattle.std.proofs.lemmas.Bool.{ltb-true, le-ltb, eqb-true}
use Rattle.std.proofs.lemmas.Slice.Eq.{bytes_eq-Decides}
use Rattle.std.proofs.lemmas.List.{drop-drop, length-append, length-drop}
use mathlib.Core.List.{append_assoc, append-nil}
use Rattle.hs_token.specs.declared.tokens.Token.{Token}
use Rattle.hs_token.specs.declared.tokens.Token.TheVariants as tokens
use Rattle.row_types.specs.declared.columns.Column.{Column}
use Rattle.row_types.specs.declared.indexes.IndexKind.{IndexKind}
use Rattle.row_types.specs.declared.indexes.IndexKind.TheVariants.{Primary, Unique, Plain}
use Rattle.row_types.specs.declared.indexes.IndexDef.{IndexDef}
use Rattle.row_types.specs.Valid.{is_name_byte, is_name, same_but_case, same_column, same_index, are_distinct, is_primary, primary_name, IsColumn, IsIndex}
use Rattle.hs_schema.specs.Reading.{name_at, names_from, place_of, parts_of, index_kind_of, suits, fine_parts, index_place, has_index, index_name_at, index_kind_at, index_at, indexes_at}
use Rattle.hs_schema.specs.Spelling.{index_kind_text, name_in, names_text, index_tokens}
use Rattle.hs_schema.proofs.Cases.{and_true, or_false}
use Rattle.hs_schema.proofs.IndexSteps.{goes_on, indexes_end, indexes_more}
use Rattle.hs_schema.proofs.ColumnAgain.{get_from, new_at}

not_true : (b : Bool) → not b ≡ true → b ≡ false
not_true true e = absurd cc
not_true false e = refl

-- a name holds no comma
not_comma : (b : ℕ) → is_name_byte b ≡ true → eqb b 44 ≡ false
not_comma b e = go (eqb b 44) refl where
  go : (c : Bool) → eqb b 44 ≡ c → eqb b 44 ≡ false
  go true is = let no : is_name_byte 44 ≡ true = subst (λ n. is_name_byte n ≡ true) (eqb-true b 44 is) e in absurd cc
  go false is = is

names_last : (front name : List ℕ) → list_all is_name_byte name ≡ true → names_from front name ≡ (front ++ name) ∷ []
names_last front [] e = ap (λ n. n ∷ []) (sym (append-nil front))
names_last front (b ∷ bs) e =
    let parts = and_true (is_name_byte b) (list_all is_name_byte bs) e in
    rw (not_comma b parts.0, names_last (front ++ b ∷ []) bs parts.1, append_assoc front (b ∷ []) bs) refl

names_first : (front name more : List ℕ) → list_all is_name_byte name ≡ true → names_from front (name ++ 44 ∷ more) ≡ (front ++ name) ∷ names_from [] more
names_first front [] more e = ap (λ n. n ∷ names_from [] more) (sym (append-nil front))
names_first front (b ∷ bs) more e =
    let parts = and_true (is_name_byte b) (list_all is_name_byte bs) e in
    rw (not_comma b parts.0, names_first (front ++ b ∷ []) bs more parts.1, append_assoc front (b ∷ []) bs) refl

name_bytes : (name : List ℕ) → is_name name ≡ true → list_all is_name_byte name ≡ true
name_bytes name e = (and_true _ (list_all is_name_byte name) e).1

-- the column at a place
abbrev name_of : List Column → ℕ → List ℕ
name_of columns p = name_in (slice_get columns p)

name_fine : (columns : List Column) (p : ℕ) → AllByRecursion IsColumn columns → p < length columns → is_name (name_of columns p) ≡ true
name_fine [] p each lt = absurd (omega arith)
name_fine (c ∷ cs) zero each lt = each.0.name
name_fine (c ∷ cs) (suc p) each lt = name_fine cs p each.1 (omega arith)

other_name : (c : Column) (cs : List Column) (p : ℕ) → list_any (λ d. same_column d c) cs ≡ false → p < length cs → bytes_eq c.name (name_of cs p) ≡ false
other_name c [] p none lt = absurd (omega arith)
other_name c (d ∷ ds) zero none lt = go (bytes_eq c.name d.name) refl where
  go : (b : Bool) → bytes_eq c.name d.name ≡ b → bytes_eq c.name d.name ≡ false
  go true is =
      let equal : c.name ≡ d.name = (bytes_eq-Decides c.name d.name).0 is in
      let same : same_but_case d.name c.name ≡ true = (bytes_eq-Decides (map to_ascii_lowercase d.name) (map to_ascii_lowercase c.name)).1 (ap (map to_ascii_lowercase) (sym equal)) in
      let no : same_but_case d.name c.name ≡ false = (or_false (same_column d c) (list_any (λ d. same_column d c) ds) none).0 in
      let clash : true ≡ false = sym same ∙ no in
      absurd cc
  go false is = is
other_name c (d ∷ ds) (suc p) none lt = other_name c ds p (or_false (same_column d c) (list_any (λ d. same_column d c) ds) none).1 (omega arith)

place_again : (columns : List Column) (p : ℕ) → are_distinct same_column columns ≡ true → p < length columns → place_of columns (name_of columns p) ≡ p
place_again [] p distinct lt = absurd (omega arith)
place_again (c ∷ cs) zero distinct lt =
    let same : bytes_eq c.name c.name ≡ true = (bytes_eq-Decides c.name c.name).1 refl in
    rw same refl
place_again (c ∷ cs) (suc p) distinct lt =
    let d = and_true (not (list_any (λ d. same_column d c) cs)) (are_distinct same_column cs) distinct in
    let within : p < length cs = omega arith in
    let other : bytes_eq c.name (name_of cs p) ≡ false = other_name c cs p (not_true (list_any (λ d. same_column d c) cs) d.0) within in
    let again : place_of cs (name_of cs p) ≡ p = place_again cs p d.1 within in
    rw (other, again) (omega arith)

parts_again : (columns : List Column) (parts : List ℕ) → AllByRecursion IsColumn columns → are_distinct same_column columns ≡ true → 1 ≤ length parts → list_all (λ p. nat_lt p (length columns)) parts ≡ true → parts_of columns (names_text columns parts) ≡ parts
parts_again columns [] each distinct some within = absurd (omega arith)
parts_again columns (p ∷ []) each distinct some within =
    let lt : p < length columns = ltb-true p (length columns) (and_true (nat_lt p (length columns)) true within).0 in
    rw (names_last [] (name_of columns p) (name_bytes (name_of columns p) (name_fine columns p each lt)), place_again columns p distinct lt) refl
parts_again columns (p ∷ q ∷ ps) each distinct some within =
    let w = and_true (nat_lt p (length columns)) (list_all (λ p. nat_lt p (length columns)) (q ∷ ps)) within in
    let lt : p < length columns = ltb-true p (length columns) w.0 in
    let more : parts_of columns (names_text columns (q ∷ ps)) ≡ q ∷ ps = parts_again columns (q ∷ ps) each distinct (omega arith) w.1 in
    rw (names_first [] (name_of columns p) (names_text columns (q ∷ ps)) (name_bytes (name_of columns p) (name_fine columns p each lt)), place_again columns p distinct lt) (ap (λ ps. p ∷ ps) more)

parts_fine : (columns : List Column) (i : IndexDef) (place : ℕ) → IsIndex columns i → fine_parts columns i.kind place i.parts ≡ Ok i.parts
unfolding fine_parts
parts_fine columns i place is =
    let few : ltb 8 (length i.parts) ≡ false = le-ltb 8 (length i.parts) is.most_parts in
    rw (is.never_null, is.within, is.once, few) refl

kind_again : (kind : IndexKind) → index_kind_of (index_kind_text kind) ≡ Some kind
kind_again Primary = refl
kind_again Unique = refl
kind_again Plain = refl

suits_again : (kind : IndexKind) (name : List ℕ) → is_primary kind ≡ bytes_eq name primary_name → suits kind name ≡ true
suits_again kind name e = rw e (go (bytes_eq name primary_name)) where
  go : (b : Bool) → cond b b (not b) ≡ true
  go true = refl
  go false = refl

pub index_again : (columns : List Column) (before : List IndexDef) (i : IndexDef) (line rest : List Token) → drop (index_place columns before) line ≡ index_tokens columns i ++ rest → AllByRecursion IsColumn columns → are_distinct same_column columns ≡ true → IsIndex columns i → has_index before i.name ≡ false → index_at columns before line ≡ Ok i
unfolding index_at index_name_at index_kind_at name_at
index_again columns before i line rest e each distinct is new =
    let place = index_place columns before in
    let name : slice_get line (place + 1) ≡ Some (tokens.Text i.name) = get_from line place 1 ∙ ap (λ ts. slice_get ts 1) e in
    let kind : slice_get line (place + 2) ≡ Some (tokens.Text (index_kind_text i.kind)) = get_from line place 2 ∙ ap (λ ts. slice_get ts 2) e in
    let names : slice_get line (place + 3) ≡ Some (tokens.Text (names_text columns i.parts)) = get_from line place 3 ∙ ap (λ ts. slice_get ts 3) e in
    rw (name, is.name, new, kind, kind_again i.kind, suits_again i.kind i.name is.kind, names, parts_again columns i.parts each distinct is.some_part is.within, parts_fine columns i (place + 3) is) refl

on_at : (columns : List Column) (before : List IndexDef) (i : IndexDef) (line rest : List Token) → drop (index_place columns before) line ≡ index_tokens columns i ++ rest → (index_place columns before < length line) × (goes_on columns before line ≡ true)
on_at columns before i line rest e =
    let place = index_place columns before in
    let here : slice_get line place ≡ Some (tokens.Text (codes "i")) = ap (slice_get line) (sym (add-zero place)) ∙ (get_from line place 0 ∙ ap (λ ts. slice_get ts 0) e) in
    let long : length (drop place line) ≡ 4 + length rest = ap length e ∙ omega arith in
    (omega (arith, long, length-drop place line), rw here refl)

next_index : (columns : List Column) (before : List IndexDef) (i : IndexDef) (line more : List Token) → drop (index_place columns before) line ≡ index_tokens columns i ++ more → drop (index_place columns (before ++ i ∷ [])) line ≡ more
next_index columns before i line more e =
    let four : index_place columns (before ++ i ∷ []) ≡ index_place columns before + 4 = omega (arith, length-append before (i ∷ [])) in
    rw (four, ← drop-drop 4 (index_place columns before) line, e) refl

pub indexes_again : (room : ℕ) (columns : List Column) (before is : List IndexDef) (line : List Token) → drop (index_place columns before) line ≡ flat_map (index_tokens columns) is → length is ≤ room → AllByRecursion IsColumn columns → are_distinct same_column columns ≡ true → AllByRecursion (IsIndex columns) is → are_distinct same_index (before ++ is) ≡ true → indexes_at room columns before line ≡ Ok (before ++ is)
indexes_again room columns before [] line e le each distinct all names =
    let done : length line ≤ index_place columns before = omega (arith, length-drop (index_place columns before) line, ap length e) in
    indexes_end room columns before line done ∙ ap (λ (is : List IndexDef). Ok is) (sym (append-nil before))
indexes_again zero columns before (i ∷ is) line e le each distinct all names = absurd (omega arith)
indexes_again (suc room) columns before (i ∷ is) line e le each distinct all names =
    let whole : drop (index_place columns before) line ≡ index_tokens columns i ++ flat_map (index_tokens columns) is = e in
    let grown : (before ++ i ∷ []) ++ is ≡ before ++ i ∷ is = append_assoc before (i ∷ []) is in
    let read : index_at columns before line ≡ Ok i = index_again columns before i line (flat_map (index_tokens columns) is) whole each distinct all.0 (new_at same_index before i is names) in
    let on = on_at columns before i line (flat_map (index_tokens columns) is) whole in
    let more = indexes_again room columns (before ++ i ∷ []) is line (next_index columns before i line (flat_map (index_tokens columns) is) whole) (omega arith) each distinct all.1 (rw grown names) in
    indexes_more room columns before line on.0 on.1 ∙ (rw read (more ∙ ap (λ (is : List IndexDef). Ok is) grown))
