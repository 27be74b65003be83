-- What stands between neighbours stands before each but the first.
use Rattle.std.proofs.Common.{◌≡◌, ◌∙◌, ℕ, ◌-◌, ◌≤◌, List, [], ◌∷◌, ◌++◌, length, take, drop, get_or, Ok, Err, sym, ap, arith}
use Rattle.std.specs.Prelude.{Result, OnOk, flat_map, slice_get}
use Rattle.std.proofs.lemmas.List.{take_all}
use mathlib.Core.List.{append_assoc, append-nil}
use Rattle.row_types.specs.declared.columns.Column.{Column}
use Rattle.hs_schema.specs.Spelling.{name_in, names_text}

-- a name behind its comma
abbrev pub behind_comma : List Column → ℕ → List ℕ
behind_comma columns p = 44 ∷ name_in (slice_get columns p)

pub names_whole : (columns : List Column) (p : ℕ) (ps : List ℕ) → names_text columns (p ∷ ps) ≡ name_in (slice_get columns p) ++ flat_map (behind_comma columns) ps
names_whole columns p [] = sym (append-nil (name_in (slice_get columns p)))
names_whole columns p (q ∷ ps) = ap (λ more. name_in (slice_get columns p) ++ 44 ∷ more) (names_whole columns q ps)

-- the rest of a list as the code takes it
rest_is : {A : Type 0} (x : A) (xs : List A) → take (length (x ∷ xs) - 1) (drop 1 (x ∷ xs)) ≡ xs
rest_is x xs =
    let one : length (x ∷ xs) - 1 ≡ length xs = omega arith in
    rw one (take_all (length xs) xs (omega arith))

names_parts : (columns : List Column) (ps : List ℕ) → 1 ≤ length ps → names_text columns ps ≡ name_in (slice_get columns (get_or ps 0 0)) ++ flat_map (behind_comma columns) (take (length ps - 1) (drop 1 ps))
names_parts columns [] some = absurd (omega arith)
names_parts columns (q ∷ qs) some = rw (rest_is q qs) (names_whole columns q qs)

on_ok : {A E : Type 0} (r : Result A E) (P Q : Type 0) → (P → Q) → OnOk r P → OnOk r Q
on_ok (Ok x) P Q f p = f p
on_ok (Err e) P Q f p = tt

pub names_written : {A E : Type 0} (r : Result A E) (columns : List Column) (ps : List ℕ) (old mid new : List ℕ) → 1 ≤ length ps → mid ≡ old ++ name_in (slice_get columns (get_or ps 0 0)) → OnOk r (new ≡ mid ++ flat_map (behind_comma columns) (take (length ps - 1) (drop 1 ps))) → OnOk r (new ≡ old ++ names_text columns ps)
names_written r columns ps old mid new some first = on_ok r _ _ (λ rest.
    rest ∙ (rw first (append_assoc old (name_in (slice_get columns (get_or ps 0 0))) (flat_map (behind_comma columns) (take (length ps - 1) (drop 1 ps))) ∙ ap (λ bytes. old ++ bytes) (sym (names_parts columns ps some)))))
