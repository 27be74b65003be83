-- Whole lines that are taken one after another.
use Rattle.std.proofs.Common.{◌≡◌, ℕ, suc, ◌+◌, ◌-◌, ◌<◌, ◌≤◌, false, List, [], ◌∷◌, ◌++◌, length, take, drop, sym, ap, subst, ◌∙◌, arith, append_assoc, length-append}
use Rattle.std.specs.List.{AllByRecursion}
use Rattle.std.proofs.Math.Seq.{drop-append-add}
use Rattle.std.proofs.lemmas.List.{drop-drop}
use Rattle.std.proofs.lemmas.Bool.{ltb-false}
use Rattle.hs_line.specs.Lines.{IsLine, lines_of, whole_lines, is_too_long, joined}
use Rattle.hs_line.proofs.LinesLemmas.{lines_of-lines}
use Rattle.hs_line.proofs.WholeLines.{too_long-line, whole-line}
use Rattle.line_pipeline.specs.Live.{behind}

-- the first line is whole where it isn't too long
pub whole-taken : (old line new : List ℕ) → old ≡ line ++ 10 ∷ new → lines_of old ≡ line ∷ lines_of new → is_too_long old ≡ false → whole_lines old ≡ line ∷ whole_lines new
whole-taken old line new is first fits =
    let is_line : IsLine line = (subst (AllByRecursion IsLine) first (lines_of-lines old)).0 in
    let short : length line ≤ 65536 = ltb-false 65536 (length line) (sym (too_long-line 65536 line new is_line) ∙ sym (ap is_too_long is) ∙ fits) in
    ap whole_lines is ∙ whole-line 65536 line new is_line short

-- one line more
pub lines-on : (lines all : List (List ℕ)) (line held new : List ℕ) (most i : ℕ) → i < most → lines ++ take (most - i) (whole_lines held) ≡ all → whole_lines held ≡ line ∷ whole_lines new → (lines ++ line ∷ []) ++ take (most - (i + 1)) (whole_lines new) ≡ all
lines-on lines all line held new most i below is next =
    let count : most - i ≡ suc (most - (i + 1)) = omega arith in
    append_assoc lines (line ∷ []) (take (most - (i + 1)) (whole_lines new))
    ∙ ap (λ (t : List (List ℕ)). lines ++ t) (ap (take (suc (most - (i + 1)))) (sym next) ∙ ap (λ (n : ℕ). take n (whole_lines held)) (sym count))
    ∙ is

length-joined : (lines : List (List ℕ)) (line : List ℕ) → length (joined (lines ++ line ∷ []) []) ≡ length (joined lines []) + (length line + 1)
length-joined [] line = let size : length (line ++ 10 ∷ []) ≡ length line + 1 = length-append line (10 ∷ []) in omega arith
length-joined (first ∷ lines) line =
    let more = joined (lines ++ line ∷ []) [] in
    let before : length (first ++ 10 ∷ joined lines []) ≡ length first + suc (length (joined lines [])) = length-append first (10 ∷ joined lines []) in
    let after : length (first ++ 10 ∷ more) ≡ length first + suc (length more) = length-append first (10 ∷ more) in
    let later : length more ≡ length (joined lines []) + (length line + 1) = length-joined lines line in
    omega arith

pub behind-on : (lines : List (List ℕ)) (line all held new : List ℕ) → held ≡ behind lines all → held ≡ line ++ 10 ∷ new → new ≡ behind (lines ++ line ∷ []) all
behind-on lines line all held new before is =
    sym (drop-append-add line (10 ∷ new) 1)
    ∙ ap (drop (length line + 1)) (sym is ∙ before)
    ∙ drop-drop (length line + 1) (length (joined lines [])) all
    ∙ ap (λ (n : ℕ). drop n all) (sym (length-joined lines line))
