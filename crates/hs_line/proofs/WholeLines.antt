-- Lines that are not too long, one by one: stated over any limit.
use Rattle.std.proofs.Common.{◌≡◌, ℕ, suc, ◌+◌, ◌-◌, ◌<◌, ◌≤◌, Bool, true, false, not, ◌&&◌, nat_lt, nat_le, ltb, leb, List, [], ◌∷◌, ◌++◌, length, take, drop, refl, sym, ap, ◌∙◌, arith, zero-add, suc-add, if◌then◌else◌, length-append, ⊎_elim}
use Rattle.std.specs.List.{take_while}
use Rattle.std.proofs.lemmas.List.{take-append-drop, take-append-le}
use Rattle.std.proofs.lemmas.List.Sums.{take_while-cons}
use Rattle.std.proofs.lemmas.Bool.{cases_Bool, cases_lt, or_parts, and_parts, and_from, and_left, and_right, not-true, not_from_true, not_from_false, ltb-true, lt-ltb, le-ltb, le-leb, lt-leb, cond-true, cond-false}
use Rattle.hs_line.specs.Lines.{has_lf, IsLine, lines_of}
use Rattle.hs_line.proofs.LinesLemmas.{has_lf-append, has_lf-line, lines_of-none, lines_of-line, StartsWithLine, first_line_found}

-- the first bytes of bytes without an LF have none
pub IsLine-take : (n : ℕ) (bytes : List ℕ) → IsLine bytes → IsLine (take n bytes)
IsLine-take n bytes is =
    (or_parts (has_lf (take n bytes)) (has_lf (drop n bytes)) (sym (has_lf-append (take n bytes) (drop n bytes)) ∙ ap has_lf (take-append-drop n bytes) ∙ is)).0

-- a line is cut off whole, with its LF
pub take-line : (line more : List ℕ) (n : ℕ) → take (length line + suc n) (line ++ 10 ∷ more) ≡ line ++ 10 ∷ take n more
take-line [] more n = rw zero-add refl
take-line (b ∷ bytes) more n = rw suc-add (ap (λ (l : List ℕ). b ∷ l) (take-line bytes more n))

module _ (limit : ℕ) where
  -- `is_too_long` and `whole_lines` at this limit
  abbrev pub too_long : List ℕ → Bool
  too_long bytes = nat_lt limit (length bytes) && not (has_lf (take (limit + 1) bytes))

  abbrev pub whole : List ℕ → List (List ℕ)
  whole bytes = take_while (λ line. nat_le (length line) limit) (lines_of bytes)

  -- what it says
  pub too_long-says : (bytes : List ℕ) → too_long bytes ≡ true → (limit < length bytes) × IsLine (take (limit + 1) bytes)
  too_long-says bytes is =
      let parts = and_parts (ltb limit (length bytes)) (not (has_lf (take (limit + 1) bytes))) is in
      (ltb-true limit (length bytes) parts.0, not-true (has_lf (take (limit + 1) bytes)) parts.1)

  pub too_long-since : (bytes : List ℕ) → limit < length bytes → IsLine (take (limit + 1) bytes) → too_long bytes ≡ true
  too_long-since bytes more none =
      and_from (ltb limit (length bytes)) (not (has_lf (take (limit + 1) bytes))) (lt-ltb limit (length bytes) more) (not_from_false (has_lf (take (limit + 1) bytes)) none)

  -- without an LF the length alone decides
  pub too_long-none : (bytes : List ℕ) → IsLine bytes → too_long bytes ≡ nat_lt limit (length bytes)
  too_long-none bytes is =
      ⊎_elim (λ long. too_long-since bytes long (IsLine-take (limit + 1) bytes is) ∙ sym (lt-ltb limit (length bytes) long))
      (λ fits. let short : ltb limit (length bytes) ≡ false = le-ltb limit (length bytes) fits in and_left (ltb limit (length bytes)) (not (has_lf (take (limit + 1) bytes))) short ∙ sym short)
      (cases_lt limit (length bytes))

  -- with a line the length of the line does
  too_long-line_long : (line more : List ℕ) → IsLine line → limit < length line → too_long (line ++ 10 ∷ more) ≡ true
  too_long-line_long line more is long =
      let all : length (line ++ 10 ∷ more) ≡ length line + length (10 ∷ more) = length-append line (10 ∷ more) in
      let front : take (limit + 1) (line ++ 10 ∷ more) ≡ take (limit + 1) line = take-append-le (limit + 1) line (10 ∷ more) (omega arith) in
      too_long-since (line ++ 10 ∷ more) (omega arith) (ap has_lf front ∙ IsLine-take (limit + 1) line is)

  too_long-line_fits : (line more : List ℕ) → length line ≤ limit → too_long (line ++ 10 ∷ more) ≡ false
  too_long-line_fits line more fits =
      let on : limit + 1 ≡ length line + suc (limit - length line) = omega arith in
      let front : take (limit + 1) (line ++ 10 ∷ more) ≡ line ++ 10 ∷ take (limit - length line) more = ap (λ (n : ℕ). take n (line ++ 10 ∷ more)) on ∙ take-line line more (limit - length line) in
      let there : has_lf (take (limit + 1) (line ++ 10 ∷ more)) ≡ true = ap has_lf front ∙ has_lf-line line (take (limit - length line) more) in
      and_right (ltb limit (length (line ++ 10 ∷ more))) (not (has_lf (take (limit + 1) (line ++ 10 ∷ more)))) (not_from_true (has_lf (take (limit + 1) (line ++ 10 ∷ more))) there)

  pub too_long-line : (line more : List ℕ) → IsLine line → too_long (line ++ 10 ∷ more) ≡ nat_lt limit (length line)
  too_long-line line more is =
      ⊎_elim (λ long. too_long-line_long line more is long ∙ sym (lt-ltb limit (length line) long))
      (λ fits. too_long-line_fits line more fits ∙ sym (le-ltb limit (length line) fits))
      (cases_lt limit (length line))

  pub whole-none : (bytes : List ℕ) → IsLine bytes → whole bytes ≡ []
  whole-none bytes is = ap (take_while (λ line. nat_le (length line) limit)) (lines_of-none bytes is)

  whole-first : (line more : List ℕ) → IsLine line → whole (line ++ 10 ∷ more) ≡ (if nat_le (length line) limit then line ∷ whole more else [])
  whole-first line more is =
      ap (take_while (λ (l : List ℕ). nat_le (length l) limit)) (lines_of-line line more is) ∙ take_while-cons (λ (l : List ℕ). nat_le (length l) limit) line (lines_of more)

  pub whole-line : (line more : List ℕ) → IsLine line → length line ≤ limit → whole (line ++ 10 ∷ more) ≡ line ∷ whole more
  whole-line line more is fits =
      whole-first line more is ∙ cond-true (leb (length line) limit) (line ∷ whole more) [] (le-leb (length line) limit fits)

  whole-stops_at : (bytes : List ℕ) → too_long bytes ≡ true → StartsWithLine bytes → whole bytes ≡ []
  whole-stops_at bytes is found =
      let long : nat_lt limit (length found.line) ≡ true = sym (too_long-line found.line found.more found.is_line) ∙ ap too_long (sym found.parts) ∙ is in
      ap whole found.parts ∙ whole-first found.line found.more found.is_line
      ∙ cond-false (leb (length found.line) limit) (found.line ∷ whole found.more) [] (lt-leb (length found.line) limit (ltb-true limit (length found.line) long))

  -- none is whole where the first is too long
  pub whole-stops : (bytes : List ℕ) → too_long bytes ≡ true → whole bytes ≡ []
  whole-stops bytes is =
      ⊎_elim (λ some. whole-stops_at bytes is (first_line_found bytes some)) (λ none. whole-none bytes none) (cases_Bool (has_lf bytes))
