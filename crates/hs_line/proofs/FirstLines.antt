-- The length of the first line: as a search finds it, and after more bytes.
use Rattle.std.proofs.Common.{◌≡◌, ℕ, ◌+◌, ◌-◌, ◌<◌, true, false, eqb, nat_lt, List, ◌∷◌, ◌++◌, Option, Some, None, length, get_or, take, drop, refl, sym, ap, ◌∙◌, arith, length-append, length-take, length-drop, append_assoc}
use Rattle.std.proofs.lemmas.List.{take-append-drop, take-append-le, drop-append-le, drop-drop, drop_more, get_or-take, get_or-drop, length-take-le}
use Rattle.std.proofs.Math.Seq.{take-append-add, drop-append-add}
use Rattle.std.proofs.lemmas.List.Recursion.{or_from_places}
use Rattle.std.proofs.lemmas.Bool.{false_from_ne_true, eqb-true, or_from}
use Rattle.memchr.specs.Find.{IsFirstByte, IsLastByte, is_byte}
use Rattle.hs_line.specs.Lines.{has_lf, IsLine, lines_of, rest_of}
use Rattle.hs_line.specs.Held.{FirstLine}
use Rattle.hs_line.proofs.LinesLemmas.{has_lf-append, lines_of-line, rest_of-line, rest_of-none}
use Rattle.hs_line.proofs.WholeLines.{too_long, too_long-line}

-- no byte up to place n is an LF
no_lf_before : (bytes : List ℕ) → ((k : ℕ) → k < length bytes → eqb (get_or bytes k 0) 10 ≡ false) → IsLine bytes
no_lf_before bytes each = or_from_places has_lf (λ (b : ℕ). eqb b 10) refl (λ x xs. refl) bytes 0 each

-- what a search for an LF answers is the length of the first line
pub FirstLine-found : (bytes : List ℕ) (r : Option ℕ) → IsFirstByte (is_byte 10) bytes r → FirstLine bytes r
FirstLine-found bytes None nowhere =
    no_lf_before bytes (λ k low. false_from_ne_true (eqb (get_or bytes k 0) 10) (nowhere k (omega arith) low))
FirstLine-found bytes (Some n) found =
    let low : n < length bytes = found.0.high in
    let size : length (take n bytes) ≡ n = length-take-le n bytes (omega arith) in
    let here : drop n bytes ≡ 10 ∷ drop (n + 1) bytes = drop_more bytes n 0 low ∙ ap (λ (b : ℕ). b ∷ drop (n + 1) bytes) (eqb-true (get_or bytes n 0) 10 found.1) in (
      no_lf_before (take n bytes) (λ k below.
          let before : k < n = omega arith in
          let same : get_or (take n bytes) k 0 ≡ get_or bytes k 0 = get_or-take n bytes k 0 before in
          ap (λ (b : ℕ). eqb b 10) same ∙ false_from_ne_true (eqb (get_or bytes k 0) 10) (found.0.before k (omega arith) before)),
      ap (λ (l : List ℕ). take n bytes ++ l) (sym here) ∙ take-append-drop n bytes,
    )

-- the LF stands within the bytes
pub FirstLine-within : (bytes : List ℕ) (n : ℕ) → FirstLine bytes (Some n) → n < length bytes
FirstLine-within bytes n first =
    let whole : length (take n bytes) + length (10 ∷ drop (n + 1) bytes) ≡ length bytes = sym (length-append (take n bytes) (10 ∷ drop (n + 1) bytes)) ∙ ap length first.1 in
    omega (arith, whole, length-take n bytes, length-drop (n + 1) bytes)

-- a line stays the first
pub FirstLine-stays : (held piece : List ℕ) (n : ℕ) → FirstLine held (Some n) → FirstLine (held ++ piece) (Some n)
FirstLine-stays held piece n first =
    let within : n < length held = FirstLine-within held n first in
    let front : take n (held ++ piece) ≡ take n held = take-append-le n held piece (omega arith) in
    let back : drop (n + 1) (held ++ piece) ≡ drop (n + 1) held ++ piece = drop-append-le (n + 1) held piece (omega arith) in (
      ap has_lf front ∙ first.0,
      ap (λ (l : List ℕ). l ++ 10 ∷ drop (n + 1) (held ++ piece)) front ∙ ap (λ (l : List ℕ). take n held ++ 10 ∷ l) back
          ∙ sym (append_assoc (take n held) (10 ∷ drop (n + 1) held) piece) ∙ ap (λ (l : List ℕ). l ++ piece) first.1,
    )

-- where none was held, the first line ends in the piece, or none does
pub FirstLine-none : (held piece : List ℕ) → IsLine held → IsLine piece → FirstLine (held ++ piece) None
FirstLine-none held piece none no_more = has_lf-append held piece ∙ or_from (has_lf held) (has_lf piece) none no_more

pub FirstLine-new : (held piece : List ℕ) (n : ℕ) → IsLine held → FirstLine piece (Some n) → FirstLine (held ++ piece) (Some (length held + n))
FirstLine-new held piece n none first =
    let front : take (length held + n) (held ++ piece) ≡ held ++ take n piece = take-append-add held piece n in
    let on : length held + n + 1 ≡ length held + (n + 1) = omega arith in
    let back : drop (length held + n + 1) (held ++ piece) ≡ drop (n + 1) piece = ap (λ (k : ℕ). drop k (held ++ piece)) on ∙ drop-append-add held piece (n + 1) in (
      ap has_lf front ∙ FirstLine-none held (take n piece) none first.0,
      ap (λ (l : List ℕ). l ++ 10 ∷ drop (length held + n + 1) (held ++ piece)) front ∙ ap (λ (l : List ℕ). (held ++ take n piece) ++ 10 ∷ l) back
          ∙ append_assoc held (take n piece) (10 ∷ drop (n + 1) piece) ∙ ap (λ (l : List ℕ). held ++ l) first.1,
    )

-- the first line and what follows it
pub FirstLine-size : (bytes : List ℕ) (n : ℕ) → FirstLine bytes (Some n) → length (take n bytes) ≡ n
FirstLine-size bytes n first = let within : n < length bytes = FirstLine-within bytes n first in length-take-le n bytes (omega arith)

pub lines_of-first : (bytes : List ℕ) (n : ℕ) → FirstLine bytes (Some n) → lines_of bytes ≡ take n bytes ∷ lines_of (drop (n + 1) bytes)
lines_of-first bytes n first = ap lines_of (sym first.1) ∙ lines_of-line (take n bytes) (drop (n + 1) bytes) first.0

pub rest_of-first : (bytes : List ℕ) (n : ℕ) → FirstLine bytes (Some n) → rest_of (drop (n + 1) bytes) ≡ rest_of bytes
rest_of-first bytes n first = sym (ap rest_of (sym first.1) ∙ rest_of-line (take n bytes) (drop (n + 1) bytes))

pub too_long-first : (limit : ℕ) (bytes : List ℕ) (n : ℕ) → FirstLine bytes (Some n) → too_long limit bytes ≡ nat_lt limit n
too_long-first limit bytes n first =
    ap (too_long limit) (sym first.1) ∙ too_long-line limit (take n bytes) (drop (n + 1) bytes) first.0 ∙ ap (nat_lt limit) (FirstLine-size bytes n first)

-- what a search for the last LF answers ends where the rest begins
rest_of-at : (bytes : List ℕ) (n : ℕ) → n < length bytes → eqb (get_or bytes n 0) 10 ≡ true → IsLine (drop (n + 1) bytes) → rest_of bytes ≡ drop (n + 1) bytes
rest_of-at bytes n low lf none =
    let here : drop n bytes ≡ 10 ∷ drop (n + 1) bytes = drop_more bytes n 0 low ∙ ap (λ (b : ℕ). b ∷ drop (n + 1) bytes) (eqb-true (get_or bytes n 0) 10 lf) in
    let parts : take n bytes ++ 10 ∷ drop (n + 1) bytes ≡ bytes = ap (λ (l : List ℕ). take n bytes ++ l) (sym here) ∙ take-append-drop n bytes in
    ap rest_of (sym parts) ∙ rest_of-line (take n bytes) (drop (n + 1) bytes) ∙ rest_of-none (drop (n + 1) bytes) none

pub rest_of-found : (bytes : List ℕ) (n : ℕ) → IsLastByte (is_byte 10) bytes (Some n) → length (rest_of bytes) ≡ length bytes - (n + 1)
rest_of-found bytes n found =
    let none : IsLine (drop (n + 1) bytes) = no_lf_before (drop (n + 1) bytes) (λ k below.
    let size : length (drop (n + 1) bytes) ≡ length bytes - (n + 1) = length-drop (n + 1) bytes in
    let same : get_or (drop (n + 1) bytes) k 0 ≡ get_or bytes (n + 1 + k) 0 = get_or-drop (n + 1) bytes k 0 in
    ap (λ (b : ℕ). eqb b 10) same ∙ false_from_ne_true (eqb (get_or bytes (n + 1 + k) 0) 10) (found.0.after (n + 1 + k) (omega arith) (omega arith))) in
    ap length (rest_of-at bytes n found.0.high found.1 none) ∙ length-drop (n + 1) bytes

pub rest_of-found_none : (bytes : List ℕ) → IsLastByte (is_byte 10) bytes None → length (rest_of bytes) ≡ length bytes
rest_of-found_none bytes nowhere = ap length (rest_of-none bytes (FirstLine-found bytes None nowhere))

-- the first line is taken from the bytes behind those that were taken, and these are what is held then
module _ (now items : List ℕ) (taken len : ℕ) (view_is : drop taken items ≡ now) (first : FirstLine (drop taken items) (Some len)) (more : List ℕ) (after : more ≡ drop (taken + len + 1) items) where
  more_is : more ≡ drop (len + 1) (drop taken items)
  more_is =
      let on : taken + len + 1 ≡ taken + (len + 1) = omega arith in
      after ∙ ap (λ (n : ℕ). drop n items) on ∙ sym (drop-drop (len + 1) taken items)

  pub rest_of-taken : rest_of more ≡ rest_of now
  rest_of-taken = ap rest_of more_is ∙ rest_of-first (drop taken items) len first ∙ ap rest_of view_is

  pub lines_of-taken : (seen line : List ℕ) → line ≡ take (taken + len - taken) (drop taken seen) → seen ≡ items → lines_of now ≡ line ∷ lines_of more
  lines_of-taken seen line part same =
      let size : taken + len - taken ≡ len = omega arith in
      let line_is : line ≡ take len (drop taken items) = part ∙ ap (λ (n : ℕ). take n (drop taken seen)) size ∙ ap (λ (l : List ℕ). take len (drop taken l)) same in
      ap lines_of (sym view_is) ∙ lines_of-first (drop taken items) len first
      ∙ ap (λ (l : List ℕ). l ∷ lines_of (drop (len + 1) (drop taken items))) (sym line_is) ∙ ap (λ (l : List ℕ). line ∷ lines_of l) (sym more_is)
