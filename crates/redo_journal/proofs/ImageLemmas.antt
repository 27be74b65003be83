-- The length that stands in four bytes, and what it counts.
use Rattle.std.proofs.Common.{◌≡◌, inl, inr, ℕ, ◌+◌, ◌*◌, ◌-◌, ◌<◌, ◌^◌, List, [], ◌∷◌, ◌++◌, length, get_or, take, drop, refl, sym, ◌∙◌, ap, subst, arith, length-append, length-drop}
use Rattle.std.specs.Int.{w32, to_be_bytes}
use Rattle.std.proofs.lemmas.List.{length-take-le, take_rest, drop-drop, get_or-take, get_or-drop, get_or_past}
use Rattle.std.proofs.lemmas.Bool.{cases_lt}
use Rattle.std.proofs.Math.Seq.{take-add}
use Rattle.std.proofs.lemmas.Nat.{be_bytes_4}
use Rattle.redo_journal.specs.Bytes.{length_of, counted, FitsLength, StandsAt}

-- the number that four bytes spell
abbrev pub spelled : List ℕ → ℕ
spelled bytes = get_or bytes 0 0 * 16777216 + get_or bytes 1 0 * 65536 + get_or bytes 2 0 * 256 + get_or bytes 3 0

pub length_of_spelled : (bytes : List ℕ) → length_of bytes ≡ spelled bytes
unfolding length_of
length_of_spelled [] = refl
length_of_spelled (a ∷ []) = refl
length_of_spelled (a ∷ b ∷ []) = refl
length_of_spelled (a ∷ b ∷ c ∷ []) = refl
length_of_spelled (a ∷ b ∷ c ∷ d ∷ rest) = refl

-- what is read from the front of the rest of an image
pub length_read : (image : List ℕ) (at len : ℕ) → len ≡ spelled (take (length image - at) (drop at image)) → len ≡ length_of (drop at image)
length_read image at len is = is ∙ ap spelled (take_rest image at) ∙ sym (length_of_spelled (drop at image))

-- what a text behind its length is read from
pub record ReadsText (image : List ℕ) (at next : ℕ) (text : List ℕ) : Type 0 where
  pub fits : FitsLength text
  pub next_is : next ≡ at + (4 + length text)
  pub stands : StandsAt at (counted text) image

pub reads_text : (image : List ℕ) (at next : ℕ) (text : List ℕ) → ((i : ℕ) → get_or image i 0 < 256) → next ≡ at + 4 + length_of (drop at image) → next < length image → length_of (drop at image) < 2 ^ 32 → text ≡ take (next - (at + 4)) (drop (at + 4) image) → ReadsText image at next text
unfolding length_of counted
reads_text image at next text bytes ends within small text_is = record {
  fits = omega (arith, size, small);
  next_is = omega (arith, ends, size);
  stands = ap (λ (n : ℕ). take n rest) counted_size
      ∙ take-add 4 m rest
      ∙ ap (λ (l : List ℕ). l ++ take m (drop 4 rest)) (sym head)
      ∙ ap (λ (l : List ℕ). to_be_bytes w32 (length text) ++ l) (sym body);
}
  where
    rest : List ℕ
    rest = drop at image

    m : ℕ
    m = length_of (drop at image)

    ends' : next ≡ at + (4 + m)
    ends' = omega (arith, ends)

    long : 4 + m < length rest
    long = omega (arith, ends, within, length-drop at image)

    body : text ≡ take m (drop 4 rest)
    body =
        text_is
        ∙ ap (λ (n : ℕ). take n (drop (at + 4) image)) (omega (arith, ends))
        ∙ ap (λ (l : List ℕ). take m l) (sym (drop-drop 4 at image))

    size : length text ≡ m
    size = ap length body ∙ length-take-le m (drop 4 rest) (omega (arith, long, length-drop 4 rest))

    counted_size : length (to_be_bytes w32 (length text) ++ text) ≡ 4 + m
    counted_size = omega (arith, size, length-append (to_be_bytes w32 (length text)) text)

    four : length (take 4 rest) ≡ 4
    four = length-take-le 4 rest (omega (arith, long))

    in_range : (i : ℕ) → get_or (take 4 rest) i 0 < 256
    in_range i = elim (cases_lt i 4) [
      | inl below ↦ subst (λ (n : ℕ). n < 256) (sym (get_or-take 4 rest i 0 below ∙ get_or-drop at image i 0)) (bytes (at + i))
      | inr past ↦ subst (λ (n : ℕ). n < 256) (sym (get_or_past (take 4 rest) i 0 (omega (arith, four, past)))) (omega arith)
    ]

    head : to_be_bytes w32 (length text) ≡ take 4 rest
    head = be_bytes_4 (take 4 rest) (length text) four in_range size
