-- A text and its spelling.
use Rattle.std.proofs.Common.{◌≡◌, ◌≢◌, ℕ, zero, suc, ◌+◌, ◌-◌, ◌<◌, ◌≤◌, Bool, true, false, cond, eqb, leb, ltb, List, [], ◌∷◌, ◌++◌, refl, ap, arith, inl, inr, ◌⊎◌, length, take, drop, slice_range, Option, Some, None, is_some}
use Rattle.std.proofs.lemmas.Bool.{leb-true, ltb-true, and_parts, and_right, or_parts, or_from, ne_eqb, cases_lt, lt-ltb, le-ltb, false_from_ne_true}
use Rattle.std.specs.List.{AllByRecursion}
use Rattle.memchr.specs.Find.{Passes, is_byte, IsFirstByte}
use Rattle.hs_token.specs.declared.tokens.Token.{Token}
use Rattle.hs_token.specs.declared.tokens.Token.TheVariants.{Null, Text}
use Rattle.hs_token.specs.Spelling.{text_spelled, token_spelled, IsToken}
use Rattle.hs_token.specs.Reading.{is_second, next_byte, text_of, is_null, token_of}
use Rattle.hs_token.specs.Steps.{has_escape, escapes_in}
use Rattle.hs_token.proofs.Cases.{plain, escaped}

abbrev pub IsByteList : List ℕ → Type 0
IsByteList bytes = AllByRecursion (λ b. b < 256) bytes

-- each byte stands for itself, or is 0x01 before the second byte of a pair
abbrev pub IsGood : List ℕ → Type 0
IsGood [] = Unit {0}
IsGood (b ∷ bs) = ((16 ≤ b) ⊎ ((b ≡ 1) × (is_second (next_byte bs) ≡ true))) × IsGood bs

-- a piece of a line that is good
abbrev pub IsPiece : List ℕ → Type 0
IsPiece field = IsGood field ⊎ (field ≡ 0 ∷ [])

record Second (c : ℕ) : Type 0 where
  low : 64 ≤ c
  high : c < 80

second : (c : ℕ) → is_second c ≡ true → Second c
second c e = let both = and_parts (leb 64 c) (ltb c 80) e in record { low = leb-true 64 c both.0; high = ltb-true c 80 both.1 }

text_good : (bs : List ℕ) → IsGood bs → text_spelled (text_of false bs) ≡ bs
text_good [] good = refl
text_good (b ∷ []) good =
    elim good.0 [
      | inl high ↦ let other : eqb b 1 ≡ false = ne_eqb b 1 (λ e. omega arith) in rw (other, plain b high) refl
      | inr pair ↦ absurd (let h : false ≡ true = pair.1 in cc)
    ]
text_good (b ∷ c ∷ bs) good =
    elim good.0 [
      | inl high ↦
          let other : eqb b 1 ≡ false = ne_eqb b 1 (λ e. omega arith) in
          rw (other, plain b high, text_good (c ∷ bs) good.1) refl
      | inr pair ↦
          let range = second c pair.1 in
          let low : 64 ≤ c = range.low in
          let high : c < 80 = range.high in
          let back : c - 64 + 64 ≡ c = omega arith in
          rw (pair.0, escaped (c - 64) (omega arith), back, text_good bs good.1.1) refl
    ]

not_null : (bs : List ℕ) → IsGood bs → is_null bs ≡ false
not_null [] good = refl
not_null (b ∷ bs) good =
    and_right _ _ (ne_eqb b 0 (λ e. elim good.0 [ inl high ↦ omega arith | inr pair ↦ omega (arith, pair.0) ]))

-- the token of a good piece is spelled by it
pub piece_spelled : (field : List ℕ) → IsPiece field → token_spelled (token_of field) ≡ field
piece_spelled field (inl good) = rw (not_null field good) (text_good field good)
piece_spelled field (inr null) = rw null refl

text_fits : (behind_one : Bool) (bs : List ℕ) → IsByteList bs → IsByteList (text_of behind_one bs)
text_fits behind_one [] fits = tt
text_fits true (b ∷ bs) fits = let lt : b < 256 = fits.0 in (omega arith, text_fits false bs fits.1)
text_fits false (b ∷ bs) fits =
    elim (eqb b 1) as (λ v. IsByteList (cond v (text_of true bs) (b ∷ text_of false bs))) [
      | true ↦ text_fits true bs fits.1
      | false ↦ (fits.0, text_fits false bs fits.1)
    ]

pub token_fits : (field : List ℕ) → IsByteList field → IsToken (token_of field)
token_fits field fits =
    elim (is_null field) as (λ v. IsToken (cond v Null (Text (text_of false field)))) [
      | true ↦ tt
      | false ↦ text_fits false field fits
    ]

text_again : (text : List ℕ) → text_of false (text_spelled text) ≡ text
text_again [] = refl
text_again (b ∷ bs) =
    elim (cases_lt b 16) [
      | inl lt ↦
          let back : b + 64 - 64 ≡ b = omega arith in
          rw (escaped b lt, text_again bs, back) refl
      | inr le ↦
          let other : eqb b 1 ≡ false = ne_eqb b 1 (λ e. omega arith) in
          rw (plain b le, other, text_again bs) refl
    ]

text_not_null : (text : List ℕ) → is_null (text_spelled text) ≡ false
text_not_null [] = refl
text_not_null (b ∷ bs) =
    elim (cases_lt b 16) [
      | inl lt ↦ rw (escaped b lt) (and_right _ _ refl)
      | inr le ↦ rw (plain b le) (and_right _ _ (ne_eqb b 0 (λ e. omega arith)))
    ]

pub token_again : (t : Token) → token_of (token_spelled t) ≡ t
token_again Null = refl
token_again (Text text) = rw (text_not_null text, text_again text) refl

-- no tab and no line feed is in what is spelled
abbrev pub IsField : List ℕ → Type 0
IsField bytes = AllByRecursion (λ b. (eqb b 9 ≡ false) × (b ≢ 10)) bytes

text_field : (text : List ℕ) → IsField (text_spelled text)
text_field [] = tt
text_field (b ∷ bs) =
    elim (cases_lt b 16) [
      | inl lt ↦ rw (escaped b lt) ((refl, λ e. omega arith), ((ne_eqb (b + 64) 9 (λ e. omega arith), λ e. omega arith), text_field bs))
      | inr le ↦ rw (plain b le) ((ne_eqb b 9 (λ e. omega arith), λ e. omega arith), text_field bs)
    ]

pub token_field : (t : Token) → IsField (token_spelled t)
token_field Null = ((refl, λ e. omega arith), tt)
token_field (Text text) = text_field text

-- bytes that stand for themselves, and what follows them
pub spelled-plain : (front rest : List ℕ) → AllByRecursion (λ b. 16 ≤ b) front → text_spelled (front ++ rest) ≡ front ++ text_spelled rest
spelled-plain [] rest high = refl
spelled-plain (b ∷ bs) rest high = rw (plain b high.0, spelled-plain bs rest high.1) refl

-- without an escape a piece is its text
pub text_plain : (bs : List ℕ) → has_escape bs ≡ false → text_of false bs ≡ bs
text_plain [] none = refl
text_plain (b ∷ bs) none =
    let both = or_parts (eqb b 1) (has_escape bs) none in
    rw (both.0, text_plain bs both.1) refl

drop_plain : (n : ℕ) (bs : List ℕ) → has_escape bs ≡ false → has_escape (drop n bs) ≡ false
drop_plain zero bs none = none
drop_plain (suc n) [] none = refl
drop_plain (suc n) (b ∷ bs) none = drop_plain n bs (or_parts (eqb b 1) (has_escape bs) none).1

take_plain : (n : ℕ) (bs : List ℕ) → has_escape bs ≡ false → has_escape (take n bs) ≡ false
take_plain zero bs none = refl
take_plain (suc n) [] none = refl
take_plain (suc n) (b ∷ bs) none =
    let both = or_parts (eqb b 1) (has_escape bs) none in
    or_from (eqb b 1) (has_escape (take n bs)) both.0 (take_plain n bs both.1)

-- so is each piece of a line without one
pub piece_plain : (line : List ℕ) (start end : ℕ) → has_escape line ≡ false → text_of false (slice_range line start end) ≡ slice_range line start end
piece_plain line start end none = text_plain (slice_range line start end) (take_plain (end - start) (drop start line) (drop_plain start line none))

no_escape : (bs : List ℕ) → ((k : ℕ) → k < length bs → ¬ Passes (is_byte 1) bs k) → has_escape bs ≡ false
no_escape [] none = refl
no_escape (b ∷ bs) none =
    or_from (eqb b 1) (has_escape bs) (false_from_ne_true (eqb b 1) (none 0 (omega arith))) (no_escape bs (λ k lt. none (suc k) (omega arith)))

-- the same, as the code looks for one
pub plain_since : (field : List ℕ) (first : Option ℕ) → IsFirstByte (is_byte 1) field first → is_some first ≡ false → text_of false field ≡ field
plain_since field None nowhere e = text_plain field (no_escape field (λ k lt. nowhere k (omega arith) lt))
plain_since field (Some k) found e = absurd (let h : true ≡ false = e in cc)

-- how much longer a spelling is than its text
pub escapes_le : (text : List ℕ) → escapes_in text ≤ length text
escapes_le [] = omega arith
escapes_le (b ∷ bs) =
    elim (cases_lt b 16) [
      | inl lt ↦ rw (lt-ltb b 16 lt) (omega (arith, escapes_le bs))
      | inr le ↦ rw (le-ltb b 16 le) (omega (arith, escapes_le bs))
    ]

pub length-text_spelled : (text : List ℕ) → length (text_spelled text) ≡ length text + escapes_in text
length-text_spelled [] = refl
length-text_spelled (b ∷ bs) =
    elim (cases_lt b 16) [
      | inl lt ↦ rw (lt-ltb b 16 lt, escaped b lt) (omega (arith, length-text_spelled bs))
      | inr le ↦ rw (le-ltb b 16 le, plain b le) (omega (arith, length-text_spelled bs))
    ]

-- without a byte below 0x10 a text is its spelling
pub spelled_plain : (text : List ℕ) → escapes_in text ≡ 0 → text_spelled text ≡ text
spelled_plain [] none = refl
spelled_plain (b ∷ bs) none =
    elim (cases_lt b 16) [
      | inl lt ↦ absurd (let some = rw (lt-ltb b 16 lt) at none in omega (arith, some))
      | inr le ↦ let rest = rw (le-ltb b 16 le) at none in rw (plain b le) (ap (λ (l : List ℕ). b ∷ l) (spelled_plain bs rest))
    ]
