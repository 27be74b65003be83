-- Names, numbers and strings as a spelling writes them.
use Rattle.std.proofs.Common.{◌≡◌, ℕ, suc, ◌+◌, ◌-◌, ◌^◌, ◌<◌, ◌≤◌, Bool, true, false, List, [], ◌∷◌, ◌++◌, length, take, drop, refl, ap, subst, ◌∙◌, arith, add-one, length-append, append_assoc}
use Rattle.std.specs.Prelude.{◌||◌, ◌&&◌, ◌==◌, not, cond, if◌then◌else◌, slice_index, Some, nat_le, fold, decimal}
use Rattle.std.specs.List.{prefix_len, list_all}
use Rattle.std.specs.Int.{IsInRange}
use Rattle.std.specs.Char.{is_ascii_digit}
use Rattle.std.proofs.lemmas.Str.Parse.{IsDigitsTest, FoldsDigits, numerals_by_fold}
use Rattle.std.proofs.lemmas.Fmt.{digits_decimal, digits_value-decimal, decimal_nonempty}
use Rattle.row_types.specs.Valid.{is_name, is_name_byte}
use Rattle.sql_parse.specs.declared.token_kinds.TokenKind.TheVariants as k
use Rattle.sql_parse.specs.declared.quotes.Within.TheVariants as within
use Rattle.sql_parse.specs.Lex.{Token, token, bad, is_blank, is_word_start, is_word_byte, word_at, number_at, quoted_at, string_at, symbol_at, of_len, same_kind}
use Rattle.sql_parse.specs.Strings.{inside, behind, closing, kept, unquoted}
use Rattle.sql_parse.specs.Numbers.{with_digit, below, number_of}
use Rattle.sql_parse.specs.Spelling.{word, doubled}
use Rattle.sql_parse.proofs.Cases.{and_true, both_true, not_true}
use Rattle.sql_parse.proofs.Digits.{is_below}
use Rattle.sql_parse.proofs.Pieces.{Bare, IsToken, take_front}

-- A run of bytes up to the first of another sort.
span : (test : ℕ → Bool) (xs : List ℕ) (c : ℕ) (z : List ℕ) → list_all test xs ≡ true → test c ≡ false → prefix_len test (xs ++ c ∷ z) ≡ length xs
span test [] c z all none = ap (λ b. cond b (1 + prefix_len test z) 0) none
span test (x ∷ xs) c z all none =
    let parts = and_true (test x) (list_all test xs) all in
    let e : 1 + prefix_len test (xs ++ c ∷ z) ≡ suc (length xs) = omega (arith, span test xs c z parts.1 none) in
    ap (λ b. cond b (1 + prefix_len test (xs ++ c ∷ z)) 0) parts.0 ∙ e

-- The byte behind a run.
at_end : (xs : List ℕ) (c : ℕ) (z : List ℕ) → slice_index (xs ++ c ∷ z) (length xs) ≡ c
at_end [] c z = refl
at_end (x ∷ xs) c z = at_end xs c z

bare_front : (b : ℕ) (z : List ℕ) → is_blank b ≡ false → Bare (b ∷ z)
bare_front b z none = ap (λ c. drop (cond c (1 + prefix_len is_blank z) 0) (b ∷ z)) none

-- What stands between two bytes.
pub inside_ends : (a b : ℕ) (xs : List ℕ) → inside 1 (a ∷ (xs ++ b ∷ [])) ≡ xs
inside_ends a b xs =
    let e : suc (length (xs ++ b ∷ [])) - 2 ≡ length xs = omega (arith, length-append xs (b ∷ [])) in
    ap (λ n. take n (xs ++ b ∷ [])) e ∙ take_front xs (b ∷ [])

-- ---- numbers

digit_of : (b : ℕ) → is_ascii_digit b ≡ true → (is_word_start b ≡ false) × (is_blank b ≡ false)
digit_of b e = (grind arith, grind arith)

-- The token of a text by whether its first byte begins a word, or is a digit.
by_first : List ℕ → ℕ → Bool → Bool → Token
by_first w b begins is_digit =
    if begins then word_at w
    else (if is_digit then number_at w
    else (if b == 96 then quoted_at w
    else (if b == 39 then string_at w else symbol_at b (slice_index w 1))))

pub digits_token : (p : List ℕ) → list_all is_ascii_digit p ≡ true → 1 ≤ length p → IsToken k.Number p
unfolding token same_kind by_first
digits_token [] all some = absurd (omega (arith, some))
digits_token (b ∷ p) all some =
    let parts = and_true (is_ascii_digit b) (list_all is_ascii_digit p) all in
    let is = digit_of b parts.0 in
    record {
      read = λ z.
          let w = word (b ∷ p) z in
          ap (λ c. by_first w b c (is_ascii_digit b)) is.0
          ∙ ap (by_first w b false) parts.0
          ∙ ap (λ n. if is_word_byte (slice_index w n) then bad else (k.Number, n)) (span is_ascii_digit (b ∷ p) 32 z all refl)
          ∙ ap (λ c. if is_word_byte c then bad else (k.Number, length (b ∷ p))) (at_end (b ∷ p) 32 z);
      bare = λ z. bare_front b (p ++ 32 ∷ z) is.1;
      same = refl;
    }

in_digits : (c : ℕ) → is_ascii_digit c ≡ true → IsInRange 48 57 c
in_digits c e = (grind arith, grind arith)

digit_in : (c : ℕ) → IsInRange 48 57 c → is_ascii_digit c ≡ true
digit_in c is = grind (arith, is.0, is.1)

with_digits : FoldsDigits (λ n ds. fold with_digit n ds)
with_digits = record { empty = λ n. refl; more = λ n c cs is. refl }

are_digits : IsDigitsTest (λ ds. list_all is_ascii_digit ds ≡ true)
are_digits = record {
  empty = refl;
  parts = λ c cs e. let p = and_true (is_ascii_digit c) (list_all is_ascii_digit cs) e in (in_digits c p.0, p.1);
  more = λ c cs is e. both_true (is_ascii_digit c) (list_all is_ascii_digit cs) (digit_in c is) e;
}

pub number_token : (n : ℕ) → n < 2 ^ 64 → IsToken k.Number (decimal n)
number_token n lt = digits_token (decimal n) (digits_decimal (numerals_by_fold (λ ds. list_all is_ascii_digit ds ≡ true) are_digits (λ n ds. fold with_digit n ds) with_digits) n lt) (decimal_nonempty n lt)

pub number_of_decimal : (n : ℕ) → n < 2 ^ 64 → number_of (decimal n) ≡ Some n
number_of_decimal n lt =
    ap (below (2 ^ 64)) (digits_value-decimal (numerals_by_fold (λ ds. list_all is_ascii_digit ds ≡ true) are_digits (λ n ds. fold with_digit n ds) with_digits) n lt)
    ∙ is_below (2 ^ 64) n lt

-- ---- names

name_start : (b : ℕ) → is_name_byte b ≡ true → is_ascii_digit b ≡ false → is_word_start b ≡ true
name_start b byte none = grind arith

quoted_as : List ℕ → Bool → Bool → ℕ → Token
quoted_as w begins closes n = if begins && closes then (k.Quoted, n + 2) else bad

-- A name, of which the first byte is this.
quoted_read : (b : ℕ) (bs z : List ℕ) → is_word_start b ≡ true → list_all is_word_byte (b ∷ bs) ≡ true → quoted_at (word (96 ∷ (b ∷ bs ++ 96 ∷ [])) z) ≡ (k.Quoted, length (96 ∷ (b ∷ bs ++ 96 ∷ [])))
unfolding quoted_as
quoted_read b bs z begins all =
    let w = word (96 ∷ (b ∷ bs ++ 96 ∷ [])) z in
    let same : drop 1 w ≡ (b ∷ bs) ++ 96 ∷ 32 ∷ z = append_assoc (b ∷ bs) (96 ∷ []) (32 ∷ z) in
    let run = ap (prefix_len is_word_byte) same ∙ span is_word_byte (b ∷ bs) 96 (32 ∷ z) all refl in
    let closes : slice_index w (length (b ∷ bs) + 1) ≡ 96 = ap (slice_index w) (add-one (length (b ∷ bs))) ∙ ap (λ y. slice_index y (length (b ∷ bs))) same ∙ at_end (b ∷ bs) 96 (32 ∷ z) in
    let long : length (b ∷ bs) + 2 ≡ length (96 ∷ (b ∷ bs ++ 96 ∷ [])) = omega (arith, length-append bs (96 ∷ [])) in
    ap (λ n. quoted_as w (is_word_start b) (slice_index w (n + 1) == 96) n) run
    ∙ ap (λ c. quoted_as w c (slice_index w (length (b ∷ bs) + 1) == 96) (length (b ∷ bs))) begins
    ∙ ap (λ c. quoted_as w true (c == 96) (length (b ∷ bs))) closes
    ∙ ap (λ n. (k.Quoted, n)) long

-- What a name is, by its first byte.
name_parts : (b : ℕ) (bs : List ℕ) → is_name (b ∷ bs) ≡ true → (is_word_start b ≡ true) × (list_all is_word_byte (b ∷ bs) ≡ true)
name_parts b bs is =
    let all = and_true (nat_le 1 (length (b ∷ bs)) && nat_le (length (b ∷ bs)) 64 && not (is_ascii_digit b)) (list_all is_word_byte (b ∷ bs)) is in
    let first = and_true (nat_le 1 (length (b ∷ bs)) && nat_le (length (b ∷ bs)) 64) (not (is_ascii_digit b)) all.0 in
    (name_start b (and_true (is_word_byte b) (list_all is_word_byte bs) all.1).0 (not_true (is_ascii_digit b) first.1), all.1)

pub quoted_token : (name : List ℕ) → is_name name ≡ true → IsToken k.Quoted (96 ∷ (name ++ 96 ∷ []))
unfolding token same_kind
quoted_token [] is = absurd cc
quoted_token (b ∷ bs) is =
    let parts = name_parts b bs is in
    record { read = λ z. quoted_read b bs z parts.0 parts.1; bare = λ z. refl; same = refl }

-- ---- strings

abbrev ClosesBehind : List ℕ → Type 0
ClosesBehind d = (n : ℕ) (z : List ℕ) → closing within.Bytes n ((d ++ 39 ∷ []) ++ 32 ∷ z) ≡ Some (n + length (d ++ 39 ∷ []))

-- A byte that is neither a quote nor a backslash.
behind_other : (b : ℕ) → (b == 39) ≡ false → (b == 92) ≡ false → behind b ≡ within.Bytes
behind_other b no_quote no_escape =
    ap (λ c. if c then within.Quote else (if b == 92 then within.Escape else within.Bytes)) no_quote
    ∙ ap (λ c. if c then within.Escape else within.Bytes) no_escape

closes_quote : (d : List ℕ) → ClosesBehind d → ClosesBehind (39 ∷ 39 ∷ d)
closes_quote d rest n z =
    let e : n + 1 + 1 + length (d ++ 39 ∷ []) ≡ n + suc (suc (length (d ++ 39 ∷ []))) = omega arith in
    rest (n + 1 + 1) z ∙ ap Some e

closes_escape : (d : List ℕ) → ClosesBehind d → ClosesBehind (92 ∷ 92 ∷ d)
closes_escape d rest n z =
    let e : n + 1 + 1 + length (d ++ 39 ∷ []) ≡ n + suc (suc (length (d ++ 39 ∷ []))) = omega arith in
    rest (n + 1 + 1) z ∙ ap Some e

closes_byte : (b : ℕ) (d : List ℕ) (q e : Bool) → (b == 39) ≡ q → (b == 92) ≡ e → ClosesBehind d → ClosesBehind (if q || e then b ∷ b ∷ d else b ∷ d)
closes_byte b d true e is_quote is_escape rest = subst (λ (b : ℕ). ClosesBehind (b ∷ b ∷ d)) (let same : 39 ≡ b = grind arith in same) (closes_quote d rest)
closes_byte b d false true is_quote is_escape rest = subst (λ (b : ℕ). ClosesBehind (b ∷ b ∷ d)) (let same : 92 ≡ b = grind arith in same) (closes_escape d rest)
closes_byte b d false false is_quote is_escape rest = λ n z.
    let e : n + 1 + length (d ++ 39 ∷ []) ≡ n + suc (length (d ++ 39 ∷ [])) = omega arith in
    ap (λ c. closing c (n + 1) ((d ++ 39 ∷ []) ++ 32 ∷ z)) (behind_other b is_quote is_escape) ∙ rest (n + 1) z ∙ ap Some e

-- A string up to its closing quote, of which so many bytes were before.
closes_doubled : (t : List ℕ) → ClosesBehind (doubled t)
closes_doubled [] = λ n z. refl
closes_doubled (b ∷ t) = closes_byte b (doubled t) (b == 39) (b == 92) refl refl (closes_doubled t)

pub string_token : (t : List ℕ) → IsToken k.Text (39 ∷ (doubled t ++ 39 ∷ []))
unfolding token same_kind
string_token t = record {
  read = λ z.
      let long : 1 + length (doubled t ++ 39 ∷ []) ≡ length (39 ∷ (doubled t ++ 39 ∷ [])) = omega arith in
      ap (of_len k.Text) (closes_doubled t 1 z) ∙ ap (λ n. (k.Text, n)) long;
  bare = λ z. refl;
  same = refl;
}

undoubled_byte : (b : ℕ) (d t : List ℕ) (q e : Bool) → (b == 39) ≡ q → (b == 92) ≡ e → unquoted within.Bytes d ≡ t → unquoted within.Bytes (if q || e then b ∷ b ∷ d else b ∷ d) ≡ b ∷ t
undoubled_byte b d t true e is_quote is_escape rest =
    subst (λ (b : ℕ). unquoted within.Bytes (b ∷ b ∷ d) ≡ b ∷ t) (let same : 39 ≡ b = grind arith in same) (ap (λ (x : List ℕ). 39 ∷ x) rest)
undoubled_byte b d t false true is_quote is_escape rest =
    subst (λ (b : ℕ). unquoted within.Bytes (b ∷ b ∷ d) ≡ b ∷ t) (let same : 92 ≡ b = grind arith in same) (ap (λ (x : List ℕ). 92 ∷ x) rest)
undoubled_byte b d t false false is_quote is_escape rest =
    ap (λ c. kept c b (unquoted c d)) (behind_other b is_quote is_escape) ∙ ap (λ (x : List ℕ). b ∷ x) rest

-- What was doubled stands for itself.
pub undoubled : (t : List ℕ) → unquoted within.Bytes (doubled t) ≡ t
undoubled [] = refl
undoubled (b ∷ t) = undoubled_byte b (doubled t) t (b == 39) (b == 92) refl refl (undoubled t)

-- What a string's token says is the string.
pub text_of_token : (t : List ℕ) → unquoted within.Bytes (inside 1 (39 ∷ (doubled t ++ 39 ∷ []))) ≡ t
text_of_token t = ap (unquoted within.Bytes) (inside_ends 39 39 (doubled t)) ∙ undoubled t
