-- Digits and the numbers that they write.
use Rattle.std.proofs.Common.{◌≡◌, ℕ, suc, ◌+◌, ◌*◌, ◌-◌, ◌<◌, ◌≤◌, ◌^◌, ℤ, pos, negsuc, neg_ℤ, true, false, eqb, leb, ltb, List, [], ◌∷◌, length, Some, None, option_map, get_or, drop, refl, sym, ap, subst, ◌∙◌, arith, decimal, FitsSigned}
use Rattle.std.proofs.lemmas.Bool.{leb-true, and_parts, and_right, lt-ltb, le-ltb, ne_eqb}
use Rattle.std.proofs.lemmas.List.{at_drop_more}
use Rattle.std.proofs.lemmas.Str.Parse.{IsNumeralModel, numerals_by_value, tells_all_ascii_digits}
use Rattle.std.proofs.lemmas.Fmt.{digits_decimal, digits_value-decimal, decimal_nonempty}
use Rattle.std.specs.Int.{w64}
use Rattle.std.specs.Fmt.{signed_decimal}
use Rattle.std.specs.Char.{digit_value, is_ascii_digit}
use Rattle.std.specs.Str.{all_ascii_digits}
use Rattle.std.specs.Str.Parse.{digits_value, digits_value_after}
use Rattle.hs_token.specs.Number.{is_number, number_below, u32_of, u64_of, i64_of}

-- the value only grows
pub after_ge : (n : ℕ) (ds : List ℕ) → n ≤ digits_value_after 10 n ds
after_ge n [] = omega arith
after_ge n (d ∷ ds) = omega (arith, after_ge (n * 10 + digit_value d) ds)

pub not_digits : (bound : ℕ) (text : List ℕ) → all_ascii_digits text ≡ false → number_below bound text ≡ None
not_digits bound [] e = refl
not_digits bound (b ∷ bs) e = rw e refl

pub too_great : (bound : ℕ) (text : List ℕ) → bound ≤ digits_value 10 text → number_below bound text ≡ None
too_great bound text le =
    let over : ltb (digits_value 10 text) bound ≡ false = le-ltb (digits_value 10 text) bound le in
    rw (and_right (is_number text) (ltb (digits_value 10 text) bound) over) refl

pub digits_number : (text : List ℕ) → 0 < length text → all_ascii_digits text ≡ true → is_number text ≡ true
digits_number [] some e = absurd (omega arith)
digits_number (b ∷ bs) some e = e

pub is_below : (bound : ℕ) (text : List ℕ) → 0 < length text → all_ascii_digits text ≡ true → digits_value 10 text < bound → number_below bound text ≡ Some (digits_value 10 text)
is_below bound text some e lt = rw (digits_number text some e, lt-ltb (digits_value 10 text) bound lt) refl

pub own : IsNumeralModel (λ ds. all_ascii_digits ds ≡ true) (digits_value 10)
own = numerals_by_value _ tells_all_ascii_digits

pub decimal_below : (bound n : ℕ) → n < 2 ^ 64 → n < bound → number_below bound (decimal n) ≡ Some n
decimal_below bound n small lt =
    let value : digits_value 10 (decimal n) ≡ n = digits_value-decimal own n small in
    is_below bound (decimal n) (decimal_nonempty n small) (digits_decimal own n small) (omega arith) ∙ ap (λ (m : ℕ). Some m) value

-- digits have no sign in front
plain_i64 : (text : List ℕ) → 0 < length text → all_ascii_digits text ≡ true → i64_of text ≡ option_map pos (number_below (2 ^ 63) text)
plain_i64 [] some e = absurd (omega arith)
plain_i64 (b ∷ bs) some e =
    let digit = and_parts (leb 48 b) (leb b 57) (and_parts (is_ascii_digit b) (all_ascii_digits bs) e).0 in
    let low : 48 ≤ b = leb-true 48 b digit.0 in
    let minus : eqb b 45 ≡ false = ne_eqb b 45 (λ e. omega arith) in
    let plus : eqb b 43 ≡ false = ne_eqb b 43 (λ e. omega arith) in
    rw (minus, plus) refl

pub printed_u32 : (n : ℕ) → n < 2 ^ 32 → u32_of (decimal n) ≡ Some n
printed_u32 n lt = decimal_below (2 ^ 32) n (omega arith) lt

pub printed_u64 : (n : ℕ) → n < 2 ^ 64 → u64_of (decimal n) ≡ Some n
printed_u64 n lt = decimal_below (2 ^ 64) n lt lt

pub printed_i64 : (z : ℤ) → FitsSigned w64 z → i64_of (signed_decimal z) ≡ Some z
printed_i64 (pos n) fits =
    let lt : n < 2 ^ 63 = omega (arith, fits) in
    let small : n < 2 ^ 64 = omega arith in
    plain_i64 (decimal n) (decimal_nonempty n small) (digits_decimal own n small) ∙ ap (option_map pos) (decimal_below (2 ^ 63) n small lt)
printed_i64 (negsuc n) fits =
    let lt : n < 2 ^ 63 = omega (arith, fits) in
    ap (option_map (λ (n : ℕ). neg_ℤ (pos n))) (decimal_below (2 ^ 63 + 1) (suc n) (omega arith) (omega arith))

-- one digit more, whatever comes after it
digit_is : (d : ℕ) → 48 ≤ d → d ≤ 57 → digit_value d ≡ d - 48
digit_is d low high =
    let under : ltb d 48 ≡ false = le-ltb d 48 low in
    let below : ltb d 58 ≡ true = lt-ltb d 58 (omega arith) in
    rw (under, below) refl

pub step_ge : (n i : ℕ) (ds : List ℕ) (whole : ℕ) → i < length ds → digits_value_after 10 n (drop i ds) ≡ whole → n * 10 + digit_value (get_or ds i 0) ≤ whole
step_ge n i ds whole lt e =
    let more = at_drop_more (digits_value_after 10 n) ds i 0 lt in
    omega (arith, after_ge (n * 10 + digit_value (get_or ds i 0)) (drop (i + 1) ds), sym more ∙ e)

pub digit_step_ge : (n i : ℕ) (ds : List ℕ) (whole : ℕ) → i < length ds → digits_value_after 10 n (drop i ds) ≡ whole → is_ascii_digit (get_or ds i 0) ≡ true → n * 10 + (get_or ds i 0 - 48) ≤ whole
digit_step_ge n i ds whole lt e digit =
    let range = and_parts (leb 48 (get_or ds i 0)) (leb (get_or ds i 0) 57) digit in
    let is = digit_is (get_or ds i 0) (leb-true 48 (get_or ds i 0) range.0) (leb-true (get_or ds i 0) 57 range.1) in
    subst (λ (d : ℕ). n * 10 + d ≤ whole) is (step_ge n i ds whole lt e)
