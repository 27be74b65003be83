-- The numbers that texts write in decimal. The printed form of a number is std's `decimal`, and
-- `signed_decimal` of an integer.
use Rattle.std.specs.Prelude.{ℕ, ◌+◌, ◌^◌, ℤ, pos, neg_ℤ, List, [], ◌∷◌, Option, Some, None, option_map, Bool, false, ◌&&◌, ◌==◌, nat_lt, if◌then◌else◌}
use Rattle.std.specs.Str.{all_ascii_digits}
use Rattle.std.specs.Str.Parse.{digits_value}

-- Whether a text is one or more digits.
abbrev pub is_number : List ℕ → Bool
is_number [] = false
is_number (b ∷ bs) = all_ascii_digits (b ∷ bs)

-- The number that one or more digits write, where it is below the bound. Zeros may lead.
abbrev pub number_below : ℕ → List ℕ → Option ℕ
number_below bound text =
    if is_number text && nat_lt (digits_value 10 text) bound then Some (digits_value 10 text)
    else None

-- The number below 2^32 that a text writes.
abbrev pub u32_of : List ℕ → Option ℕ
u32_of text = number_below (2 ^ 32) text

-- The number below 2^64 that a text writes.
abbrev pub u64_of : List ℕ → Option ℕ
u64_of text = number_below (2 ^ 64) text

-- The integer from -2^63 to 2^63 - 1 that a text writes, with a sign in front or none.
abbrev pub i64_of : List ℕ → Option ℤ
i64_of [] = None
i64_of (b ∷ bs) =
    if b == 45 then option_map (λ n. neg_ℤ (pos n)) (number_below (2 ^ 63 + 1) bs)
    else option_map pos (number_below (2 ^ 63) (if b == 43 then bs else b ∷ bs))
