-- Numbers by their digits.
use Rattle.std.specs.Prelude.{ℕ, ◌+◌, ◌*◌, ◌-◌, ◌^◌, ℤ, pos, neg_ℤ, nat_lt, List, fold, Option, Some, None, if◌then◌else◌}

-- A number with one digit more at its end.
abbrev pub with_digit : ℕ → ℕ → ℕ
with_digit n b = n * 10 + (b - 48)

-- The number that digits write.
abbrev pub digits_value : List ℕ → ℕ
digits_value = fold with_digit 0

-- A number below a bound.
abbrev pub below : ℕ → ℕ → Option ℕ
below most n = if nat_lt n most then Some n else None

-- The number of these digits, if it has 64 bits.
abbrev pub number_of : List ℕ → Option ℕ
number_of digits = below (2 ^ 64) (digits_value digits)

-- The number as one with a sign, if it is one of 64 bits.
abbrev pub positive : ℕ → Option ℤ
positive n = if nat_lt n 9223372036854775808 then Some (pos n) else None

-- The same with the other sign.
abbrev pub negative : ℕ → Option ℤ
negative n = if nat_lt n 9223372036854775809 then Some (neg_ℤ (pos n)) else None
