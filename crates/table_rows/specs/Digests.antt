-- A number for each value, by which most values that differ are told apart. What has the lower number comes first; of
-- values with one number none is known to come first.
use Rattle.std.specs.Prelude.{ℕ, zero, suc, ◌+◌, ◌-◌, ◌*◌, ◌^◌, min, Bool, List, [], ◌∷◌, if◌then◌else◌, nat_lt, ℤ, pos, int_lt, unsigned_abs}
use Rattle.row_types.specs.declared.values.Value.{Value}
use Rattle.row_types.specs.declared.values.Value.TheVariants.{Null, Int, Text}

-- Integers of fewer than 62 bits have numbers of their own, from 1 to 2 ^ 62. The others share the first and the last.
abbrev pub number_digest : ℤ → ℕ
number_digest n =
    if int_lt n (pos 0) then 2 ^ 61 - min (unsigned_abs n) (2 ^ 61 - 1) else 2 ^ 61 + min (unsigned_abs n) (2 ^ 61)

-- The first bytes of a text, so many of them, are the digits of a number. Past the end of the text they are 0.
abbrev pub front : ℕ → List ℕ → ℕ
front zero text = 0
front (suc n) [] = 0
front (suc n) (byte ∷ text) = if nat_lt byte 256 then byte * 256 ^ n + front n text else 256 ^ suc n - 1

-- NULL has 0. The texts have what is above all integers, by their first seven bytes.
abbrev pub digest_of : Value → ℕ
digest_of Null = 0
digest_of (Int n) = number_digest n
digest_of (Text text) = 2 ^ 63 + front 7 text

-- The number of a key is that of its first value. A cut at no value lies in front of all numbers, or behind them.
abbrev pub key_digest : Bool → List Value → ℕ
key_digest through [] = if through then 2 ^ 64 - 1 else 0
key_digest through (value ∷ values) = digest_of value
