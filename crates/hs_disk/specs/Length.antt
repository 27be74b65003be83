-- How long a disk may be.
use Rattle.std.specs.Prelude.{ℕ, ◌+◌, ◌^◌, Bool, nat_le}

-- a write of n bytes at this place would end past the greatest length
abbrev pub past_end : ℕ → ℕ → Bool
past_end at n = nat_le (2 ^ 63) (at + n)
