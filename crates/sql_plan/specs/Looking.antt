-- Looking at rows, and how often that was done.
use Rattle.std.specs.Prelude.{ℕ, ◌+◌, ◌-◌, ◌^◌, min}
use Rattle.table_rows.specs.Rows.{State}

-- The tables, and how many steps were taken in them.
pub record Looking : Type 0 where
  pub state : State
  pub looked : ℕ

-- One more step, up to the greatest number of 64 bits.
abbrev pub one_more : ℕ → ℕ
one_more looked = min (looked + 1) (2 ^ 64 - 1)
