-- What a buffer shows, and what it keeps beside its bytes: how long the first line is.
use Rattle.std.specs.Prelude.{◌≡◌, ℕ, ◌+◌, List, ◌∷◌, ◌++◌, Option, Some, None, take, drop}
use Rattle.hs_line.specs.Lines.{IsLine}

-- the bytes that are held, and how many a line may have
pub record Held : Type 0 where
  pub bytes : List ℕ
  pub most : ℕ

-- the first line of these bytes has this length, and None says that they have no line
abbrev pub FirstLine : List ℕ → Option ℕ → Type 0
FirstLine bytes None = IsLine bytes
FirstLine bytes (Some len) =
    IsLine (take len bytes) × (take len bytes ++ 10 ∷ drop (len + 1) bytes ≡ bytes)
