-- What the steps of reading and writing say of bytes. No public clause cites these.
use Rattle.std.specs.Prelude.{◌≡◌, ℕ, ◌+◌, ◌<◌, ◌≤◌, List, [], ◌∷◌, ◌++◌, length, drop, slice_range, Bool, false, ◌||◌, ◌==◌, nat_lt, if◌then◌else◌}
use Rattle.hs_token.specs.Reading.{fields_of}

-- The piece that begins at one place of a line ends at the HT at another.
pub record EndsPiece (line : List ℕ) (start end : ℕ) : Type 0 where
  pub order : start ≤ end
  pub within : end < length line
  pub pieces :
      fields_of (drop start line) ≡ slice_range line start end ∷ fields_of (drop (end + 1) line)

-- Whether an 0x01 is among these bytes.
abbrev pub has_escape : List ℕ → Bool
has_escape [] = false
has_escape (b ∷ bs) = b == 1 || has_escape bs

-- How many bytes of a text don't stand for themselves.
abbrev pub escapes_in : List ℕ → ℕ
escapes_in [] = 0
escapes_in (b ∷ bs) = if nat_lt b 16 then escapes_in bs + 1 else escapes_in bs

-- The old bytes stand in front, whatever was appended before memory ran out.
abbrev pub Extends : List ℕ → List ℕ → Type 0
Extends before now = (more : List ℕ) × (now ≡ before ++ more)
