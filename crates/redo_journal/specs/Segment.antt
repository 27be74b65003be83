-- The segments that are handed in.
use Rattle.std.specs.Prelude.{◌≡◌, ℕ, ◌^◌, ◌<◌, List, [], ◌∷◌, ◌++◌, take}
use Rattle.std.specs.Int.{w64, from_be_bytes}
use Rattle.redo_journal.specs.Bytes.{FitsLength, segment_head}

-- a segment without records: the number of the records before it, its area and a closed gate
pub record IsSegment (number : ℕ) (area : List ℕ) (bytes : List ℕ) : Type 0 where
  pub number_fits : number < 2 ^ 64
  pub area_fits : FitsLength area
  pub is : bytes ≡ segment_head number area ++ 0 ∷ []

-- for some number and area
pub record IsAnySegment (bytes : List ℕ) : Type 0 where
  pub number : ℕ
  pub area : List ℕ
  pub is : IsSegment number area bytes

-- the number that its first eight bytes spell, the highest first
unfoldable pub number_of : List ℕ → ℕ
number_of bytes = from_be_bytes w64 (take 8 bytes)
