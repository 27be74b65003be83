-- The bytes that a journal is made of, and how they stand in an image.
use Rattle.std.specs.Prelude.{◌≡◌, ◌≢◌, ℕ, ◌+◌, ◌^◌, ◌<◌, ◌≤◌, List, [], ◌∷◌, ◌++◌, length, take, drop}
use Rattle.std.specs.Int.{w32, w64, to_be_bytes, from_be_bytes}

-- the bytes of `HSJRNL01`
abbrev pub mark : List ℕ
mark = 72 ∷ 83 ∷ 74 ∷ 82 ∷ 78 ∷ 76 ∷ 48 ∷ 49 ∷ []

-- a text behind its length in four bytes, the highest first
unfoldable pub counted : List ℕ → List ℕ
counted text = to_be_bytes w32 (length text) ++ text

-- what stands behind the first gate: the mark and the schema text
abbrev pub heading : List ℕ → List ℕ
heading text = mark ++ counted text

-- records: each an open gate and a payload behind its length
abbrev pub records_of : List (List ℕ) → List ℕ
records_of [] = []
records_of (payload ∷ payloads) = (1 ∷ counted payload) ++ records_of payloads

-- a journal up to the gate behind these records
abbrev pub front : List ℕ → List (List ℕ) → List ℕ
front text payloads = (1 ∷ heading text) ++ records_of payloads

-- the head of a segment: the number of the records before it in eight bytes, and its area behind
-- the length of it
unfoldable pub segment_head : ℕ → List ℕ → List ℕ
segment_head number area = to_be_bytes w64 number ++ counted area

-- a segment up to the gate behind these records
abbrev pub segment_front : ℕ → List ℕ → List (List ℕ) → List ℕ
segment_front number area payloads = segment_head number area ++ records_of payloads

-- its length fits four bytes
abbrev pub FitsLength : List ℕ → Type 0
FitsLength text = length text < 2 ^ 32

-- the number in the first four bytes, the highest first
unfoldable pub length_of : List ℕ → ℕ
length_of bytes = from_be_bytes w32 (take 4 bytes)

-- the length in front of a text, the text or the gate that follows lies past the end
abbrev pub IsCutShort : List ℕ → Type 0
IsCutShort rest = length rest ≤ 4 + length_of rest

-- these bytes stand at this place of an image
abbrev pub StandsAt : ℕ → List ℕ → List ℕ → Type 0
StandsAt place bytes image = take (length bytes) (drop place image) ≡ bytes

-- a gate that is closed stands at this place
pub record ClosedAt (place : ℕ) (image : List ℕ) : Type 0 where
  pub gate : ℕ
  pub stands : StandsAt place (gate ∷ []) image
  pub closed : gate ≢ 1
