-- The root: a record that names the place of a journal's live segment.
use Rattle.std.specs.Prelude.{◌≡◌, ℕ, ◌+◌, ◌%◌, Bool, false, not, nat_le, if◌then◌else◌, List, [], ◌∷◌, ◌++◌, length, take}
use Rattle.std.specs.List.{AllByRecursion}
use Rattle.std.specs.Int.{w64, from_be_bytes}
use Rattle.redo_journal.specs.Bytes.{FitsLength, StandsAt, front}
use Rattle.redo_journal.specs.declared.root.Root.{Root}

-- a payload of a root's form: 21 bytes, the first four of them 255
pub record IsRoot (payload : List ℕ) : Type 0 where
  pub size : length payload ≡ 21
  pub mark : take 4 payload ≡ 255 ∷ 255 ∷ 255 ∷ 255 ∷ []

-- no payload of these has that form
abbrev pub NoneIsRoot : List (List ℕ) → Type 0
NoneIsRoot = AllByRecursion (λ payload. IsRoot payload → ⊥)

-- what stands from a root's gate on, up to its selector
abbrev pub root_mark : List ℕ
root_mark = 1 ∷ 0 ∷ 0 ∷ 0 ∷ 21 ∷ 255 ∷ 255 ∷ 255 ∷ 255 ∷ []

-- the number of the first cell or of the second
abbrev pub cell_number : Bool → ℕ
cell_number second = if second then 1 else 0

-- and its place, behind a root's gate and selector
abbrev pub cell_place : ℕ → Bool → ℕ
cell_place gate second = gate + (if second then 18 else 10)

-- a root stands at this gate, behind whole records, none of them a root
pub record HasRoot (text : List ℕ) (root : Root) (image : List ℕ) : Type 0 where
  pub before : List (List ℕ)
  pub before_fit : AllByRecursion FitsLength before
  pub none_is_root : NoneIsRoot before
  pub gate_is : root.gate ≡ length (front text before)
  pub stands : StandsAt 0 (front text before ++ root_mark) image

-- the low bit of its selector is the number of this cell
pub record Selects (root : Root) (image : List ℕ) : Type 0 where
  pub selector : ℕ
  pub stands : StandsAt (root.gate + 9) (selector ∷ []) image
  pub low_bit : selector % 2 ≡ cell_number root.second

-- the cell holds this place in its eight bytes, the highest first
pub record HasCell (root : Root) (image : List ℕ) : Type 0 where
  pub cell : List ℕ
  pub size : length cell ≡ 8
  pub stands : StandsAt (cell_place root.gate root.second) cell image
  pub holds : from_be_bytes w64 cell ≡ root.live

-- the place of the byte behind a root, which has 26 bytes with its gate and its length
abbrev pub root_end : Root → ℕ
root_end root = root.gate + 26

-- a root that is written at this gate: its first cell is named, and the segment stands right behind
abbrev pub new_root : ℕ → Root
new_root gate = record { gate = gate; second = false; live = gate + 27 }

-- where a segment of so many bytes goes: right behind the root, where it ends there before the live
-- segment begins, and else behind the last gate
abbrev pub segment_place : Root → ℕ → ℕ → ℕ
segment_place root last n = if nat_le (root.gate + 27 + n) root.live then root.gate + 27 else last + 1

-- a root that names its other cell, which holds that place
abbrev pub rotated_root : Root → ℕ → ℕ → Root
rotated_root root last n =
    record { gate = root.gate; second = not root.second; live = segment_place root last n }
