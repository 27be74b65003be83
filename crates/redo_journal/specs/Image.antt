-- What the bytes of a journal stand for.
use Rattle.std.specs.Prelude.{◌≡◌, ◌≢◌, ◌⊎◌, ℕ, ◌+◌, ◌^◌, ◌<◌, Option, None, Some, List, [], ◌∷◌, ◌++◌, length}
use Rattle.std.specs.List.{AllByRecursion}
use Rattle.redo_journal.specs.Bytes.{FitsLength, StandsAt, ClosedAt, front, segment_front}
use Rattle.redo_journal.specs.Root.{NoneIsRoot, HasRoot, HasCell, Selects, root_end}
use Rattle.redo_journal.specs.declared.root.Root.{Root}

-- what a journal stands for: the number of the records before its area, the area, where it has one,
-- and the payloads of the records behind it
pub record Contents : Type 0 where
  pub first : ℕ
  pub area : Option (List ℕ)
  pub payloads : List (List ℕ)

-- how many records that makes
abbrev pub count : Contents → ℕ
count contents = contents.first + length contents.payloads

-- no record
abbrev pub nothing : Contents
nothing = record { first = 0; area = None; payloads = [] }

-- one payload more
abbrev pub added : Contents → List ℕ → Contents
added contents payload = record contents { payloads = contents.payloads ++ payload ∷ [] }

-- an area for so many records, and none behind it
abbrev pub area_alone : ℕ → List ℕ → Contents
area_alone number area = record { first = number; area = Some area; payloads = [] }

-- without a root, the records stand behind the header, up to this gate
pub record IsPlain (text : List ℕ) (payloads : List (List ℕ)) (gate : ℕ) (image : List ℕ) : Type 0 where
  pub none_is_root : NoneIsRoot payloads
  pub stands : StandsAt 0 (front text payloads) image
  pub gate_is : gate ≡ length (front text payloads)

-- a segment stands at this place, up to this gate
pub record IsSegmentAt (place first : ℕ) (area : List ℕ) (payloads : List (List ℕ)) (gate : ℕ)
    (image : List ℕ) : Type 0 where
  pub first_fits : first < 2 ^ 64
  pub area_fits : FitsLength area
  pub stands : StandsAt place (segment_front first area payloads) image
  pub gate_is : gate ≡ place + length (segment_front first area payloads)

-- the segment stands where this cell of the root says, behind the root and the byte that follows it
pub record IsRooted (text : List ℕ) (first : ℕ) (area : List ℕ) (payloads : List (List ℕ))
    (root : Root) (gate : ℕ) (image : List ℕ) : Type 0 where
  pub has_root : HasRoot text root image
  pub has_cell : HasCell root image
  pub behind : root_end root < root.live
  pub segment : IsSegmentAt root.live first area payloads gate image

-- a journal up to its last gate: without a root, it has no area and no record is before it; with
-- one, the selector names the cell, and the number of all records fits eight bytes
abbrev pub IsForm : List ℕ → ℕ → List (List ℕ) → Option (List ℕ) → Option Root → ℕ → List ℕ → Type 0
IsForm text first payloads None None gate image = (first ≡ 0) × IsPlain text payloads gate image
IsForm text first payloads None (Some root) gate image = ⊥
IsForm text first payloads (Some area) None gate image = ⊥
IsForm text first payloads (Some area) (Some root) gate image =
    (first + length payloads < 2 ^ 64)
    × Selects root image
    × IsRooted text first area payloads root gate image

-- the image of a journal with these contents, and with this root and last gate, which is closed;
-- what else it has is free
pub record IsImageAt (text : List ℕ) (contents : Contents) (root : Option Root) (gate : ℕ)
    (image : List ℕ) : Type 0 where
  pub text_fits : FitsLength text
  pub payloads_fit : AllByRecursion FitsLength contents.payloads
  pub form : IsForm text contents.first contents.payloads contents.area root gate image
  pub shut : ClosedAt gate image

-- the image of a journal with these contents
pub record Journals (text : List ℕ) (contents : Contents) (image : List ℕ) : Type 0 where
  pub root : Option Root
  pub gate : ℕ
  pub is : IsImageAt text contents root gate image

-- nothing was written yet: at most one byte, or a first gate that is not open
abbrev pub IsFresh : List ℕ → Type 0
IsFresh [] = Unit {0}
IsFresh (gate ∷ []) = Unit {0}
IsFresh (gate ∷ byte ∷ rest) = gate ≢ 1

-- the image of a journal, or a fresh one with no record
abbrev pub StandsFor : List ℕ → Contents → List ℕ → Type 0
StandsFor text contents image = (IsFresh image × (contents ≡ nothing)) ⊎ Journals text contents image
