-- Why an image is that of no journal with this schema text.
use Rattle.std.specs.Prelude.{◌≡◌, ◌≢◌, ◌⊎◌, ℕ, ◌+◌, ◌^◌, ◌<◌, ◌≤◌, List, [], ◌∷◌, ◌++◌, length, take, drop}
use Rattle.std.specs.List.{AllByRecursion}
use Rattle.redo_journal.specs.Bytes.{FitsLength, StandsAt, ClosedAt, IsCutShort, front, heading, mark}
use Rattle.redo_journal.specs.Root.{NoneIsRoot, HasRoot, HasCell, Selects, root_end}
use Rattle.redo_journal.specs.Image.{IsRooted}
use Rattle.redo_journal.specs.declared.root.Root.{Root}

-- the header is whole, and has another schema text
pub record HasOtherText (text image : List ℕ) : Type 0 where
  pub other : List ℕ
  pub rest : List ℕ
  pub fits : FitsLength other
  pub is : image ≡ (1 ∷ heading other) ++ rest
  pub gate : rest ≢ []
  pub differs : other ≢ text

-- behind the first gate, which is open, stands no mark, or the text or the gate that follows lies
-- past the end
abbrev pub HasDamagedHeader : List ℕ → Type 0
HasDamagedHeader [] = ⊥
HasDamagedHeader (gate ∷ rest) =
    (gate ≡ 1) × (rest ≢ []) × ((take 8 rest ≢ mark) ⊎ IsCutShort (drop 8 rest))

-- after these whole records, none of them a root, the gate at this place is open and its record
-- isn't whole
pub record HasDamagedRecord (text : List ℕ) (place : ℕ) (image : List ℕ) : Type 0 where
  pub payloads : List (List ℕ)
  pub text_fits : FitsLength text
  pub payloads_fit : AllByRecursion FitsLength payloads
  pub none_is_root : NoneIsRoot payloads
  pub stands : StandsAt 0 (front text payloads ++ 1 ∷ []) image
  pub place_is : place ≡ length (front text payloads)
  pub cut : IsCutShort (drop (place + 1) image)

-- the root at this gate is whole, but its cell holds a place that isn't behind it, or the segment's
-- head, its area or the gate that follows lies past the end
pub record HasDamagedRoot (text : List ℕ) (place : ℕ) (image : List ℕ) : Type 0 where
  pub root : Root
  pub text_fits : FitsLength text
  pub has_root : HasRoot text root image
  pub selects : Selects root image
  pub has_cell : HasCell root image
  pub whole : root_end root < length image
  pub place_is : place ≡ root.gate
  pub bad : (root.live ≤ root_end root) ⊎ IsCutShort (drop (root.live + 8) image)

-- after these whole records of the live segment, the gate at this place is open and its record
-- isn't whole
pub record HasDamagedSegment (text : List ℕ) (place : ℕ) (image : List ℕ) : Type 0 where
  pub root : Root
  pub first : ℕ
  pub area : List ℕ
  pub payloads : List (List ℕ)
  pub text_fits : FitsLength text
  pub payloads_fit : AllByRecursion FitsLength payloads
  pub selects : Selects root image
  pub is_rooted : IsRooted text first area payloads root place image
  pub open_gate : StandsAt place (1 ∷ []) image
  pub cut : IsCutShort (drop (place + 1) image)

-- the root stands at this gate, and the number of all records is too high
pub record HasHighNumber (limit : ℕ) (text : List ℕ) (place : ℕ) (image : List ℕ) : Type 0 where
  pub root : Root
  pub first : ℕ
  pub area : List ℕ
  pub payloads : List (List ℕ)
  pub gate : ℕ
  pub text_fits : FitsLength text
  pub payloads_fit : AllByRecursion FitsLength payloads
  pub selects : Selects root image
  pub is_rooted : IsRooted text first area payloads root gate image
  pub shut : ClosedAt gate image
  pub place_is : place ≡ root.gate
  pub high : limit ≤ first + length payloads

-- the journal is damaged at this gate
abbrev pub IsDamagedAt : List ℕ → ℕ → List ℕ → Type 0
IsDamagedAt text place image =
    ((place ≡ 0) × HasDamagedHeader image)
    ⊎ HasDamagedRecord text place image
    ⊎ HasDamagedRoot text place image
    ⊎ HasDamagedSegment text place image
    ⊎ HasHighNumber (2 ^ 64) text place image
