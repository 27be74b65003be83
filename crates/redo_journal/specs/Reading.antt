-- What a reading of an image answers.
use Rattle.std.specs.Prelude.{◌≡◌, ◌≢◌, ◌⊎◌, ℕ, ◌+◌, ◌^◌, ◌<◌, ◌≤◌, List, [], ◌∷◌, length, get_or, drop}
use Rattle.std.specs.List.{AllByRecursion}
use Rattle.redo_journal.specs.Bytes.{FitsLength, StandsAt, IsCutShort, counted, heading, records_of, segment_head}
use Rattle.redo_journal.specs.Root.{IsRoot, NoneIsRoot, HasCell, Selects, root_mark, root_end}
use Rattle.redo_journal.specs.Damage.{HasOtherText, HasDamagedHeader}
use Rattle.redo_journal.specs.Records.{payloads_of, placed}
use Rattle.redo_journal.specs.declared.head.Head.{Head}
use Rattle.redo_journal.specs.declared.record.Record.{Record}
use Rattle.redo_journal.specs.declared.refusal.Refusal.{Refusal}
use Rattle.redo_journal.specs.declared.refusal.Refusal.TheVariants.{OtherSchema, Damaged, DiskFault, NoMemory}
use Rattle.redo_journal.specs.declared.root.Root.{Root}

-- why the header is not read
abbrev pub RefusesHeader : List ℕ → List ℕ → Refusal → Type 0
RefusesHeader text image OtherSchema = HasOtherText text image
RefusesHeader text image (Damaged place) = (place ≡ 0) × HasDamagedHeader image
RefusesHeader text image DiskFault = ⊥
RefusesHeader text image NoMemory = ⊥

-- the header is whole and has this text, and behind it stands the first record's gate
pub record ReadsHeader (text image : List ℕ) (first : ℕ) : Type 0 where
  pub text_fits : FitsLength text
  pub header : StandsAt 0 (1 ∷ heading text) image
  pub first_is : first ≡ length (1 ∷ heading text)
  pub within : first < length image

-- whole records with these payloads stand from this place on, up to a gate
pub record RunFrom (image : List ℕ) (first : ℕ) (payloads : List (List ℕ)) (gate : ℕ) : Type 0 where
  pub fit : AllByRecursion FitsLength payloads
  pub stand : StandsAt first (records_of payloads) image
  pub gate_is : gate ≡ first + length (records_of payloads)
  pub within : gate < length image

-- a gate that is open and whose record isn't whole
pub record BreaksAt (gate : ℕ) (image : List ℕ) : Type 0 where
  pub open_gate : StandsAt gate (1 ∷ []) image
  pub cut : IsCutShort (drop (gate + 1) image)

-- these whole records stand from this place on, up to a gate
pub record StandFrom (image : List ℕ) (first : ℕ) (records : List Record) (gate : ℕ) : Type 0 where
  pub places : records ≡ placed first (payloads_of records)
  pub run : RunFrom image first (payloads_of records) gate

-- whole records, none of them a root, stand from this place on, up to a gate
pub record SkipsTo (image : List ℕ) (first gate : ℕ) : Type 0 where
  pub payloads : List (List ℕ)
  pub none_is_root : NoneIsRoot payloads
  pub run : RunFrom image first payloads gate

-- the record whose open gate stands at this place, and the place of the next gate
pub record ReadsRecord (image : List ℕ) (gate : ℕ) (payload : List ℕ) (next : ℕ) : Type 0 where
  pub fits : FitsLength payload
  pub stands : StandsAt gate (1 ∷ counted payload) image
  pub next_is : next ≡ gate + (5 + length payload)
  pub within : next < length image

-- why it is not read
abbrev pub RefusesRecord : List ℕ → ℕ → Refusal → Type 0
RefusesRecord image gate OtherSchema = ⊥
RefusesRecord image gate (Damaged place) = (place ≡ gate) × BreaksAt gate image
RefusesRecord image gate DiskFault = ⊥
RefusesRecord image gate NoMemory = ⊥

-- whole records stand from this place on, up to a gate that is open and whose record isn't whole
pub record BreakOffAt (image : List ℕ) (first place : ℕ) : Type 0 where
  pub payloads : List (List ℕ)
  pub run : RunFrom image first payloads place
  pub breaks : BreaksAt place image

-- and none of them is a root
pub record SkipBreaksAt (image : List ℕ) (first place : ℕ) : Type 0 where
  pub skips : SkipsTo image first place
  pub breaks : BreaksAt place image

-- why the records from this place on are not read
abbrev pub RefusesRecords : List ℕ → ℕ → Refusal → Type 0
RefusesRecords image first OtherSchema = ⊥
RefusesRecords image first (Damaged place) = BreakOffAt image first place
RefusesRecords image first DiskFault = ⊥
RefusesRecords image first NoMemory = Unit {0}

-- why they are not skipped
abbrev pub RefusesSkip : List ℕ → ℕ → Refusal → Type 0
RefusesSkip image first OtherSchema = ⊥
RefusesSkip image first (Damaged place) = SkipBreaksAt image first place
RefusesSkip image first DiskFault = ⊥
RefusesSkip image first NoMemory = ⊥

-- a whole record of a root's form stands at this gate
pub record IsRootAt (gate : ℕ) (image : List ℕ) : Type 0 where
  pub stands : StandsAt gate root_mark image
  pub whole : gate + 26 < length image

-- the root whose gate stands at this place
pub record ReadsRoot (image : List ℕ) (gate : ℕ) (root : Root) : Type 0 where
  pub gate_is : root.gate ≡ gate
  pub selects : Selects root image
  pub has_cell : HasCell root image

-- the head of the segment that a root names, up to a gate
pub record ReadsHead (image : List ℕ) (root : Root) (read : Head) : Type 0 where
  pub behind : root_end root < root.live
  pub first_fits : read.first < 2 ^ 64
  pub area_fits : FitsLength read.area
  pub stands : StandsAt root.live (segment_head read.first read.area) image
  pub end_is : read.end ≡ root.live + length (segment_head read.first read.area)
  pub within : read.end < length image

-- why it is not read
abbrev pub RefusesHead : List ℕ → Root → Refusal → Type 0
RefusesHead image root OtherSchema = ⊥
RefusesHead image root (Damaged place) =
    (place ≡ root.gate) × ((root.live ≤ root_end root) ⊎ IsCutShort (drop (root.live + 8) image))
RefusesHead image root DiskFault = ⊥
RefusesHead image root NoMemory = Unit {0}

-- the gate is closed, or that of a root
abbrev pub EndsAt : ℕ → List ℕ → Type 0
EndsAt gate image = (get_or image gate 0 ≢ 1) ⊎ IsRootAt gate image

-- a whole record that isn't a root stands at this gate, up to the next one
pub record SkipsRecord (image : List ℕ) (gate next : ℕ) : Type 0 where
  pub payload : List ℕ
  pub no_root : IsRoot payload → ⊥
  pub reads : ReadsRecord image gate payload next
