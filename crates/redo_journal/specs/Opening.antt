-- What the opening of a journal answers.
use Rattle.std.specs.Prelude.{◌≡◌, ◌≢◌, ◌⊎◌, ℕ, ◌-◌, ◌<◌, ◌^◌, None, List, length, slice_index}
use Rattle.redo_journal.specs.Bytes.{records_of}
use Rattle.redo_journal.specs.Image.{Contents}
use Rattle.redo_journal.specs.Damage.{HasOtherText, HasHighNumber, IsDamagedAt}
use Rattle.redo_journal.specs.Journal.{Standing, IsOf, records}
use Rattle.redo_journal.specs.Reading.{IsRootAt, ReadsHeader, SkipsTo}
use Rattle.redo_journal.specs.Records.{payloads_of, placed}
use Rattle.redo_journal.specs.declared.opened.Opened.{Opened}
use Rattle.redo_journal.specs.declared.record.Record.{Record}
use Rattle.redo_journal.specs.declared.refusal.Refusal.{Refusal}
use Rattle.redo_journal.specs.declared.refusal.Refusal.TheVariants.{OtherSchema, Damaged, DiskFault, NoMemory}

-- what is handed out
abbrev pub contents_of : Opened → Contents
contents_of opened = record {
  first = opened.first;
  area = opened.area;
  payloads = payloads_of opened.records.items;
}

-- the records stand one behind the other, up to this gate
abbrev pub StandUpTo : ℕ → List Record → Type 0
StandUpTo gate records =
    records ≡ placed (gate - length (records_of (payloads_of records))) (payloads_of records)

-- an image is that of a journal with what is handed out
pub record Opens (text image : List ℕ) (journal : Standing) (opened : Opened) : Type 0 where
  pub is : IsOf text (contents_of opened) journal image
  pub places : StandUpTo journal.gate opened.records.items
  pub quiet : journal.doubt ≡ None
  pub low : records journal < 2 ^ 63

-- a gate at which an image is damaged, or behind which the records have too high a number
abbrev pub IsRefusedAt : List ℕ → ℕ → List ℕ → Type 0
IsRefusedAt text place image = IsDamagedAt text place image ⊎ HasHighNumber (2 ^ 63) text place image

-- why an image is not opened
abbrev pub RefusesImage : List ℕ → List ℕ → Refusal → Type 0
RefusesImage text image OtherSchema = HasOtherText text image
RefusesImage text image (Damaged place) = IsRefusedAt text place image
RefusesImage text image DiskFault = Unit {0}
RefusesImage text image NoMemory = Unit {0}

-- why one that is read already is not opened
abbrev pub RefusesReading : List ℕ → List ℕ → Refusal → Type 0
RefusesReading text image OtherSchema = HasOtherText text image
RefusesReading text image (Damaged place) = IsRefusedAt text place image
RefusesReading text image DiskFault = ⊥
RefusesReading text image NoMemory = Unit {0}

-- why a disk is not read
abbrev pub RefusesLoad : Refusal → Type 0
RefusesLoad OtherSchema = ⊥
RefusesLoad (Damaged place) = ⊥
RefusesLoad DiskFault = Unit {0}
RefusesLoad NoMemory = Unit {0}

-- behind a header with this text stand whole records, none of them a root, and then a gate that isn't
-- open
pub record IsPlainFrom (text image : List ℕ) (first : ℕ) : Type 0 where
  pub header : ReadsHeader text image first
  pub gate : ℕ
  pub skips : SkipsTo image first gate
  pub shut : slice_index image gate ≢ 1

-- the same, but then the gate of a root, at this place
pub record IsRootedFrom (text image : List ℕ) (gate : ℕ) : Type 0 where
  pub first : ℕ
  pub header : ReadsHeader text image first
  pub skips : SkipsTo image first gate
  pub is_root : IsRootAt gate image
