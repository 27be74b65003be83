-- What recovery answers.
use Rattle.std.specs.Prelude.{◌≡◌, ◌⊎◌, ℕ, ◌+◌, ◌^◌, ◌<◌, Option, Some, List, ◌∷◌, ◌++◌, length}
use Rattle.row_types.specs.declared.tables.Schema.{Schema}
use Rattle.table_rows.specs.Database.{Database}
use Rattle.check_point.specs.Area.{Makes, area_of}
use Rattle.hs_schema.specs.Spelling.{spelled}
use Rattle.redo_journal.specs.Bytes.{records_of}
use Rattle.redo_journal.specs.Damage.{HasOtherText}
use Rattle.redo_journal.specs.Image.{Contents, IsImageAt, Journals, area_alone, nothing, count}
use Rattle.redo_journal.specs.Journal.{Standing, StandsOn, records}
use Rattle.redo_journal.specs.Opening.{IsRefusedAt}
use Rattle.redo_journal.specs.Records.{payloads_of}
use Rattle.redo_journal.specs.declared.record.Record.{Record}
use Rattle.redo_journal.specs.declared.refusal.Refusal.{Refusal}
use Rattle.redo_journal.specs.declared.refusal.Refusal.TheVariants.{OtherSchema, Damaged, DiskFault, NoMemory}
use Rattle.redo_journal.specs.declared.root.Root.{Root}
use Rattle.table_recovery.specs.Shown.{Begins, Leads, LeadAll, Shows}

-- A journal stands on its disk for contents that show these tables and the number of its records.
pub record ShownOn (schema : Schema) (bytes_max : ℕ) (db : Database) (journal : Standing)
    (seen : List ℕ) (may_leave : List ℕ → Type 0) : Type 0 where
  pub contents : Contents
  pub stands : StandsOn (spelled schema) contents nothing journal seen may_leave
  pub shows : Shows schema bytes_max contents db (records journal)

-- No tables are made by this area.
abbrev pub MakesNothing : Schema → ℕ → List ℕ → Type 0
MakesNothing schema bytes_max area = (db : Database) → Makes schema bytes_max area db → ⊥

-- No tables are led to by this payload.
abbrev pub LeadsNowhere : Database → List ℕ → Type 0
LeadsNowhere db bytes = (after : Database) → Leads db bytes after → ⊥

-- The journal's root stands at this gate, and its area makes no tables.
pub record HasBadArea (schema : Schema) (bytes_max place : ℕ) (image : List ℕ) : Type 0 where
  pub contents : Contents
  pub root : Root
  pub gate : ℕ
  pub area : List ℕ
  pub is : IsImageAt (spelled schema) contents (Some root) gate image
  pub low : count contents < 2 ^ 63
  pub area_is : contents.area ≡ Some area
  pub makes : MakesNothing schema bytes_max area
  pub place_is : place ≡ root.gate

-- Behind these records of the journal, at this gate, stands the first whose payload leads nowhere. It and those behind
-- it end at the last gate.
pub record HasBadRecord (schema : Schema) (bytes_max place : ℕ) (image : List ℕ) : Type 0 where
  pub contents : Contents
  pub root : Option Root
  pub gate : ℕ
  pub before : List (List ℕ)
  pub bytes : List ℕ
  pub behind : List (List ℕ)
  pub start : Database
  pub db : Database
  pub is : IsImageAt (spelled schema) contents root gate image
  pub low : count contents < 2 ^ 63
  pub payloads_are : contents.payloads ≡ before ++ bytes ∷ behind
  pub begins : Begins schema bytes_max contents.area start
  pub leads : LeadAll start before db
  pub nowhere : LeadsNowhere db bytes
  pub place_is : gate ≡ place + length (records_of (bytes ∷ behind))

-- The image is damaged at this gate, as a journal or as what its area and its payloads are to be.
abbrev pub IsDamagedFor : Schema → ℕ → ℕ → List ℕ → Type 0
IsDamagedFor schema bytes_max place image =
    IsRefusedAt (spelled schema) place image
    ⊎ HasBadArea schema bytes_max place image
    ⊎ HasBadRecord schema bytes_max place image

-- Why no tables are made of an image.
abbrev pub RefusesTables : Schema → ℕ → List ℕ → Refusal → Type 0
RefusesTables schema bytes_max image OtherSchema = HasOtherText (spelled schema) image
RefusesTables schema bytes_max image (Damaged place) = IsDamagedFor schema bytes_max place image
RefusesTables schema bytes_max image DiskFault = Unit {0}
RefusesTables schema bytes_max image NoMemory = Unit {0}

-- It is for the bytes that were read.
abbrev pub IsOfBytes : Refusal → Type 0
IsOfBytes OtherSchema = Unit {0}
IsOfBytes (Damaged place) = Unit {0}
IsOfBytes DiskFault = ⊥
IsOfBytes NoMemory = ⊥

-- Why an area, if there is one, makes no tables: the root stands at this gate.
abbrev pub RefusesArea : Schema → ℕ → Option (List ℕ) → ℕ → Refusal → Type 0
RefusesArea schema bytes_max read gate OtherSchema = ⊥
RefusesArea schema bytes_max read gate (Damaged place) =
    (place ≡ gate) × ((area : List ℕ) × (read ≡ Some area) × MakesNothing schema bytes_max area)
RefusesArea schema bytes_max read gate DiskFault = ⊥
RefusesArea schema bytes_max read gate NoMemory = Unit {0}

-- Why a record leads nowhere.
abbrev pub RefusesRecord : Database → Record → Refusal → Type 0
RefusesRecord db read OtherSchema = ⊥
RefusesRecord db read (Damaged place) = (place ≡ read.place) × LeadsNowhere db read.payload
RefusesRecord db read DiskFault = ⊥
RefusesRecord db read NoMemory = Unit {0}

-- Of some records, this is the first that leads nowhere.
pub record StopsAt (start : Database) (records : List Record) (place : ℕ) : Type 0 where
  pub before : List Record
  pub stop : Record
  pub behind : List Record
  pub are : records ≡ before ++ stop ∷ behind
  pub db : Database
  pub leads : LeadAll start (payloads_of before) db
  pub refuses : RefusesRecord db stop (Damaged place)

-- Why records lead nowhere.
abbrev pub RefusesRecords : Database → List Record → Refusal → Type 0
RefusesRecords start records OtherSchema = ⊥
RefusesRecords start records (Damaged place) = StopsAt start records place
RefusesRecords start records DiskFault = ⊥
RefusesRecords start records NoMemory = Unit {0}

-- While a journal gets a root, an image is of the contents that it had, or of an area that makes the same tables.
abbrev pub Turns : List ℕ → Contents → Database → ℕ → List ℕ → Type 0
Turns text contents db place image =
    Journals text contents image
    ⊎ (Makes db.schema db.bytes_max (area_of db) db × Journals text (area_alone place (area_of db)) image)
