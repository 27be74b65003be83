-- Which tables a journal shows.
use Rattle.std.specs.Prelude.{◌≡◌, ◌⊎◌, ℕ, Option, Some, None, List, [], ◌∷◌, Ok}
use Rattle.row_types.specs.declared.tables.Schema.{Schema}
use Rattle.table_rows.specs.Database.{Database, empty_database}
use Rattle.change_set.specs.declared.change.Change.{Change}
use Rattle.change_set.specs.Putting.{put, Applies}
use Rattle.change_set.specs.Reading.{set_of}
use Rattle.check_point.specs.Area.{Makes}
use Rattle.hs_disk.specs.Disk.{AllImages}
use Rattle.hs_schema.specs.Spelling.{spelled}
use Rattle.redo_journal.specs.Image.{Contents, IsFresh, StandsFor, count, nothing}

-- The tables that an area makes, or empty ones where there is no area.
abbrev pub Begins : Schema → ℕ → Option (List ℕ) → Database → Type 0
Begins schema bytes_max None db = db ≡ empty_database schema bytes_max
Begins schema bytes_max (Some area) db = Makes schema bytes_max area db

-- A payload leads from tables to others: it is read as a set, which applies, and is put.
pub record Leads (before : Database) (bytes : List ℕ) (after : Database) : Type 0 where
  pub set : List Change
  pub read : set_of before.schema bytes ≡ Ok set
  pub applies : Applies before set
  pub is : after ≡ put before set

-- Payloads lead from tables to others, one after the other.
abbrev pub LeadAll : Database → List (List ℕ) → Database → Type 0
LeadAll before [] after = after ≡ before
LeadAll before (bytes ∷ payloads) after =
    (next : Database) × Leads before bytes next × LeadAll next payloads after

-- What contents show: the tables behind the area and the payloads, and the number of all records.
pub record Shows (schema : Schema) (bytes_max : ℕ) (contents : Contents) (db : Database) (place : ℕ) : Type 0 where
  pub start : Database
  pub begins : Begins schema bytes_max contents.area start
  pub leads : LeadAll start contents.payloads db
  pub place_is : place ≡ count contents

-- What an image shows: what the contents that it stands for show.
pub record ImageShows (schema : Schema) (bytes_max : ℕ) (db : Database) (place : ℕ) (image : List ℕ) : Type 0 where
  pub contents : Contents
  pub journals : StandsFor (spelled schema) contents image
  pub shows : Shows schema bytes_max contents db place

-- All images that a crash may leave show these tables and this number: those of a disk that something was written to,
-- or, where a journal is still to be made, those that stand for nothing.
abbrev pub AllShow : Schema → ℕ → Database → ℕ → List ℕ → (List ℕ → Type 0) → Type 0
AllShow schema bytes_max db place seen may_leave =
    ((IsFresh seen → ⊥) × AllImages (ImageShows schema bytes_max db place) may_leave)
    ⊎ (Shows schema bytes_max nothing db place × AllImages (StandsFor (spelled schema) nothing) may_leave)
