-- Areas: what makes empty tables into others.
use Rattle.std.specs.Prelude.{◌≡◌, ◌⊎◌, ℕ, List, [], ◌∷◌, ◌++◌, length, Ok, Err}
use Rattle.std.specs.Int.{w32, w64, to_be_bytes}
use Rattle.row_types.specs.declared.tables.Schema.{Schema}
use Rattle.table_rows.specs.Database.{Database, empty_database}
use Rattle.change_set.specs.declared.change.Change.{Change}
use Rattle.change_set.specs.declared.damage.Damage.{Damage}
use Rattle.change_set.specs.declared.damage.Damage.TheVariants as damage
use Rattle.change_set.specs.Net.{changes}
use Rattle.change_set.specs.Payload.{payload}
use Rattle.change_set.specs.Putting.{put, Applies}
use Rattle.change_set.specs.Reading.{area_set}

-- What an area makes of empty tables.
pub record Makes (schema : Schema) (bytes_max : ℕ) (area : List ℕ) (db : Database) : Type 0 where
  pub set : List Change
  pub read : area_set schema area ≡ Ok set
  pub applies : Applies (empty_database schema bytes_max) set
  pub is : db ≡ put (empty_database schema bytes_max) set

-- The area that is written of tables.
abbrev pub area_of : Database → List ℕ
area_of db = payload (changes (empty_database db.schema db.bytes_max) db)

-- A segment without records: the number of the records before it, its area behind the length of that, and a gate that
-- is closed.
abbrev pub segment_of : ℕ → List ℕ → List ℕ
segment_of number area = to_be_bytes w64 number ++ to_be_bytes w32 (length area) ++ area ++ 0 ∷ []

-- An area is read as a set that doesn't apply to empty tables.
pub record MakesNone (schema : Schema) (bytes_max : ℕ) (area : List ℕ) : Type 0 where
  pub set : List Change
  pub read : area_set schema area ≡ Ok set
  pub applies : Applies (empty_database schema bytes_max) set → ⊥

-- Why bytes make no tables: no set is read, and this is the place of the fault; or it doesn't apply, and the place is 0.
abbrev pub IsNoArea : Schema → ℕ → List ℕ → Damage → Type 0
IsNoArea schema bytes_max area (damage.Bad place) =
    (area_set schema area ≡ Err place) ⊎ ((place ≡ 0) × MakesNone schema bytes_max area)
IsNoArea schema bytes_max area damage.NoMemory = Unit {0}
