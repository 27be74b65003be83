-- Which changes fit a schema.
use Rattle.std.specs.Prelude.{◌≡◌, ℕ, ◌<◌, ◌^◌, false, List, [], map, length, get_or}
use Rattle.std.specs.List.{AllByRecursion, AllZip}
use Rattle.index_tree.specs.Ordered.{IsAscending}
use Rattle.row_types.specs.declared.values.Value.{Value}
use Rattle.row_types.specs.declared.values.Value.TheVariants.{Null}
use Rattle.row_types.specs.declared.columns.Column.{Column}
use Rattle.row_types.specs.declared.columns.Kind.TheVariants.{Int}
use Rattle.row_types.specs.declared.columns.Fit.TheVariants.{Fine}
use Rattle.row_types.specs.declared.tables.Schema.{Schema}
use Rattle.row_types.specs.Fit.{fit_of}
use Rattle.row_types.specs.Valid.{IsHeld}
use Rattle.change_set.specs.declared.change.Change.{Change}
use Rattle.change_set.specs.declared.change.Change.TheVariants.{Put, Delete, Count}
use Rattle.change_set.specs.Sets.{def_in, key_columns, change_cmp}

-- A column holds a value, whose integers have 64 bits.
pub record Holds (column : Column) (value : Value) : Type 0 where
  pub fits : fit_of column value ≡ Fine
  pub held : IsHeld value

-- There is one value for each of these columns, and the column holds it.
abbrev pub AreHeld : List Column → List Value → Type 0
AreHeld columns values = AllZip Holds columns values

-- What a number stands for that is no column's.
abbrev pub no_column : Column
no_column = record { name = []; kind = Int; null = false; auto = false; preset = Null }

-- The columns at these places.
abbrev pub columns_at : List Column → List ℕ → List Column
columns_at columns places = map (λ place. get_or columns place no_column) places

-- A change is of a table of the schema, and its values are held by their columns. A counter has 64 bits.
abbrev pub FitsSchema : Schema → Change → Type 0
FitsSchema schema (Put table row) =
    (table < length schema.tables) × AreHeld (def_in schema table).columns row
FitsSchema schema (Delete table key) =
    (table < length schema.tables)
    × AreHeld (columns_at (def_in schema table).columns (key_columns schema table)) key
FitsSchema schema (Count table counter) = (table < length schema.tables) × (counter < 2 ^ 64)

-- Each change fits the schema and stands behind all before it.
pub record AreChanges (schema : Schema) (changes : List Change) : Type 0 where
  pub each : AllByRecursion (FitsSchema schema) changes
  pub ascending : IsAscending (change_cmp schema) changes
  pub most : length changes < 2 ^ 32

-- Each integer of a change's values has 64 bits.
abbrev pub IsHeldIn : Change → Type 0
IsHeldIn (Put table row) = AllByRecursion IsHeld row
IsHeldIn (Delete table key) = AllByRecursion IsHeld key
IsHeldIn (Count table counter) = Unit {0}

-- And each integer of all of them.
abbrev pub AreValuesHeld : List Change → Type 0
AreValuesHeld changes = AllByRecursion IsHeldIn changes
