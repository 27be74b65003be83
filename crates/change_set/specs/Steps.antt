-- Tables on the way from before a set of changes to after it.
use Rattle.std.specs.Prelude.{◌≡◌, ◌⊎◌, ℕ, ◌<◌, ◌≤◌, ◌^◌, false, List, ◌∷◌, length, take, Contains, None, slice_get, Some}
use Rattle.std.specs.List.{list_any, AllByRecursion}
use Rattle.row_types.specs.declared.values.Value.{Value}
use Rattle.table_rows.specs.Checks.{IsPlaceable}
use Rattle.table_rows.specs.Counters.{above_row}
use Rattle.table_rows.specs.Database.{Database, rows_alone}
use Rattle.table_rows.specs.Entries.{cells}
use Rattle.table_rows.specs.Rows.{State, def_of, entries_of, counted_at, counter_of}
use Rattle.table_rows.specs.Sizes.{total_with, most_bytes}
use Rattle.table_rows.specs.Valid.{IsValidState}
use Rattle.change_set.specs.declared.change.Change.{Change}
use Rattle.change_set.specs.declared.change.Change.TheVariants.{Put, Delete, Count}
use Rattle.change_set.specs.Putting.{is_of_row, counter_put, IsChange}
use Rattle.change_set.specs.Sets.{key_columns}

-- The rows of a table, without their slots.
abbrev pub rows_in : State → ℕ → List (List Value)
rows_in state table = rows_alone (entries_of state table)

-- No change is of this row of a table.
abbrev pub IsLeft : State → List Change → ℕ → List Value → Type 0
IsLeft state changes table row =
    list_any (is_of_row state.schema table (cells (key_columns state.schema table) row)) changes ≡ false

-- The tables have one shape.
pub record AreAlike (before after : State) : Type 0 where
  pub schema : after.schema ≡ before.schema
  pub bytes_max : after.bytes_max ≡ before.bytes_max
  pub tables : length after.tables ≡ length before.tables

-- The rows that changes are of have gone, all others are there, and each counter is what it is given.
pub record AreCleared (changes : List Change) (before after : State) : Type 0 where
  pub alike : AreAlike before after
  pub left : (table : ℕ) (row : List Value) → Contains (rows_in after table) row → Contains (rows_in before table) row × IsLeft before changes table row
  pub kept : (table : ℕ) (row : List Value) → Contains (rows_in before table) row → IsLeft before changes table row → Contains (rows_in after table) row
  pub counters : (table : ℕ) → counter_of after table ≡ counter_put table (counter_of before table) changes

-- The rows that are put have come to those that were there, and each counter is as it was.
pub record AreFilled (changes : List Change) (before after : State) : Type 0 where
  pub alike : AreAlike before after
  pub from : (table : ℕ) (row : List Value) → Contains (rows_in after table) row → Contains (rows_in before table) row ⊎ Contains changes (Put table row)
  pub kept : (table : ℕ) (row : List Value) → Contains (rows_in before table) row → Contains (rows_in after table) row
  pub come : (table : ℕ) (row : List Value) → Contains changes (Put table row) → Contains (rows_in after table) row
  pub counters : (table : ℕ) → counter_of after table ≡ counter_of before table

-- Each change changes something.
abbrev pub AreChanging : Database → List Change → Type 0
AreChanging db changes = AllByRecursion (IsChange db) changes

-- A counter is at most 2^63.
abbrev pub IsLow : Change → Type 0
IsLow (Put table row) = Unit {0}
IsLow (Delete table key) = Unit {0}
IsLow (Count table counter) = counter ≤ 2 ^ 63

-- Nothing bars a row from a table: it may stand beside the others, there is space, and the counter is above it.
pub record CanStand (state : State) (table : ℕ) (row : List Value) : Type 0 where
  pub placeable : IsPlaceable (def_of state table) row (entries_of state table)
  pub bytes : total_with state table row None ≤ most_bytes
  pub above : above_row (counted_at state table) row ≤ counter_of state table

-- The same of the row of a change, if it puts one.
abbrev pub CanCome : State → Change → Type 0
CanCome state (Put table row) = CanStand state table row
CanCome state (Delete table key) = Unit {0}
CanCome state (Count table counter) = Unit {0}

-- Something bars the row of a change, once those before it have come.
pub record IsBarred (changes : List Change) (before : State) : Type 0 where
  pub at : ℕ
  pub change : Change
  pub state : State
  pub here : slice_get changes at ≡ Some change
  pub filled : AreFilled (take at changes) before state
  pub valid : IsValidState state
  pub barred : CanCome state change → ⊥
