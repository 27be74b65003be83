-- Which rows a table may have.
use Rattle.std.specs.Prelude.{◌≡◌, ◌<◌, ◌≤◌, false, List, [], ◌∷◌, None}
use Rattle.std.specs.List.{AllByRecursion, AllZip}
use Rattle.index_tree.specs.Ordered.{IsAscending}
use Rattle.row_types.specs.declared.values.Value.{Value}
use Rattle.row_types.specs.declared.columns.Column.{Column}
use Rattle.row_types.specs.declared.indexes.IndexDef.{IndexDef}
use Rattle.row_types.specs.declared.tables.TableDef.{TableDef}
use Rattle.row_types.specs.Counted.{counted_of}
use Rattle.row_types.specs.Valid.{IsValid}
use Rattle.table_rows.specs.Counters.{above_row, IsCounter}
use Rattle.table_rows.specs.Entries.{Entry, entry_cmp}
use Rattle.table_rows.specs.Rows.{Rows, State}
use Rattle.table_rows.specs.Indexes.{primary_of}
use Rattle.table_rows.specs.Slots.{is_in}
use Rattle.table_rows.specs.Sizes.{total, most_bytes}
use Rattle.table_rows.specs.Checks.{IsRow, null_column, meets}

-- The relation holds of each item and every later one.
abbrev pub EachPair : {X : Type 0} → (X → X → Type 0) → List X → Type 0
EachPair R [] = Unit {0}
EachPair R (x ∷ xs) = AllByRecursion (R x) xs × EachPair R xs

-- Each value fits its column, NULL too.
pub record IsWhole (columns : List Column) (row : List Value) : Type 0 where
  pub cells : IsRow columns row
  pub no_null : null_column columns row ≡ None

-- No two rows have the same cells in the index, if it keeps them apart.
abbrev pub AreUniqueIn : List Entry → IndexDef → Type 0
AreUniqueIn entries index = EachPair (λ (a b : Entry). meets index a.0 b ≡ false) entries

-- The rows are whole, ascending by primary key and apart in each index, and each has a slot of its own. The counter is
-- above each value of the counted column.
pub record AreValidRows (def : TableDef) (rows : Rows) : Type 0 where
  pub whole : AllByRecursion (λ (entry : Entry). IsWhole def.columns entry.0) rows.entries
  pub ascending : IsAscending (entry_cmp (primary_of def.indexes)) rows.entries
  pub unique : AllByRecursion (AreUniqueIn rows.entries) def.indexes
  pub within : AllByRecursion (λ (entry : Entry). entry.1 < rows.room) rows.entries
  pub apart : EachPair (λ (a b : Entry). is_in a.1 b ≡ false) rows.entries
  pub counter : IsCounter (counted_of def.columns) rows.counter
  pub below : AllByRecursion (λ (entry : Entry). above_row (counted_of def.columns) entry.0 ≤ rows.counter) rows.entries

-- The schema is valid, each table has valid rows, and all of them are within the limit.
pub record IsValidState (state : State) : Type 0 where
  pub schema : IsValid state.schema
  pub tables : AllZip AreValidRows state.schema.tables state.tables
  pub bytes : total state ≤ most_bytes
  pub most : state.bytes_max ≤ most_bytes
