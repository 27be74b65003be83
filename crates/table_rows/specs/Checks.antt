-- Whether a row may stand in a table, and if not, why.
use Rattle.std.specs.Prelude.{◌≡◌, ℕ, ◌≤◌, Bool, true, false, not, ◌&&◌, List, zip, Option, Some, None}
use Rattle.std.specs.List.{list_any, position_from, AllZip}
use Rattle.row_types.specs.declared.values.Value.{Value}
use Rattle.row_types.specs.declared.values.Value.TheVariants as values
use Rattle.row_types.specs.declared.columns.Column.{Column}
use Rattle.row_types.specs.declared.columns.Fit.TheVariants as fits
use Rattle.row_types.specs.declared.indexes.IndexKind.{IndexKind}
use Rattle.row_types.specs.declared.indexes.IndexKind.TheVariants.{Primary, Unique, Plain}
use Rattle.row_types.specs.declared.indexes.IndexDef.{IndexDef}
use Rattle.row_types.specs.declared.tables.TableDef.{TableDef}
use Rattle.row_types.specs.Fit.{kind_fit}
use Rattle.table_rows.specs.Entries.{Entry, cells}
use Rattle.table_rows.specs.StoreWalks.{is_like}
use Rattle.table_rows.specs.declared.slot_ref.SlotRef.{SlotRef}
use Rattle.table_rows.specs.declared.verdict.Verdict.{Verdict}
use Rattle.table_rows.specs.declared.verdict.Verdict.TheVariants.{Fine, Dup, Null, Full}
use Rattle.table_rows.specs.Rows.{State, def_of, entries_of}
use Rattle.table_rows.specs.Slots.{without}
use Rattle.table_rows.specs.Sizes.{total, total_with, most_bytes, is_full}

-- Whether a value is NULL.
abbrev pub is_null : Value → Bool
is_null values.Null = true
is_null (values.Int n) = false
is_null (values.Text t) = false

-- There is one value for each column, and it is NULL or of the column's kind and size.
abbrev pub IsRow : List Column → List Value → Type 0
IsRow columns row = AllZip (λ (column : Column) value. kind_fit column.kind value ≡ fits.Fine) columns row

-- Whether a column forbids NULL and has it.
abbrev pub is_null_in : Column × Value → Bool
is_null_in cell = is_null cell.1 && not cell.0.null

-- The first column that forbids NULL and has it.
abbrev pub null_column : List Column → List Value → Option ℕ
null_column columns row = position_from is_null_in 0 (zip columns row)

-- Whether an index of this kind keeps rows apart that have these cells. For a unique one NULL is like no other.
abbrev pub is_barred : IndexKind → List Value → Bool
is_barred Primary cells = true
is_barred Unique cells = not (list_any is_null cells)
is_barred Plain cells = false

-- Whether an index keeps this row and that of the entry apart, though they have the same cells in it.
abbrev pub meets : IndexDef → List Value → Entry → Bool
meets index row entry = is_barred index.kind (cells index.parts row) && is_like index.parts row entry

-- Whether it does so with any of these entries.
abbrev pub clashes : List Entry → List Value → IndexDef → Bool
clashes others row index = list_any (meets index row) others

-- The first index in which the row can't stand beside the others.
abbrev pub dup_index : List IndexDef → List Value → List Entry → Option ℕ
dup_index indexes row others = position_from (clashes others row) 0 indexes

-- The entries that stay where a row comes in place of that in a slot.
abbrev pub others : Option SlotRef → List Entry → List Entry
others None entries = entries
others (Some slot) entries = without slot.0 entries

-- NULL is found first, then a clash, then want of space.
abbrev pub first_found : Option ℕ → Option ℕ → Bool → Verdict
first_found (Some column) dup full = Null column
first_found None (Some index) full = Dup index
first_found None None true = Full
first_found None None false = Fine

-- What is to be said of a row for a table, where it comes in place of that in a slot or of none.
abbrev pub verdict_of : State → ℕ → List Value → Option SlotRef → Verdict
verdict_of state table row instead = let def = def_of state table in
    first_found (null_column def.columns row)
    (dup_index def.indexes row (others instead (entries_of state table)))
    (is_full state.bytes_max (total state) (total_with state table row instead))

-- The row may stand in the table beside the others, if there is space.
pub record IsPlaceable (def : TableDef) (row : List Value) (others : List Entry) : Type 0 where
  pub cells : IsRow def.columns row
  pub no_null : null_column def.columns row ≡ None
  pub no_dup : dup_index def.indexes row others ≡ None

-- A row may come into a table, in place of that in a slot or of none: nothing is in its way, and all rows stay within
-- the limit that no server goes beyond.
pub record IsAllowed (state : State) (table : ℕ) (row : List Value) (instead : Option SlotRef) : Type 0 where
  pub placeable : IsPlaceable (def_of state table) row (others instead (entries_of state table))
  pub bytes : total_with state table row instead ≤ most_bytes
