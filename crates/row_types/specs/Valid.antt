-- Which schema is valid: its names, its limits, and how its indexes stand to its columns.
use Rattle.std.specs.Prelude.{◌≡◌, ℕ, ◌+◌, ◌≤◌, Bool, true, false, not, ◌&&◌, ◌||◌, ◌==◌, nat_le, nat_lt, nat_eq, List, [], ◌∷◌, length, map, codes, Option, Some, None, slice_get, slice_index, sum_by, FitsSigned}
use Rattle.std.specs.Int.{w64}
use Rattle.std.specs.Str.{bytes_eq}
use Rattle.std.specs.Char.{is_ascii_digit, is_ascii_alphanumeric, to_ascii_lowercase}
use Rattle.std.specs.List.{list_any, list_all, AllByRecursion}
use Rattle.row_types.specs.declared.values.Value.{Value}
use Rattle.row_types.specs.declared.values.Value.TheVariants as values
use Rattle.row_types.specs.declared.columns.Kind.{Kind}
use Rattle.row_types.specs.declared.columns.Kind.TheVariants.{Int, Bytes}
use Rattle.row_types.specs.declared.columns.Column.{Column}
use Rattle.row_types.specs.declared.columns.Fit.TheVariants.{Fine}
use Rattle.row_types.specs.declared.indexes.IndexKind.{IndexKind}
use Rattle.row_types.specs.declared.indexes.IndexKind.TheVariants.{Primary, Unique, Plain}
use Rattle.row_types.specs.declared.indexes.IndexDef.{IndexDef}
use Rattle.row_types.specs.declared.tables.TableDef.{TableDef}
use Rattle.row_types.specs.declared.tables.Schema.{Schema}
use Rattle.row_types.specs.Fit.{kind_fit}
use Rattle.row_types.specs.Counted.{both_counted, may_count, is_led}

-- A name is of ASCII letters, digits and `_`.
abbrev pub is_name_byte : ℕ → Bool
is_name_byte b = is_ascii_alphanumeric b || b == 95

-- It has 1 to 64 of them, and no digit comes first.
abbrev pub is_name : List ℕ → Bool
is_name text =
    nat_le 1 (length text) && nat_le (length text) 64
    && not (is_ascii_digit (slice_index text 0)) && list_all is_name_byte text

-- No item is the same, in the given sense, as one before it.
abbrev pub are_distinct : {X : Type 0} → (X → X → Bool) → List X → Bool
are_distinct same [] = true
are_distinct same (x ∷ xs) = not (list_any (λ y. same y x) xs) && are_distinct same xs

-- Whether two texts differ by no more than ASCII case.
abbrev pub same_but_case : List ℕ → List ℕ → Bool
same_but_case a b = bytes_eq (map to_ascii_lowercase a) (map to_ascii_lowercase b)

-- Columns are the same where their names differ by no more than ASCII case.
abbrev pub same_column : Column → Column → Bool
same_column c d = same_but_case c.name d.name

-- Indexes are the same where their names are equal.
abbrev pub same_index : IndexDef → IndexDef → Bool
same_index i j = bytes_eq i.name j.name

-- Tables are the same where they have one name in one database.
abbrev pub same_table : TableDef → TableDef → Bool
same_table s t = bytes_eq s.db t.db && bytes_eq s.name t.name

-- The texts of a column have at most 1 to 16,316 bytes.
abbrev pub is_kind : Kind → Bool
is_kind Int = true
is_kind (Bytes most) = nat_le 1 most && nat_le most 16316

-- An integer is one of 64 bits.
abbrev pub IsHeld : Value → Type 0
IsHeld values.Null = Unit {0}
IsHeld (values.Int n) = FitsSigned w64 n
IsHeld (values.Text t) = Unit {0}

-- NULL is a preset of any column, another value of a column that holds it; of a counted column NULL alone.
pub record IsColumn (c : Column) : Type 0 where
  pub name : is_name c.name ≡ true
  pub kind : is_kind c.kind ≡ true
  pub preset : kind_fit c.kind c.preset ≡ Fine
  pub held : IsHeld c.preset
  pub counts : may_count c ≡ true

-- Whether an index is the primary one.
abbrev pub is_primary : IndexKind → Bool
is_primary Primary = true
is_primary Unique = false
is_primary Plain = false

-- The name of the primary index, and of no other.
abbrev pub primary_name : List ℕ
primary_name = codes "PRIMARY"

-- Whether NULL is allowed in a column, if it is one.
abbrev pub null_in : Option Column → Bool
null_in None = false
null_in (Some c) = c.null

-- Whether the column at this place may hold NULL.
abbrev pub may_be_null : List Column → ℕ → Bool
may_be_null columns place = null_in (slice_get columns place)

-- An index has 1 to 8 parts, no column twice, and the primary index none that may hold NULL.
pub record IsIndex (columns : List Column) (i : IndexDef) : Type 0 where
  pub name : is_name i.name ≡ true
  pub kind : is_primary i.kind ≡ bytes_eq i.name primary_name
  pub some_part : 1 ≤ length i.parts
  pub most_parts : length i.parts ≤ 8
  pub within : list_all (λ place. nat_lt place (length columns)) i.parts ≡ true
  pub once : are_distinct nat_eq i.parts ≡ true
  pub never_null : is_primary i.kind && list_any (may_be_null columns) i.parts ≡ false

-- The most bytes that a column's value counts in the size of a row.
abbrev pub column_size : Kind → ℕ
column_size Int = 8
column_size (Bytes most) = most + 4

-- The size of a table's greatest row.
abbrev pub most_row_size : List Column → ℕ
most_row_size columns = 64 + sum_by (λ c. column_size c.kind) columns

-- A table has 1 to 64 columns, of which one may be counted, and room for its greatest row in 16,384 bytes.
pub record AreColumns (columns : List Column) : Type 0 where
  pub each : AllByRecursion IsColumn columns
  pub some : 1 ≤ length columns
  pub most : length columns ≤ 64
  pub names : are_distinct same_column columns ≡ true
  pub once : are_distinct both_counted columns ≡ true
  pub rows : most_row_size columns ≤ 16384

-- It has up to 16 indexes, and one of them is primary. A counted column leads one.
pub record AreIndexes (columns : List Column) (indexes : List IndexDef) : Type 0 where
  pub each : AllByRecursion (IsIndex columns) indexes
  pub most : length indexes ≤ 16
  pub names : are_distinct same_index indexes ≡ true
  pub primary : list_any (λ i. is_primary i.kind) indexes ≡ true
  pub led : is_led columns indexes ≡ true

-- Its name and that of its database are names.
pub record IsTable (t : TableDef) : Type 0 where
  pub db : is_name t.db ≡ true
  pub name : is_name t.name ≡ true
  pub columns : AreColumns t.columns
  pub indexes : AreIndexes t.columns t.indexes

-- A schema has up to 64 tables, and no two of one name in one database.
pub record IsValid (schema : Schema) : Type 0 where
  pub tables : AllByRecursion IsTable schema.tables
  pub most : length schema.tables ≤ 64
  pub names : are_distinct same_table schema.tables ≡ true
