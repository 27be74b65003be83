-- Four rows of a small table, and finds on it.
use Rattle.std.specs.Int.{w64}
use Rattle.std.specs.Prelude.{◌≡◌, ℕ, ◌<◌, ◌≤◌, ◌⊎◌, IfSome, pos, true, false, codes, List, [], ◌∷◌, Some, None, length, FitsSigned, ⊤}
use Rattle.row_types.specs.declared.values.Value.{Value}
use Rattle.row_types.specs.declared.values.Value.TheVariants.{Null, Int, Text}
use Rattle.row_types.specs.declared.columns.Column.{Column}
use Rattle.row_types.specs.declared.columns.Kind.TheVariants as kinds
use Rattle.row_types.specs.declared.tables.Schema.{Schema}
use Rattle.row_types.specs.declared.indexes.IndexDef.{IndexDef}
use Rattle.row_types.specs.declared.indexes.IndexKind.TheVariants.{Primary, Plain}
use Rattle.std.specs.List.{AllByRecursion}
use Rattle.request_types.specs.declared.finds.FindOp.{FindOp}
use Rattle.request_types.specs.declared.finds.FindOp.TheVariants.{Equal}
use Rattle.table_rows.specs.Indexes.{parts_at}
use Rattle.request_types.specs.declared.finds.InSpec.{InSpec}
use Rattle.request_types.specs.declared.finds.FindSpec.{FindSpec}
use Rattle.request_types.specs.declared.filters.FilterSpec.{FilterSpec}
use Rattle.table_rows.specs.declared.slot_ref.SlotRef.{SlotRef}
use Rattle.table_rows.specs.Rows.{State}

-- An integer.
abbrev pub int : ℕ → Value
int n = Int (pos n)

-- A number, a name of one letter and a number.
abbrev pub row : ℕ → ℕ → ℕ → List Value
row id name n = int id ∷ Text (name ∷ []) ∷ int n ∷ []

-- A number, a text which may be missing, and another number.
abbrev pub some_columns : List Column
some_columns =
    record { name = codes "id"; kind = kinds.Int; null = false; auto = false; preset = Null }
    ∷ record { name = codes "v"; kind = kinds.Bytes 8000; null = true; auto = false; preset = Null }
    ∷ record { name = codes "n"; kind = kinds.Int; null = false; auto = false; preset = Null } ∷ []

-- An index over the first column, one over the last, and one over both.
abbrev pub some_indexes : List IndexDef
some_indexes =
    record { name = codes "PRIMARY"; kind = Primary; parts = 0 ∷ [] }
    ∷ record { name = codes "by_n"; kind = Plain; parts = 2 ∷ [] }
    ∷ record { name = codes "by_both"; kind = Plain; parts = 2 ∷ 0 ∷ [] } ∷ []

-- They make the only table.
abbrev pub some_schema : Schema
some_schema = record {
  tables = record {
    db = codes "test";
    name = codes "t";
    columns = some_columns;
    indexes = some_indexes;
  } ∷ [];
}

-- The rows (1, a, 4), (2, b, 4), (3, c, 4) and (4, d, 6), in slots 0 to 3.
abbrev pub four_rows : State
four_rows = record {
  schema = some_schema;
  bytes_max = 0;
  tables = record {
    entries = (row 1 97 4, 0) ∷ (row 2 98 4, 1) ∷ (row 3 99 4, 2) ∷ (row 4 100 6, 3) ∷ [];
    room = 4;
    counter = 0;
  } ∷ [];
}

-- A find of this key alone, without a list or a filter.
abbrev pub find_of : ℕ → FindOp → ℕ → ℕ → ℕ → FindSpec
find_of index op key limit offset = record {
  table = 0;
  index = index;
  op = op;
  key = int key ∷ [];
  within = None;
  limit = limit;
  offset = offset;
  filters = [];
  columns = [];
}

-- The same with filters.
abbrev pub filtered : List FilterSpec → FindSpec → FindSpec
filtered filters spec = record spec { filters = filters }

-- The same with a list.
abbrev pub listed : InSpec → FindSpec → FindSpec
listed list spec = record spec { within = Some list }

-- A slot.
abbrev pub slot : ℕ → SlotRef
slot n = record { 0 = n }

-- NULL, or an integer of 64 bits.
abbrev pub IsNumber : Value → Type 0
IsNumber Null = ⊤
IsNumber (Int n) = FitsSigned w64 n
IsNumber (Text t) = ⊥

-- A condition on one of the two numbers of a row.
pub record IsOnNumber (filter : FilterSpec) : Type 0 where
  pub column : (filter.column ≡ 0) ⊎ (filter.column ≡ 2)
  pub value : IsNumber filter.value

-- Numbers in place of the key's first value, under `=`.
pub record IsList (spec : FindSpec) (list : InSpec) : Type 0 where
  pub equal : spec.op ≡ Equal
  pub part : list.part ≡ 0
  pub some : 1 ≤ length list.values
  pub values : AllByRecursion IsNumber list.values

-- What a test asks: rows of the only table by numbers, of which the first column is answered.
pub record IsFind (spec : FindSpec) : Type 0 where
  pub table : spec.table ≡ 0
  pub index : spec.index < 3
  pub some : 1 ≤ length spec.key
  pub most : length spec.key ≤ length (parts_at some_indexes spec.index)
  pub key : AllByRecursion IsNumber spec.key
  pub within : IfSome spec.within (IsList spec)
  pub filters : AllByRecursion IsOnNumber spec.filters
  pub columns : spec.columns ≡ 0 ∷ []

-- The only table, and a row more or less.
pub record IsPlay (state : State) : Type 0 where
  pub schema : state.schema ≡ some_schema
  pub tables : 0 < length state.tables
