-- Which requests fit a schema: numbers in range, and values of their columns' kinds.
use Rattle.std.specs.Prelude.{◌≡◌, ℕ, ◌≤◌, ◌<◌, List, [], ◌∷◌, length, slice_get, IsSomeAnd, IfSome, FitsSigned, ⊤, nat_eq, true}
use Rattle.std.specs.Int.{w64}
use Rattle.std.specs.List.{All, AllByRecursion}
use Rattle.row_types.specs.declared.values.Value.{Value}
use Rattle.row_types.specs.declared.values.Value.TheVariants.{Null, Int, Text}
use Rattle.row_types.specs.declared.columns.Kind.{Kind}
use Rattle.row_types.specs.declared.columns.Kind.TheVariants as kinds
use Rattle.row_types.specs.declared.columns.Column.{Column}
use Rattle.row_types.specs.declared.tables.TableDef.{TableDef}
use Rattle.row_types.specs.declared.tables.Schema.{Schema}
use Rattle.row_types.specs.Valid.{are_distinct}
use Rattle.request_types.specs.declared.finds.FindOp.TheVariants.{Equal}
use Rattle.request_types.specs.declared.finds.InSpec.{InSpec}
use Rattle.request_types.specs.declared.finds.FindSpec.{FindSpec}
use Rattle.request_types.specs.declared.mods.ModKind.{ModKind}
use Rattle.request_types.specs.declared.mods.ModKind.TheVariants.{Update, Add, Subtract, Remove}
use Rattle.request_types.specs.declared.mods.ModSpec.{ModSpec}
use Rattle.request_types.specs.declared.inserts.InsertSpec.{InsertSpec}
use Rattle.request_types.specs.declared.requests.Request.{Request}
use Rattle.request_types.specs.declared.requests.Request.TheVariants.{Find, Modify, Insert}
use Rattle.request_types.specs.declared.batches.ItemKind.{ItemKind}
use Rattle.request_types.specs.declared.batches.ItemKind.TheVariants.{Ready, Hs}
use Rattle.request_types.specs.declared.batches.Item.{Item}
use Rattle.request_types.specs.declared.batches.Batch.{Batch}

-- A value of a kind is NULL, an integer of 64 bits, or a text, which may be longer than its column.
abbrev pub IsOfKind : Kind → Value → Type 0
IsOfKind kind Null = ⊤
IsOfKind kinds.Int (Int n) = FitsSigned w64 n
IsOfKind kinds.Int (Text t) = ⊥
IsOfKind (kinds.Bytes most) (Int n) = ⊥
IsOfKind (kinds.Bytes most) (Text t) = ⊤

-- What is added to a column or taken off is an integer of 64 bits, and the column one of integers.
abbrev pub IsDelta : Kind → Value → Type 0
IsDelta kind Null = ⊥
IsDelta kinds.Int (Int n) = FitsSigned w64 n
IsDelta (kinds.Bytes most) (Int n) = ⊥
IsDelta kind (Text t) = ⊥

-- A value stands so to the kind of the column with this number, which the table has.
abbrev pub IsAt : (Kind → Value → Type 0) → List Column → ℕ → Value → Type 0
IsAt P columns number value = IsSomeAnd (slice_get columns number) (λ c. P c.kind value)

-- Values stand so, by place, to the columns with these numbers. No more values come than numbers.
abbrev pub AreAt : (Kind → Value → Type 0) → List Column → List ℕ → List Value → Type 0
AreAt P columns numbers [] = ⊤
AreAt P columns [] (v ∷ vs) = ⊥
AreAt P columns (n ∷ ns) (v ∷ vs) = IsAt P columns n v × AreAt P columns ns vs

-- The table has the columns with these numbers, and none is named twice.
pub record AreNumbers (columns : List Column) (numbers : List ℕ) : Type 0 where
  pub within : All (λ n. n < length columns) numbers
  pub once : are_distinct nat_eq numbers ≡ true

-- Listed values stand, under `=` alone, for a value of the key, and are of its part's kind.
pub record ListFits (columns : List Column) (parts : List ℕ) (spec : FindSpec) (list : InSpec) :
    Type 0 where
  pub equal : spec.op ≡ Equal
  pub part : list.part < length spec.key
  pub some : 1 ≤ length list.values
  pub values : All (λ v. IsSomeAnd (slice_get parts list.part) (λ n. IsAt IsOfKind columns n v))
      list.values

-- The key has a value for each of the index's first parts, and at least for one.
pub record KeyFits (columns : List Column) (parts : List ℕ) (spec : FindSpec) : Type 0 where
  pub some : 1 ≤ length spec.key
  pub most : length spec.key ≤ length parts
  pub key : AreAt IsOfKind columns parts spec.key
  pub within : IfSome spec.within (ListFits columns parts spec)

-- A find names an index that its key fits, columns for its filters, and columns to be answered.
pub record FindFitsTable (table : TableDef) (spec : FindSpec) : Type 0 where
  pub index : IsSomeAnd (slice_get table.indexes spec.index)
      (λ i. KeyFits table.columns i.parts spec)
  pub filters : All (λ f. IsAt IsOfKind table.columns f.column f.value) spec.filters
  pub columns : AreNumbers table.columns spec.columns

-- A find fits a schema that has its table.
abbrev pub FindFits : Schema → FindSpec → Type 0
FindFits schema spec = IsSomeAnd (slice_get schema.tables spec.table) (λ t. FindFitsTable t spec)

-- The values of a change, for the first of the columns with these numbers. A deletion has none.
abbrev pub ValuesFit : ModKind → List Column → List ℕ → List Value → Type 0
ValuesFit Update columns numbers values = AreAt IsOfKind columns numbers values
ValuesFit Add columns numbers values = AreAt IsDelta columns numbers values
ValuesFit Subtract columns numbers values = AreAt IsDelta columns numbers values
ValuesFit Remove columns numbers values = values ≡ []

-- A change of the columns with these numbers has no more values than there are, and they fit.
pub record ModFitsTable (table : TableDef) (numbers : List ℕ) (change : ModSpec) : Type 0 where
  pub most : length change.values ≤ length numbers
  pub values : ValuesFit change.kind table.columns numbers change.values

-- A change of these columns of this table fits a schema that has the table.
abbrev pub ModFits : Schema → ℕ → List ℕ → ModSpec → Type 0
ModFits schema table numbers change =
    IsSomeAnd (slice_get schema.tables table) (λ t. ModFitsTable t numbers change)

-- A row to be inserted names columns of its table, and has a value for each of them.
pub record InsertFitsTable (table : TableDef) (spec : InsertSpec) : Type 0 where
  pub count : length spec.values ≡ length spec.columns
  pub columns : AreNumbers table.columns spec.columns
  pub values : AreAt IsOfKind table.columns spec.columns spec.values

-- An insert fits a schema that has its table.
abbrev pub InsertFits : Schema → InsertSpec → Type 0
InsertFits schema spec =
    IsSomeAnd (slice_get schema.tables spec.table) (λ t. InsertFitsTable t spec)

-- What is asked of the tables fits their schema.
abbrev pub RequestFits : Schema → Request → Type 0
RequestFits schema (Find find) = FindFits schema find
RequestFits schema (Modify find change) =
    FindFits schema find × ModFits schema find.table find.columns change
RequestFits schema (Insert insert) = InsertFits schema insert

-- What a line asks of the tables fits their schema.
abbrev pub KindFits : Schema → ItemKind → Type 0
KindFits schema (Ready code) = ⊤
KindFits schema (Hs request) = RequestFits schema request

-- The same of an item.
abbrev pub ItemFits : Schema → Item → Type 0
ItemFits schema item = KindFits schema item.kind

-- The same of each item of a batch.
abbrev pub BatchFits : Schema → Batch → Type 0
BatchFits schema batch = AllByRecursion (ItemFits schema) batch.items
