-- Opening an index: `P <indexid> <db> <table> <index> <columns> [<fcolumns>]`.
use Rattle.std.specs.Prelude.{ℕ, List, [], ◌∷◌, ◌++◌, length, map, slice_get, Option, Some, None, option_map, Result, Ok, Err, Bool, ◌==◌, ◌<◌, ◌^◌, ◌||◌, nat_lt, is_some, if◌then◌else◌}
use Rattle.std.specs.List.{slice_split, list_any, All}
use Rattle.std.specs.Ordering.{nat_cmp}
use Rattle.std.specs.BTreeMap.{is_at, insert_entry}
use Rattle.std.specs.Map.{lookup}
use Rattle.hs_token.specs.declared.tokens.Token.{Token}
use Rattle.hs_token.specs.declared.tokens.Token.TheVariants.{Null, Text}
use Rattle.row_types.specs.declared.columns.Column.{Column}
use Rattle.row_types.specs.declared.columns.Kind.{Kind}
use Rattle.row_types.specs.declared.columns.Kind.TheVariants as kinds
use Rattle.row_types.specs.declared.indexes.IndexDef.{IndexDef}
use Rattle.row_types.specs.declared.tables.TableDef.{TableDef}
use Rattle.row_types.specs.declared.tables.Schema.{Schema}
use Rattle.request_types.specs.declared.codes.Code.{Code}
use Rattle.request_types.specs.declared.codes.Code.TheVariants as refused
use Rattle.open_index.specs.declared.handles.Handle.{Handle}
use Rattle.open_index.specs.declared.handles.OpenColumn.{OpenColumn}
use Rattle.request_types.specs.Refusal.{◌>>=◌, or_refuse}
use Rattle.request_types.specs.Names.{table_named, index_named, column_named}
use Rattle.open_index.specs.Tokens.{u32_at}

-- What an id stands for, if it is open.
abbrev pub stands_for : List (ℕ × Handle) → ℕ → Option Handle
stands_for handles id = lookup (is_at (nat_cmp id)) handles

-- The open ids with this one in its place; it stands for the handle, whatever it stood for before.
abbrev pub opened : List (ℕ × Handle) → ℕ → Handle → List (ℕ × Handle)
opened handles id handle = insert_entry nat_cmp handles id handle

-- What stands at a number that was found, beside the number.
abbrev pub numbered : {A : Type 0} → List A → Option ℕ → Option (ℕ × A)
numbered xs None = None
numbered xs (Some n) = option_map (λ x. (n, x)) (slice_get xs n)

-- The first table with these two names, and its number. NULL is no name.
abbrev pub table_at : List TableDef → Token → Token → Option (ℕ × TableDef)
table_at tables Null name = None
table_at tables (Text db) Null = None
table_at tables (Text db) (Text name) = numbered tables (table_named tables db name)

-- The first index of this name, and its number.
abbrev pub index_at : List IndexDef → Token → Option (ℕ × IndexDef)
index_at indexes Null = None
index_at indexes (Text name) = numbered indexes (index_named indexes name)

-- The first column of this name, as an open column.
abbrev pub column_at : List Column → List ℕ → Option OpenColumn
column_at columns name = option_map as_open (numbered columns (column_named columns name)) where
  as_open : ℕ × Column → OpenColumn
  as_open c = record { number = c.0; kind = (c.1).kind }

-- The names of a list: the pieces of the text between commas, and none of the empty text.
abbrev pub names_of : List ℕ → List (List ℕ)
names_of [] = []
names_of (b ∷ bs) = slice_split (λ c. c == 44) (b ∷ bs)

-- Whether the column with this number is in a list.
abbrev pub is_listed : List OpenColumn → ℕ → Bool
is_listed found number = list_any (λ (c : OpenColumn). c.number == number) found

-- One more column, unless the table has none of this name or the list has it already.
unfoldable pub column_onto : List Column → List OpenColumn → List ℕ → Result (List OpenColumn) Code
column_onto columns found name = or_refuse refused.Column (column_at columns name) >>= λ c.
    if is_listed found c.number then Err refused.Column else Ok (found ++ c ∷ [])

-- The columns that were found, and those of the names behind them.
unfoldable pub columns_onto : List Column → List OpenColumn → List (List ℕ) →
    Result (List OpenColumn) Code
columns_onto columns found [] = Ok found
columns_onto columns found (name ∷ names) =
    column_onto columns found name >>= λ more. columns_onto columns more names

-- The columns that a token lists. NULL is no list.
unfoldable pub columns_of : List Column → Token → Result (List OpenColumn) Code
columns_of columns Null = Err refused.Column
columns_of columns (Text text) = columns_onto columns [] (names_of text)

-- The column with this number. A valid index names none that its table lacks.
abbrev pub part_of : List Column → ℕ → OpenColumn
part_of columns number = record { number = number; kind = kind_of (slice_get columns number) } where
  kind_of : Option Column → Kind
  kind_of None = kinds.Int
  kind_of (Some c) = c.kind

-- The columns for filters. Their list may be left out, and then there are none.
unfoldable pub filter_columns_of : List Column → List Token → Result (List OpenColumn) Code
filter_columns_of columns [] = Ok []
filter_columns_of columns (t ∷ ts) = columns_of columns t

-- The lists behind an index's name: the columns, then those for filters.
unfoldable pub lists_of : List Column → List Token → Result (List OpenColumn × List OpenColumn) Code
lists_of columns [] = Err refused.Args
lists_of columns (t ∷ ts) =
    columns_of columns t >>= λ cs. filter_columns_of columns ts >>= λ fs. Ok (cs, fs)

-- What an id stands for, by its table, its index and the columns of its lists.
abbrev pub handle_by : ℕ × TableDef → ℕ × IndexDef → List OpenColumn × List OpenColumn → Handle
handle_by t i cs = record {
  table = t.0;
  index = i.0;
  parts = map (part_of (t.1).columns) (i.1).parts;
  columns = cs.0;
  filter_columns = cs.1;
}

-- What an id will stand for: the index by its names, and the columns of its lists.
unfoldable pub handle_of : Schema → Token → Token → Token → List Token → Result Handle Code
handle_of schema db name index lists =
    or_refuse refused.Table (table_at schema.tables db name) >>= λ t.
    or_refuse refused.Index (index_at (t.1).indexes index) >>= λ i.
    lists_of (t.1).columns lists >>= λ cs. Ok (handle_by t i cs)

-- At most so many ids are open at a time.
abbrev pub most_open : ℕ
most_open = 1024

-- Whether one more id may be opened, or this one once more.
abbrev pub has_room : List (ℕ × Handle) → ℕ → Bool
has_room handles id = nat_lt (length handles) most_open || is_some (stands_for handles id)

-- The id and what it will stand for, where there is room.
abbrev pub with_room : List (ℕ × Handle) → ℕ → Handle → Result (ℕ × Handle) Code
with_room handles id handle = if has_room handles id then Ok (id, handle) else Err refused.Ids

-- `P` has five or six tokens behind it: the second list may be left out.
unfoldable pub open_of : Schema → List (ℕ × Handle) → List Token → Result (ℕ × Handle) Code
open_of schema handles (id ∷ db ∷ name ∷ index ∷ lists) =
    if length lists == 1 || length lists == 2 then
    (or_refuse refused.Args (u32_at id) >>= λ n.
    handle_of schema db name index lists >>= λ h. with_room handles n h)
    else Err refused.Args
open_of schema handles _ = Err refused.Args

-- The columns and the indexes of a table have numbers of 32 bits, as those of every valid schema
-- do.
abbrev pub IsTableNumbered : TableDef → Type 0
IsTableNumbered table = (length table.columns < 2 ^ 32) × (length table.indexes < 2 ^ 32)

-- Tables, columns and indexes have numbers of 32 bits.
pub record IsNumbered (schema : Schema) : Type 0 where
  pub tables : length schema.tables < 2 ^ 32
  pub each : All IsTableNumbered schema.tables
