-- Which rows a find selects.
use Rattle.std.specs.Prelude.{ℕ, Bool, not, List, [], ◌∷◌, ◌++◌, Option, Some, None, filter, map, reverse, take, drop, set}
use Rattle.std.specs.declared.cmp.Ordering.{Ordering}
use Rattle.std.specs.Ordering.{is_lt, is_eq, is_gt}
use Rattle.row_types.specs.declared.values.Value.{Value}
use Rattle.row_types.specs.Order.{value_cmp, prefix_cmp}
use Rattle.table_rows.specs.Entries.{Entry, cells}
use Rattle.request_types.specs.declared.finds.FindOp.{FindOp}
use Rattle.request_types.specs.declared.finds.FindOp.TheVariants.{Equal, Greater, GreaterEqual, Less, LessEqual}
use Rattle.request_types.specs.declared.finds.InSpec.{InSpec}
use Rattle.request_types.specs.declared.finds.FindSpec.{FindSpec}
use Rattle.request_types.specs.declared.filters.FilterSpec.{FilterSpec}
use Rattle.find_filter.specs.declared.filters.Step.{Step}
use Rattle.find_filter.specs.declared.filters.Step.TheVariants.{Keep, Skip, Stop}
use Rattle.find_filter.specs.Filter.{step_of}
use Rattle.table_rows.specs.declared.slot_ref.SlotRef.{SlotRef}
use Rattle.table_rows.specs.Rows.{State, indexes_of}
use Rattle.table_rows.specs.Indexes.{index_columns}
use Rattle.table_rows.specs.Walks.{walk_of}

-- How a row's index cells have to compare with the key.
abbrev pub is_asked : FindOp → Ordering → Bool
is_asked Equal order = is_eq order
is_asked Greater order = is_gt order
is_asked GreaterEqual order = not (is_lt order)
is_asked Less order = is_lt order
is_asked LessEqual order = not (is_gt order)

-- Of entries that ascend, those of `<` and `<=` are given in descending order.
abbrev pub directed : FindOp → List Entry → List Entry
directed Equal entries = entries
directed Greater entries = entries
directed GreaterEqual entries = entries
directed Less entries = reverse entries
directed LessEqual entries = reverse entries

-- How a row's first cells in these columns compare with a key.
abbrev pub stands_to : List ℕ → List Value → Entry → Ordering
stands_to columns key entry = prefix_cmp (cells columns entry.0) key

-- The columns that the find's index goes by.
abbrev pub columns_for : State → FindSpec → List ℕ
columns_for state spec = index_columns (indexes_of state spec.table) spec.index

-- The rows whose first index cells stand to the key as the operator asks, by the index and then the
-- primary key.
abbrev pub matching : State → FindSpec → List Value → List Entry
matching state spec key =
    directed spec.op
    (filter (λ entry. is_asked spec.op (stands_to (columns_for state spec) key entry))
    (walk_of state spec.table spec.index))

-- The values, each at the place where it comes first.
abbrev pub once : List Value → List Value
once [] = []
once (v ∷ vs) = v ∷ filter (λ w. not (is_eq (value_cmp w v))) (once vs)

-- The keys that are looked for, one after another. A list puts each of its values in the place of
-- one value of the key.
abbrev pub keys_of : List Value → Option InSpec → List (List Value)
keys_of key None = key ∷ []
keys_of key (Some list) = map (λ v. set key list.part v) (once list.values)

-- The rows of the first key, then those of the next.
abbrev pub found : State → FindSpec → List (List Value) → List Entry
found state spec [] = []
found state spec (key ∷ keys) = matching state spec key ++ found state spec keys

-- A row is kept, or passed over, or neither it nor any row behind it is kept.
abbrev pub by_step : Step → Entry → List Entry → List Entry
by_step Keep entry later = entry ∷ later
by_step Skip entry later = later
by_step Stop entry later = []

-- The rows that meet all filters, up to the first at which a filter ends the request.
abbrev pub kept : List FilterSpec → List Entry → List Entry
kept filters [] = []
kept filters (entry ∷ entries) = by_step (step_of entry.0 filters) entry (kept filters entries)

-- Of the rows that are kept the first `offset` are dropped, and of the others at most `limit` are
-- selected.
abbrev pub selected : State → FindSpec → List Entry
selected state spec =
    take spec.limit
    (drop spec.offset (kept spec.filters (found state spec (keys_of spec.key spec.within))))

-- Where the rows are kept.
abbrev pub slots_of : List Entry → List SlotRef
slots_of entries = map (λ (entry : Entry). record { 0 = entry.1 }) entries
