-- What the steps of a find say of rows. No public clause cites these.
use Rattle.std.specs.Prelude.{ℕ, ◌<◌, Bool, true, false, not, List, ◌++◌, length, filter, take, drop}
use Rattle.std.specs.List.{All, AllByRecursion, list_any, take_while}
use Rattle.std.specs.Ordering.{is_eq}
use Rattle.row_types.specs.declared.values.Value.{Value}
use Rattle.row_types.specs.Order.{value_cmp}
use Rattle.table_rows.specs.Entries.{Entry, has_key}
use Rattle.request_types.specs.declared.filters.FilterSpec.{FilterSpec}
use Rattle.request_types.specs.declared.finds.FindOp.{FindOp}
use Rattle.request_types.specs.declared.finds.FindOp.TheVariants.{Equal, Greater, GreaterEqual, Less, LessEqual}
use Rattle.table_rows.specs.declared.slot_ref.SlotRef.{SlotRef}
use Rattle.table_rows.specs.declared.bound.Bound.{Bound}
use Rattle.table_rows.specs.declared.bound.Bound.TheVariants.{From, Behind, To, Before}
use Rattle.find_scan.specs.Select.{once, kept, slots_of}

-- The slots that were selected so far, how many more rows that are kept are dropped, and how many
-- are selected then.
pub record Gathered : Type 0 where
  pub slots : List SlotRef
  pub to_drop : ℕ
  pub room : ℕ

-- What is selected where these rows are kept.
abbrev pub with_kept : Gathered → List Entry → List SlotRef
with_kept gathered entries =
    gathered.slots ++ slots_of (take gathered.room (drop gathered.to_drop entries))

-- What is selected where these rows come.
abbrev pub gives : List FilterSpec → Gathered → List Entry → List SlotRef
gives filters gathered entries = with_kept gathered (kept filters entries)

-- Each of these rows has the columns of the filters.
abbrev pub AreWideFor : List FilterSpec → List Entry → Type 0
AreWideFor filters entries =
    AllByRecursion (λ (entry : Entry). All (λ (f : FilterSpec). f.column < length entry.0) filters)
    entries

-- The entries from the front on that have the key, where only such are asked for.
abbrev pub front_of : Bool → List ℕ → List Value → List Entry → List Entry
front_of false columns key entries = entries
front_of true columns key entries = take_while (λ entry. has_key columns key entry.0) entries

-- Whether a value is one of these.
abbrev pub is_among : List Value → Value → Bool
is_among values w = list_any (λ v. is_eq (value_cmp w v)) values

-- The values, each at the place where it comes first, but for those that came before.
abbrev pub fresh : List Value → List Value → List Value
fresh before values = filter (λ w. not (is_among before w)) (once values)

-- Whether only rows with the key are asked for.
abbrev pub is_equal : FindOp → Bool
is_equal Equal = true
is_equal Greater = false
is_equal GreaterEqual = false
is_equal Less = false
is_equal LessEqual = false

-- Where the walk of a find begins.
abbrev pub bound_of : FindOp → Bound
bound_of Equal = From
bound_of Greater = Behind
bound_of GreaterEqual = From
bound_of Less = Before
bound_of LessEqual = To
