-- Which rows lie in a plan's range, and which ones meet a condition.
use Rattle.std.specs.Prelude.{◌≡◌, ℕ, ◌<◌, Bool, true, false, ◌&&◌, if◌then◌else◌, List, length, map, filter, Option, Some, None}
use Rattle.std.specs.List.{AllByRecursion, list_any}
use Rattle.row_types.specs.declared.values.Value.{Value}
use Rattle.row_types.specs.declared.indexes.IndexDef.{IndexDef}
use Rattle.table_rows.specs.declared.edge.Edge.{Edge}
use Rattle.table_rows.specs.declared.slot_ref.SlotRef.{SlotRef}
use Rattle.table_rows.specs.Entries.{Entry}
use Rattle.table_rows.specs.StoreWalks.{is_from, is_to}
use Rattle.table_rows.specs.Indexes.{index_columns}
use Rattle.sql_value.specs.declared.exprs.Expr.{Expr}
use Rattle.sql_value.specs.declared.truths.Truth.TheVariants.{Yes, No, Unknown}
use Rattle.sql_value.specs.declared.worth.Evaluated.{Evaluated}
use Rattle.sql_value.specs.declared.worth.Evaluated.TheVariants as worths
use Rattle.sql_value.specs.Eval.{eval_of}
use Rattle.sql_plan.specs.declared.plans.Plan.{Plan}
use Rattle.sql_plan.specs.declared.plans.Plan.TheVariants.{Whole, Range}
use Rattle.sql_plan.specs.declared.scanning.Found.{Found}
use Rattle.sql_plan.specs.declared.scanning.Found.TheVariants as found
use Rattle.sql_plan.specs.Tests.{calculates}

-- Whether a row lies between two edges of an order.
abbrev pub is_between : List ℕ → Edge (List Value) → Edge (List Value) → Entry → Bool
is_between columns low high entry = is_from columns low entry && is_to columns high entry

-- Whether a row of a table with these indexes lies in a plan's range. Each row lies in the whole table.
abbrev pub lies_in : List IndexDef → Plan → Entry → Bool
lies_in indexes Whole entry = true
lies_in indexes (Range index low high) entry = is_between (index_columns indexes index) low high entry

-- Whether a condition is true.
abbrev pub is_true : Evaluated → Bool
is_true (worths.Truth Yes) = true
is_true (worths.Truth No) = false
is_true (worths.Truth Unknown) = false
is_true (worths.Value value) = false
is_true worths.Overflow = false

-- Whether a number in it is outside 64 bits.
abbrev pub is_overflow : Evaluated → Bool
is_overflow (worths.Truth t) = false
is_overflow (worths.Value value) = false
is_overflow worths.Overflow = true

-- What a condition is worth on a row. Without one every row counts.
abbrev pub worth_on : Option Expr → Entry → Evaluated
worth_on None entry = worths.Truth Yes
worth_on (Some e) entry = eval_of entry.0 e

-- Whether a row meets a condition.
abbrev pub is_met : Option Expr → Entry → Bool
is_met condition entry = is_true (worth_on condition entry)

-- Whether it overflows on a row.
abbrev pub overflows : Option Expr → Entry → Bool
overflows condition entry = is_overflow (worth_on condition entry)

-- Whether what a condition is worth is true; nothing where it is an overflow.
abbrev pub met_at : Evaluated → Option Bool
met_at worth = if is_overflow worth then None else Some (is_true worth)

-- A row that meets the condition lies in the plan's range.
abbrev pub IsCovered : Option Expr → List IndexDef → Plan → Entry → Type 0
IsCovered condition indexes plan entry = is_met condition entry ≡ true → lies_in indexes plan entry ≡ true

-- An index of the table, and a condition that doesn't calculate with a column.
pub record IsLookup (condition : Option Expr) (indexes : List IndexDef) (index : ℕ) : Type 0 where
  pub there : index < length indexes
  pub plain : calculates condition ≡ false

-- A plan whose range, if it has one, is of an index of the table, for a condition that doesn't calculate with a column.
abbrev pub MayServe : Option Expr → List IndexDef → Plan → Type 0
MayServe condition indexes Whole = Unit {0}
MayServe condition indexes (Range index low high) = IsLookup condition indexes index

-- A plan that finds the rows of the condition among these: all of them lie in its range.
pub record Serves (condition : Option Expr) (indexes : List IndexDef) (entries : List Entry) (plan : Plan) : Type 0 where
  pub lookup : MayServe condition indexes plan
  pub covers : AllByRecursion (IsCovered condition indexes plan) entries

-- The slots of rows.
abbrev pub slots_in : List Entry → List SlotRef
slots_in entries = map (λ (entry : Entry). record { 0 = entry.1 }) entries

-- The rows that meet a condition; nothing where it overflows on any.
abbrev pub met_by : Option Expr → List Entry → Option (List Entry)
met_by condition entries = if list_any (overflows condition) entries then None else Some (filter (is_met condition) entries)

-- What a scan answers.
abbrev pub answer_to : Option (List Entry) → Found
answer_to None = found.Overflow
answer_to (Some entries) = found.Rows (slots_in entries)

-- Of all rows those that meet the condition. It overflows where it does on any row.
abbrev pub found_of : Option Expr → List Entry → Found
found_of condition entries = answer_to (met_by condition entries)

-- How many rows lie in the range.
abbrev pub count_in : List IndexDef → Plan → List Entry → ℕ
count_in indexes plan entries = length (filter (lies_in indexes plan) entries)
