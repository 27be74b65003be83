-- No counter falls.
--     same, on, at_one      lists of which nothing has a lower counter
--     never_lower      a batch lowers no counter
use Rattle.std.proofs.Common.{ℕ, zero, suc, ◌≤◌, Bool, true, false, List, [], ◌∷◌, map, length, get_or, set, if◌then◌else◌, Option, Some, None, Result, Ok, Err, arith}
use Rattle.std.specs.List.{AllZip}
use Rattle.row_types.specs.declared.values.Value.{Value}
use Rattle.request_types.specs.declared.finds.FindSpec.{FindSpec}
use Rattle.request_types.specs.declared.mods.ModSpec.{ModSpec}
use Rattle.request_types.specs.declared.codes.Code.{Code}
use Rattle.request_types.specs.Refusal.{◌>>=◌}
use Rattle.request_types.specs.declared.inserts.InsertSpec.{InsertSpec}
use Rattle.request_types.specs.declared.requests.Request.{Request}
use Rattle.request_types.specs.declared.requests.Request.TheVariants.{Find, Modify, Insert}
use Rattle.request_types.specs.declared.batches.Item.{Item}
use Rattle.request_types.specs.declared.batches.ItemKind.{ItemKind}
use Rattle.request_types.specs.declared.batches.ItemKind.TheVariants as kinds
use Rattle.table_rows.specs.declared.slot_ref.SlotRef.{SlotRef}
use Rattle.table_rows.specs.Rows.{Rows, State, no_rows}
use Rattle.table_rows.specs.Slots.{row_at, with_row_at, without_at}
use Rattle.table_rows.specs.Database.{Database, Holding, no_holding, holding_in, placed, placed_in}
use Rattle.find_scan.specs.declared.replies.Rendered.{Rendered}
use Rattle.find_scan.specs.declared.replies.Rendered.TheVariants.{Fits, TooBig}
use Rattle.find_scan.specs.Select.{slots_of}
use Rattle.find_scan.specs.Rendering.{rendered}
use Rattle.row_insert.specs.declared.drawing.Arrival.{Arrival}
use Rattle.row_insert.specs.Draw.{coming_to}
use Rattle.row_insert.specs.Refusal.{refusal_of}
use Rattle.find_modify.specs.Cells.{changed_row}
use Rattle.find_modify.specs.Change.{deletes, with_instead, changed_one, changed_all}
use Rattle.find_modify.specs.Change as modify
use Rattle.change_set.specs.Putting.{NoneLower}
use Rattle.batch_answers.specs.Replies.{count_reply}
use Rattle.batch_answers.specs.Answers.{chosen, rows_reply, changed, unless_big, unless_refused, change_answered, unless_barred, inserted, insert_answered, request_answered, answered, after}

module _ {X : Type 0} (counter : X → ℕ) where
  -- none of the later ones has a lower counter
  abbrev pub NotLower : List X → List X → Type 0
  NotLower xs ys = AllZip (λ (x y : X). counter x ≤ counter y) xs ys

  pub same : (xs : List X) → NotLower xs xs
  same [] = tt
  same (x ∷ xs) = (omega arith, same xs)

  pub on : (xs ys zs : List X) → NotLower xs ys → NotLower ys zs → NotLower xs zs
  on [] [] [] a b = tt
  on [] [] (z ∷ zs) a b = absurd b
  on [] (y ∷ ys) zs a b = absurd a
  on (x ∷ xs) [] zs a b = absurd a
  on (x ∷ xs) (y ∷ ys) [] a b = absurd b
  on (x ∷ xs) (y ∷ ys) (z ∷ zs) a b = (omega (arith, a.0, b.0), on xs ys zs a.1 b.1)

  pub at_one : (other : X) (xs : List X) (k : ℕ) (y : X) → counter (get_or xs k other) ≤ counter y → NotLower xs (set xs k y)
  at_one other [] k y le = tt
  at_one other (x ∷ xs) zero y le = (le, same xs)
  at_one other (x ∷ xs) (suc k) y le = (omega arith, at_one other xs k y le)

abbrev of_rows : Rows → ℕ
of_rows rows = rows.counter

abbrev of_holding : Holding → ℕ
of_holding holding = holding.counter

-- tables whose rows have places
from_placed : (befores : List Holding) (afters : List Rows) → NotLower of_rows (map placed befores) afters → NoneLower befores (map holding_in afters)
from_placed [] [] le = tt
from_placed [] (y ∷ ys) le = absurd le
from_placed (x ∷ xs) [] le = absurd le
from_placed (x ∷ xs) (y ∷ ys) le = (le.0, from_placed xs ys le.1)

put_raises : (state : State) (table slot : ℕ) (row : List Value) → NotLower of_rows state.tables (with_row_at state table slot row).tables
put_raises state table slot row = at_one of_rows no_rows state.tables table _ (omega arith)

deletion_keeps : (state : State) (table slot : ℕ) → NotLower of_rows state.tables (without_at state table slot).tables
deletion_keeps state table slot = at_one of_rows no_rows state.tables table _ (omega arith)

-- what a change leaves, where it is not refused
abbrev Raises : State → Result State Code → Type 0
Raises before (Ok state) = NotLower of_rows before.tables state.tables
Raises before (Err code) = Unit {0}

module _ (table : ℕ) (columns : List ℕ) (change : ModSpec) where
  instead : (slot : SlotRef) (state : State) (row : List Value) → Raises state (with_instead table slot state row)
  instead slot state row = by_refusal (refusal_of state table row (Some slot))
    where
      by_refusal : (refusal : Option Code) → Raises state (modify.unless_refused refusal (with_row_at state table slot.0 row))
      by_refusal None = put_raises state table slot.0 row
      by_refusal (Some code) = tt

  one : (slot : SlotRef) (state : State) → Raises state (changed_one table columns change slot state)
  one slot state = by_kind (deletes change.kind)
    where
      by_row : (row : Result (List Value) Code) → Raises state (row >>= with_instead table slot state)
      by_row (Ok row) = instead slot state row
      by_row (Err code) = tt

      by_kind : (gone : Bool) → Raises state (if gone then Ok (without_at state table slot.0) else changed_row change.kind columns change.values (row_at state table slot.0) >>= with_instead table slot state)
      by_kind true = deletion_keeps state table slot.0
      by_kind false = by_row (changed_row change.kind columns change.values (row_at state table slot.0))

  -- what more changes leave, where the first ones are not refused
  joined : (before middle : State) → NotLower of_rows before.tables middle.tables → (made : Result State Code) → Raises middle made → Raises before made
  joined before middle le (Ok later) more = on of_rows before.tables middle.tables later.tables le more
  joined before middle le (Err code) more = tt

  goes_on : (before : State) (more : State → Result State Code) → ((middle : State) → Raises middle (more middle)) → (made : Result State Code) → Raises before made → Raises before (made >>= more)
  goes_on before more each (Ok middle) le = joined before middle le (more middle) (each middle)
  goes_on before more each (Err code) le = tt

  all : (slots : List SlotRef) (state : State) → Raises state (changed_all table columns change slots state)
  all [] state = same of_rows state.tables
  all (slot ∷ slots) state =
      goes_on state (changed_all table columns change slots) (all slots) (changed_one table columns change slot state) (one slot state)

-- no table of an answer has a lower counter
abbrev Keeps : Database → List ℕ × Database → Type 0
Keeps before answer = NoneLower before.tables answer.1.tables

keeps_big : (db : Database) (fits : Rendered) (answer : List ℕ × Database) → Keeps db answer → Keeps db (unless_big fits db answer)
keeps_big db Fits answer le = le
keeps_big db TooBig answer le = same of_holding db.tables

keeps_refused : (db : Database) (reply : List ℕ) (made : Result State Code) → Raises (placed_in db) made → Keeps db (unless_refused db reply made)
keeps_refused db reply (Ok state) le = from_placed db.tables state.tables le
keeps_refused db reply (Err code) le = same of_holding db.tables

change_keeps : (db : Database) (find : FindSpec) (change : ModSpec) → Keeps db (change_answered db find change)
change_keeps db find change = by_show change.show
  where
    made : Raises (placed_in db) (changed db find change)
    made = all find.table find.columns change (slots_of (chosen db find)) (placed_in db)

    by_show : (show : Bool) → Keeps db (if show then unless_big (rendered (rows_reply db find)) db (unless_refused db (rows_reply db find) (changed db find change)) else unless_refused db (count_reply (length (chosen db find))) (changed db find change))
    by_show true = keeps_big db (rendered (rows_reply db find)) _ (keeps_refused db _ (changed db find change) made)
    by_show false = keeps_refused db _ (changed db find change) made

insert_keeps : (db : Database) (spec : InsertSpec) → Keeps db (insert_answered db spec)
insert_keeps db spec = by_coming (coming_to (placed_in db) spec.table _)
  where
    by_bar : (coming : Arrival) (bar : Option Code) → Keeps db (unless_barred db spec.table coming bar)
    by_bar coming None = at_one of_holding no_holding db.tables spec.table _ (omega arith)
    by_bar coming (Some code) = same of_holding db.tables

    by_coming : (coming : Result Arrival Code) → Keeps db (inserted db spec.table coming)
    by_coming (Ok coming) = by_bar coming (refusal_of (placed_in db) spec.table coming.row None)
    by_coming (Err code) = same of_holding db.tables

request_keeps : (db : Database) (request : Request) → Keeps db (request_answered db request)
request_keeps db (Find find) = keeps_big db (rendered (rows_reply db find)) _ (same of_holding db.tables)
request_keeps db (Modify find change) = change_keeps db find change
request_keeps db (Insert spec) = insert_keeps db spec

kind_keeps : (db : Database) (kind : ItemKind) → Keeps db (answered db kind)
kind_keeps db (kinds.Ready code) = same of_holding db.tables
kind_keeps db (kinds.Hs request) = request_keeps db request

pub never_lower : (db : Database) (items : List Item) → NoneLower db.tables (after db items).tables
never_lower db [] = same of_holding db.tables
never_lower db (item ∷ items) = on of_holding db.tables _ _ (kind_keeps db item.kind) (never_lower (answered db item.kind).1 items)
