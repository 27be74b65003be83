-- What a change of selected rows leaves.
use Rattle.std.specs.Prelude.{ℕ, Bool, true, false, List, [], ◌∷◌, length, Option, Some, None, Result, Ok, Err, if◌then◌else◌}
use Rattle.row_types.specs.declared.values.Value.{Value}
use Rattle.request_types.specs.declared.mods.ModKind.{ModKind}
use Rattle.request_types.specs.declared.mods.ModKind.TheVariants.{Update, Add, Subtract, Remove}
use Rattle.request_types.specs.declared.mods.ModSpec.{ModSpec}
use Rattle.request_types.specs.declared.codes.Code.{Code}
use Rattle.request_types.specs.Code.{number}
use Rattle.request_types.specs.Refusal.{◌>>=◌}
use Rattle.table_rows.specs.declared.slot_ref.SlotRef.{SlotRef}
use Rattle.table_rows.specs.Rows.{State}
use Rattle.table_rows.specs.Slots.{row_at, with_row_at, without_at}
use Rattle.row_insert.specs.Refusal.{refusal_of}
use Rattle.find_modify.specs.declared.modifies.Modified.{Modified}
use Rattle.find_modify.specs.declared.modifies.Modified.TheVariants.{Done, Refused}
use Rattle.find_modify.specs.Cells.{changed_row}

-- What there is, unless it is refused.
abbrev pub unless_refused : {A : Type 0} → Option Code → A → Result A Code
unless_refused None x = Ok x
unless_refused (Some code) x = Err code

-- The state with this row in place of that in a slot, where the tables take it as they then are.
abbrev pub with_instead : ℕ → SlotRef → State → List Value → Result State Code
with_instead table slot state row =
    unless_refused (refusal_of state table row (Some slot)) (with_row_at state table slot.0 row)

-- Whether rows are deleted.
abbrev pub deletes : ModKind → Bool
deletes Update = false
deletes Add = false
deletes Subtract = false
deletes Remove = true

-- The state once the row in a slot is changed.
abbrev pub changed_one : ℕ → List ℕ → ModSpec → SlotRef → State → Result State Code
changed_one table columns change slot state =
    if deletes change.kind then Ok (without_at state table slot.0)
    else changed_row change.kind columns change.values (row_at state table slot.0)
    >>= with_instead table slot state

-- The state once the rows in these slots are changed, one after the other. The first refusal
-- counts.
abbrev pub changed_all : ℕ → List ℕ → ModSpec → List SlotRef → State → Result State Code
changed_all table columns change [] state = Ok state
changed_all table columns change (slot ∷ slots) state =
    changed_one table columns change slot state >>= changed_all table columns change slots

-- What is answered: how many rows were changed, or why one was refused.
abbrev pub answer_to : List SlotRef → Result State Code → Modified
answer_to slots (Ok state) = Done (length slots)
answer_to slots (Err code) = Refused (number code)
