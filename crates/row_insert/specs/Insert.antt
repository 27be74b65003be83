-- The row that an insert makes, and what it leaves.
use Rattle.std.specs.Prelude.{◌≡◌, ℕ, suc, ℤ, ◌==◌, List, [], ◌∷◌, ◌++◌, Option, Some, None, Result, Ok, Err, if◌then◌else◌}
use Rattle.row_types.specs.declared.values.Value.{Value}
use Rattle.row_types.specs.declared.columns.Column.{Column}
use Rattle.request_types.specs.declared.codes.Code.{Code}
use Rattle.request_types.specs.declared.inserts.InsertSpec.{InsertSpec}
use Rattle.request_types.specs.Code.{number as number_of}
use Rattle.table_rows.specs.declared.undo.Undo.{Undo}
use Rattle.table_rows.specs.declared.undo.Undo.TheVariants.{Put}
use Rattle.table_rows.specs.Rows.{State, rows_of, counter_of}
use Rattle.table_rows.specs.Slots.{IsVacant, with_row_at}
use Rattle.table_rows.specs.Widths.{with_slots}
use Rattle.row_insert.specs.declared.drawing.Arrival.{Arrival}
use Rattle.row_insert.specs.Draw.{coming_to}
use Rattle.row_insert.specs.Refusal.{refusal_of}
use Rattle.row_insert.specs.declared.inserts.Inserted.{Inserted}
use Rattle.row_insert.specs.declared.inserts.Inserted.TheVariants.{Done, Refused}

-- The value that is named for a column, by place, or else the column's preset.
abbrev pub value_for : List ℕ → List Value → ℕ → Value → Value
value_for [] values column preset = preset
value_for (n ∷ ns) [] column preset = preset
value_for (n ∷ ns) (v ∷ vs) column preset =
    if n == column then v else value_for ns vs column preset

-- The values for these columns, of which the first has this number.
abbrev pub row_from : ℕ → List Column → List ℕ → List Value → List Value
row_from first [] numbers values = []
row_from first (c ∷ cs) numbers values =
    value_for numbers values first c.preset ∷ row_from (suc first) cs numbers values

-- A row with the values that an insert names. All other columns take their presets.
abbrev pub new_row : List Column → InsertSpec → List Value
new_row columns spec = row_from 0 columns spec.columns spec.values

-- What is answered where this is refused, or nothing is and this number was drawn.
abbrev pub answer_to : Option ℤ → Option Code → Inserted
answer_to number None = Done number
answer_to number (Some code) = Refused (number_of code)

-- What is answered where this row comes. That no number is left is found before all else.
abbrev pub insert_answer : State → ℕ → Result Arrival Code → Inserted
insert_answer state table (Err code) = Refused (number_of code)
insert_answer state table (Ok coming) = answer_to coming.number (refusal_of state table coming.row None)

-- The row that came, with the number that it drew, stands in a slot that was vacant once there was one at least, and its
-- coming is noted.
pub record IsPut (table : ℕ) (asked : List Value) (number : Option ℤ) (before after : State) (undos more : List Undo) :
    Type 0 where
  pub row : List Value
  pub comes : coming_to before table asked ≡ Ok (record { row = row; number = number })
  pub slot : ℕ
  pub vacant : IsVacant slot (rows_of (with_slots before table 1) table)
  pub put : after ≡ with_row_at (with_slots before table 1) table slot row
  pub noted : more ≡ undos ++ Put table (record { 0 = slot }) (counter_of before table) ∷ []
