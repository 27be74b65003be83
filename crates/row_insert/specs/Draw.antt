-- The row that comes to a table, and the number that it draws.
use Rattle.std.specs.Prelude.{ℕ, zero, suc, ◌^◌, pos, negsuc, Bool, true, false, nat_lt, List, set, Option, Some, None, Result, Ok, Err, if◌then◌else◌}
use Rattle.row_types.specs.declared.values.Value.{Value}
use Rattle.row_types.specs.declared.values.Value.TheVariants.{Null, Int, Text}
use Rattle.request_types.specs.declared.codes.Code.{Code}
use Rattle.request_types.specs.declared.codes.Code.TheVariants.{Range}
use Rattle.table_rows.specs.Entries.{cell_at}
use Rattle.table_rows.specs.Rows.{State, counted_at, counter_of}
use Rattle.row_insert.specs.declared.drawing.Arrival.{Arrival}

-- A number is drawn in place of NULL and of 0.
abbrev pub is_drawn : Value → Bool
is_drawn Null = true
is_drawn (Int (pos zero)) = true
is_drawn (Int (pos (suc n))) = false
is_drawn (Int (negsuc n)) = false
is_drawn (Text t) = false

-- A row as it is.
abbrev pub as_it_is : List Value → Result Arrival Code
as_it_is row = Ok (record { row = row; number = None })

-- A row with this number in its counted column. A counter of 2^63 gives none.
abbrev pub with_number : ℕ → ℕ → List Value → Result Arrival Code
with_number column counter row =
    if nat_lt counter (2 ^ 63)
    then Ok (record { row = set row column (Int (pos counter)); number = Some (pos counter) })
    else Err Range

-- The row that comes: where it draws, the counter is the value.
abbrev pub coming : Option ℕ → ℕ → List Value → Result Arrival Code
coming None counter row = as_it_is row
coming (Some column) counter row =
    if is_drawn (cell_at row column) then with_number column counter row else as_it_is row

-- The same of a row for this table.
abbrev pub coming_to : State → ℕ → List Value → Result Arrival Code
coming_to state table row = coming (counted_at state table) (counter_of state table) row
