-- The counter of a table, which is above every value of its counted column.
use Rattle.std.specs.Prelude.{◌≡◌, ℕ, suc, ◌≤◌, ◌^◌, ℤ, pos, negsuc, nat_lt, max, if◌then◌else◌, List, Option, Some, None}
use Rattle.row_types.specs.declared.values.Value.{Value}
use Rattle.row_types.specs.declared.values.Value.TheVariants as values
use Rattle.table_rows.specs.Entries.{cell_at}

-- The least counter above a value.
abbrev pub above : Value → ℕ
above (values.Int (pos n)) = suc n
above (values.Int (negsuc n)) = 0
above values.Null = 0
above (values.Text t) = 0

-- The least counter above a row's value in the counted column.
abbrev pub above_row : Option ℕ → List Value → ℕ
above_row None row = 0
above_row (Some column) row = above (cell_at row column)

-- A counter once this row stands in the table: it is raised where the row's value isn't below it.
abbrev pub raised : Option ℕ → List Value → ℕ → ℕ
raised counted row counter = max counter (above_row counted row)

-- The first counter, of a table without rows.
abbrev pub first_counter : Option ℕ → ℕ
first_counter None = 0
first_counter (Some column) = 1

-- A counter is from 1 to 2^63, and 0 where no column is counted.
abbrev pub IsCounter : Option ℕ → ℕ → Type 0
IsCounter None counter = counter ≡ 0
IsCounter (Some column) counter = (1 ≤ counter) × (counter ≤ 2 ^ 63)

-- The counter of a table that has one.
abbrev pub counter_if : Option ℕ → ℕ → Option ℕ
counter_if None counter = None
counter_if (Some column) counter = Some counter

-- The number that is drawn next. A counter of 2^63 has none.
abbrev pub next_if : Option ℕ → ℕ → Option ℤ
next_if None counter = None
next_if (Some column) counter = if nat_lt counter (2 ^ 63) then Some (pos counter) else None
