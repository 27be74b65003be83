-- What a change makes of a cell, and of a row.
use Rattle.std.specs.Prelude.{ℤ, pos, negsuc, ◌+ℤ◌, ◌-ℤ◌, int_lt, Bool, ◌&&◌, ◌||◌, ℕ, List, [], ◌∷◌, set, Result, Ok, Err, if◌then◌else◌}
use Rattle.row_types.specs.declared.values.Value.{Value}
use Rattle.row_types.specs.declared.values.Value.TheVariants.{Null, Int, Text}
use Rattle.table_rows.specs.Entries.{cell_at}
use Rattle.request_types.specs.declared.mods.ModKind.{ModKind}
use Rattle.request_types.specs.declared.mods.ModKind.TheVariants.{Update, Add, Subtract, Remove}
use Rattle.request_types.specs.declared.codes.Code.{Code}
use Rattle.request_types.specs.declared.codes.Code.TheVariants.{Range}
use Rattle.request_types.specs.Refusal.{◌>>=◌}

-- Whether a number is none of 64 bits.
abbrev pub is_outside : ℤ → Bool
is_outside n = int_lt n (negsuc 9223372036854775807) || int_lt (pos 9223372036854775807) n

-- A cell of this number, which is refused outside 64 bits.
abbrev pub held : ℤ → Result Value Code
held n = if is_outside n then Err Range else Ok (Int n)

-- Whether the sign turns from the one number to the other. Zero has none.
abbrev pub turns : ℤ → ℤ → Bool
turns before after =
    (int_lt (pos 0) before && int_lt after (pos 0))
    || (int_lt before (pos 0) && int_lt (pos 0) after)

-- A number is added to the cell's. What is no number stays.
abbrev pub added : Value → Value → Result Value Code
added (Int n) (Int m) = held (n +ℤ m)
added (Int n) Null = Ok (Int n)
added (Int n) (Text t) = Ok (Int n)
added Null m = Ok Null
added (Text s) m = Ok (Text s)

-- A number is taken off the cell's, which stays where its sign would turn. What is no number stays.
abbrev pub taken_off : Value → Value → Result Value Code
taken_off (Int n) (Int m) = if turns n (n -ℤ m) then Ok (Int n) else held (n -ℤ m)
taken_off (Int n) Null = Ok (Int n)
taken_off (Int n) (Text t) = Ok (Int n)
taken_off Null m = Ok Null
taken_off (Text s) m = Ok (Text s)

-- What a cell becomes by a value. A deletion changes none.
abbrev pub changed_cell : ModKind → Value → Value → Result Value Code
changed_cell Update cell value = Ok value
changed_cell Add cell value = added cell value
changed_cell Subtract cell value = taken_off cell value
changed_cell Remove cell value = Ok cell

-- The row whose columns with these numbers are changed by the values, by place. There may be more
-- numbers than values.
abbrev pub changed_row : ModKind → List ℕ → List Value → List Value → Result (List Value) Code
changed_row kind numbers [] row = Ok row
changed_row kind [] (v ∷ vs) row = Ok row
changed_row kind (n ∷ ns) (v ∷ vs) row =
    changed_cell kind (cell_at row n) v >>= λ cell. changed_row kind ns vs (set row n cell)
