-- The size of a row, which the limit on all rows is a limit on.
use Rattle.std.specs.Prelude.{ℕ, ◌+◌, List, length, sum_by}
use Rattle.row_types.specs.declared.values.Value.{Value}
use Rattle.row_types.specs.declared.values.Value.TheVariants.{Null, Int, Text}

-- An integer counts 8, NULL 1, a text 4 and its bytes.
abbrev pub value_size : Value → ℕ
value_size Null = 1
value_size (Int n) = 8
value_size (Text t) = 4 + length t

-- A row counts 64 and its values.
abbrev pub row_size : List Value → ℕ
row_size row = 64 + sum_by value_size row
