-- What the operations of an expression make of what their operands are worth. What is of another
-- sort than the operation asks for never comes with a statement; here it counts as an overflow.
use Rattle.std.specs.Prelude.{ℕ, ℤ, pos, negsuc, ◌+ℤ◌, ◌-ℤ◌, ◌*ℤ◌, neg_ℤ, int_lt, Bool, ◌||◌, List, slice_index_or, if◌then◌else◌}
use Rattle.row_types.specs.declared.values.Value.{Value as Cell}
use Rattle.row_types.specs.declared.values.Value.TheVariants.{Null, Int, Text}
use Rattle.row_types.specs.Order.{value_cmp}
use Rattle.request_types.specs.declared.filters.FilterOp.{FilterOp}
use Rattle.sql_value.specs.declared.exprs.ArithOp.{ArithOp}
use Rattle.sql_value.specs.declared.exprs.ArithOp.TheVariants.{Sum, Difference, Product}
use Rattle.sql_value.specs.declared.truths.Truth.{Truth as Logical}
use Rattle.sql_value.specs.declared.truths.Truth.TheVariants.{Yes, No, Unknown}
use Rattle.sql_value.specs.declared.worth.Evaluated.{Evaluated}
use Rattle.sql_value.specs.declared.worth.Evaluated.TheVariants.{Truth, Value, Overflow}
use Rattle.sql_value.specs.declared.worth.Worth.{Worth}
use Rattle.sql_value.specs.declared.worth.Worth.TheVariants as worths
use Rattle.sql_value.specs.Logic.{truth_of, not_of, and_of, or_of, meets}

-- Whether a number is none of 64 bits.
abbrev pub is_outside : ℤ → Bool
is_outside n = int_lt n (negsuc 9223372036854775807) || int_lt (pos 9223372036854775807) n

-- A number of 64 bits, or an overflow.
abbrev pub bounded : ℤ → Evaluated
bounded n = if is_outside n then Overflow else Value (Int n)

-- The other sign of NULL is NULL, that of a number a number of 64 bits or an overflow.
abbrev pub negated : Evaluated → Evaluated
negated (Value Null) = Value Null
negated (Value (Int n)) = bounded (neg_ℤ n)
negated other = Overflow

-- The sum, the difference or the product of two numbers.
abbrev pub result_of : ArithOp → ℤ → ℤ → ℤ
result_of Sum m n = m +ℤ n
result_of Difference m n = m -ℤ n
result_of Product m n = m *ℤ n

-- An operation with NULL is NULL, one of two numbers a number of 64 bits or an overflow.
abbrev pub combined : ArithOp → Evaluated → Evaluated → Evaluated
combined op (Value (Int m)) (Value (Int n)) = bounded (result_of op m n)
combined op (Value (Int m)) (Value Null) = Value Null
combined op (Value Null) (Value (Int n)) = Value Null
combined op (Value Null) (Value Null) = Value Null
combined op _ _ = Overflow

-- A comparison with NULL is unknown, another true or false by the order of values.
abbrev pub comparison : FilterOp → Cell → Cell → Logical
comparison op Null b = Unknown
comparison op (Int m) Null = Unknown
comparison op (Text s) Null = Unknown
comparison op a b = truth_of (meets op (value_cmp a b))

-- The same of two operands.
abbrev pub compared : FilterOp → Evaluated → Evaluated → Evaluated
compared op (Value a) (Value b) = Truth (comparison op a b)
compared op _ _ = Overflow

-- Whether a value is NULL is known of each.
abbrev pub null_test : Evaluated → Evaluated
null_test (Value Null) = Truth Yes
null_test (Value (Int n)) = Truth No
null_test (Value (Text t)) = Truth No
null_test other = Overflow

-- NOT of what a condition is worth.
abbrev pub opposite : Evaluated → Evaluated
opposite (Truth t) = Truth (not_of t)
opposite other = Overflow

-- AND of what two conditions are worth: an overflow of either is one of both.
abbrev pub both : Evaluated → Evaluated → Evaluated
both (Truth s) (Truth t) = Truth (and_of s t)
both _ _ = Overflow

-- OR of the same.
abbrev pub either : Evaluated → Evaluated → Evaluated
either (Truth s) (Truth t) = Truth (or_of s t)
either _ _ = Overflow

-- The cell of a column.
abbrev pub cell_at : List Cell → ℕ → Cell
cell_at row place = slice_index_or row place Null

-- What is worked out without memory, as what it stands for.
abbrev pub evaluated : Worth → Evaluated
evaluated (worths.Truth t) = Truth t
evaluated worths.Null = Value Null
evaluated (worths.Int n) = Value (Int n)
evaluated (worths.Text t) = Value (Text t.now)
evaluated worths.Overflow = Overflow
