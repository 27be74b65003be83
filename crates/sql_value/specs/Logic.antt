-- Logic of three values, and how two values in an order stand to each other.
use Rattle.std.specs.Prelude.{Bool, true, false, not}
use Rattle.std.specs.Ordering.{is_eq, is_lt, is_gt}
use Rattle.std.specs.declared.cmp.Ordering.{Ordering}
use Rattle.request_types.specs.declared.filters.FilterOp.{FilterOp}
use Rattle.request_types.specs.declared.filters.FilterOp.TheVariants.{Equal, NotEqual, Greater, GreaterEqual, Less, LessEqual}
use Rattle.sql_value.specs.declared.truths.Truth.{Truth}
use Rattle.sql_value.specs.declared.truths.Truth.TheVariants.{Yes, No, Unknown}

-- What is known is true or false.
abbrev pub truth_of : Bool → Truth
truth_of true = Yes
truth_of false = No

-- NOT turns what is known.
abbrev pub not_of : Truth → Truth
not_of Yes = No
not_of No = Yes
not_of Unknown = Unknown

-- AND is false where either is, true where both are, and else unknown.
abbrev pub and_of : Truth → Truth → Truth
and_of No b = No
and_of Yes b = b
and_of Unknown No = No
and_of Unknown Yes = Unknown
and_of Unknown Unknown = Unknown

-- OR is true where either is, false where both are, and else unknown.
abbrev pub or_of : Truth → Truth → Truth
or_of Yes b = Yes
or_of No b = b
or_of Unknown Yes = Yes
or_of Unknown No = Unknown
or_of Unknown Unknown = Unknown

-- Whether two values in this order stand so to each other.
abbrev pub meets : FilterOp → Ordering → Bool
meets Equal order = is_eq order
meets NotEqual order = not (is_eq order)
meets Greater order = is_gt order
meets GreaterEqual order = not (is_lt order)
meets Less order = is_lt order
meets LessEqual order = not (is_gt order)
