-- What filters decide of a row.
use Rattle.std.specs.Prelude.{List, [], ◌∷◌, Bool, not, slice_index_or, if◌then◌else◌}
use Rattle.std.specs.Ordering.{is_eq, is_lt, is_gt}
use Rattle.row_types.specs.declared.values.Value.{Value}
use Rattle.row_types.specs.declared.values.Value.TheVariants.{Null}
use Rattle.row_types.specs.Order.{value_cmp}
use Rattle.request_types.specs.declared.filters.FilterOp.{FilterOp}
use Rattle.request_types.specs.declared.filters.FilterOp.TheVariants.{Equal, NotEqual, Greater, GreaterEqual, Less, LessEqual}
use Rattle.request_types.specs.declared.filters.FilterSpec.{FilterSpec}
use Rattle.find_filter.specs.declared.filters.Step.{Step}
use Rattle.find_filter.specs.declared.filters.Step.TheVariants.{Keep, Skip, Stop}

-- Whether a value stands in this relation to another, in the order of values: NULL equals NULL and
-- stands before every other value.
abbrev pub stands : FilterOp → Value → Value → Bool
stands Equal a b = is_eq (value_cmp a b)
stands NotEqual a b = not (is_eq (value_cmp a b))
stands Greater a b = is_gt (value_cmp a b)
stands GreaterEqual a b = not (is_lt (value_cmp a b))
stands Less a b = is_lt (value_cmp a b)
stands LessEqual a b = not (is_gt (value_cmp a b))

-- Whether the row's cell at the filter's column stands in the filter's relation to its value.
abbrev pub holds : List Value → FilterSpec → Bool
holds row filter = stands filter.op (slice_index_or row filter.column Null) filter.value

-- A row that fails a filter is passed over, or ends the request.
abbrev pub failed : FilterSpec → Step
failed filter = if filter.stop then Stop else Skip

-- The first filter, in the order of the line, that a row fails decides; a row that fails none is
-- kept.
abbrev pub step_of : List Value → List FilterSpec → Step
step_of row [] = Keep
step_of row (f ∷ fs) = if holds row f then step_of row fs else failed f
