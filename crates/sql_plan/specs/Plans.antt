-- Which range of which index a condition is looked up in.
use Rattle.std.specs.Prelude.{ℕ, zero, suc, ◌+◌, ◌*◌, ◌==◌, max, if◌then◌else◌, List, [], ◌∷◌, ◌++◌, length, map, fold, Option, Some, None}
use Rattle.std.specs.List.{position_from}
use Rattle.row_types.specs.declared.values.Value.{Value}
use Rattle.row_types.specs.declared.indexes.IndexDef.{IndexDef}
use Rattle.request_types.specs.declared.filters.FilterOp.{FilterOp}
use Rattle.request_types.specs.declared.filters.FilterOp.TheVariants.{Equal, NotEqual, Greater, GreaterEqual, Less, LessEqual}
use Rattle.table_rows.specs.declared.edge.Edge.{Edge}
use Rattle.table_rows.specs.declared.edge.Edge.TheVariants.{Open, With, Without}
use Rattle.table_rows.specs.Indexes.{parts_of, parts_at}
use Rattle.sql_value.specs.declared.exprs.Expr.{Expr}
use Rattle.sql_plan.specs.declared.column_tests.Wanted.TheVariants as wanted
use Rattle.sql_plan.specs.declared.plans.Plan.{Plan}
use Rattle.sql_plan.specs.declared.plans.Plan.TheVariants.{Whole, Range}
use Rattle.sql_plan.specs.Tests.{Test, tests_of, first_test, calculates}

-- The literal of a test and those behind it. Where there is no test none follows.
abbrev pub key_from : Option Test → List Value → List Value
key_from None later = []
key_from (Some test) later = test.value ∷ later

-- The literals of the first parts of an index, as far as a part is tested by `=`.
abbrev pub key_of : List Test → List ℕ → List Value
key_of tests [] = []
key_of tests (part ∷ parts) = key_from (first_test wanted.Equal part tests) (key_of tests parts)

-- The bound of a part that isn't tested by `=`, or else that of a later one.
abbrev pub bound_from : Option Test → Option Test → Option Test → Option Test
bound_from None here later = here
bound_from (Some test) here later = later

-- The first test that bounds the part behind these.
abbrev pub bound_of : List Test → List ℕ → Option Test
bound_of tests [] = None
bound_of tests (part ∷ parts) =
    bound_from (first_test wanted.Equal part tests) (first_test wanted.Bound part tests) (bound_of tests parts)

-- Whether there is such a test, as a number.
abbrev pub further : Option Test → ℕ
further None = 0
further (Some test) = 1

-- How far an index is served: the more parts the further, and the same of parts further with a bound behind them.
abbrev pub rank_of : List Test → List ℕ → ℕ
rank_of tests parts = 2 * length (key_of tests parts) + further (bound_of tests parts)

-- The ranks of the indexes with these parts.
abbrev pub ranks_of : List Test → List (List ℕ) → List ℕ
ranks_of tests orders = map (rank_of tests) orders

-- The place of the first number that is this one, which is nothing where it is 0.
abbrev pub place_of : ℕ → List ℕ → Option ℕ
place_of zero ranks = None
place_of (suc most) ranks = position_from (λ rank. rank == suc most) 0 ranks

-- The index that is served furthest, and of several the first. There is none where no index is served at all.
abbrev pub best_of : List Test → List (List ℕ) → Option ℕ
best_of tests orders = let ranks = ranks_of tests orders in place_of (fold max 0 ranks) ranks

-- The edge at these values, with all rows that begin with them.
abbrev pub edge_at : List Value → Edge (List Value)
edge_at [] = Open
edge_at (value ∷ values) = With (value ∷ values)

-- The low edge of the rows with this key, where their next cell stands so to a value.
abbrev pub low_by : FilterOp → List Value → Value → Edge (List Value)
low_by Greater key value = Without (key ++ value ∷ [])
low_by GreaterEqual key value = With (key ++ value ∷ [])
low_by Equal key value = edge_at key
low_by NotEqual key value = edge_at key
low_by Less key value = edge_at key
low_by LessEqual key value = edge_at key

-- Their high edge.
abbrev pub high_by : FilterOp → List Value → Value → Edge (List Value)
high_by Less key value = Without (key ++ value ∷ [])
high_by LessEqual key value = With (key ++ value ∷ [])
high_by Equal key value = edge_at key
high_by NotEqual key value = edge_at key
high_by Greater key value = edge_at key
high_by GreaterEqual key value = edge_at key

-- The low edge of the rows with this key that meet the bound, if there is one.
abbrev pub low_of : List Value → Option Test → Edge (List Value)
low_of key None = edge_at key
low_of key (Some bound) = low_by bound.op key bound.value

-- Their high edge.
abbrev pub high_of : List Value → Option Test → Edge (List Value)
high_of key None = edge_at key
high_of key (Some bound) = high_by bound.op key bound.value

-- The range of the index with this number, whose parts these are.
abbrev pub range_in : List Test → ℕ → List ℕ → Plan
range_in tests index parts =
    Range index (low_of (key_of tests parts) (bound_of tests parts)) (high_of (key_of tests parts) (bound_of tests parts))

-- The range of the index that is served furthest; the whole table where none is served.
abbrev pub plan_by : List Test → List IndexDef → Option ℕ → Plan
plan_by tests indexes None = Whole
plan_by tests indexes (Some index) = range_in tests index (parts_at indexes index)

-- A condition gets a range where an index is served, unless it calculates with a column.
abbrev pub plan_of : Option Expr → List IndexDef → Plan
plan_of None indexes = Whole
plan_of (Some e) indexes =
    if calculates (Some e) then Whole else plan_by (tests_of e) indexes (best_of (tests_of e) (parts_of indexes))
