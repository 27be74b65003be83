-- What a condition asks of a column: the tests of a column by a literal, of which each must hold where the condition does.
use Rattle.std.specs.Prelude.{ℕ, Bool, true, false, ◌==◌, ◌&&◌, ◌||◌, List, [], ◌∷◌, ◌++◌, fold, find, Option, Some, None}
use Rattle.row_types.specs.declared.values.Value.{Value}
use Rattle.row_types.specs.declared.values.Value.TheVariants.{Null, Int, Text}
use Rattle.request_types.specs.declared.filters.FilterOp.{FilterOp}
use Rattle.request_types.specs.declared.filters.FilterOp.TheVariants.{Equal, NotEqual, Greater, GreaterEqual, Less, LessEqual}
use Rattle.sql_value.specs.declared.exprs.Expr.{Expr}
use Rattle.sql_value.specs.declared.exprs.Expr.TheOpen.{Expr-F}
use Rattle.sql_value.specs.declared.exprs.Expr.TheFolds.{fold-Expr}
use Rattle.sql_plan.specs.declared.contents.Contents.{Contents}
use Rattle.sql_plan.specs.declared.column_tests.Wanted.{Wanted}
use Rattle.sql_plan.specs.declared.column_tests.Wanted.TheVariants as wanted
use Rattle.sql_plan.specs.declared.column_tests.Test.{Test as Seen}

-- A column stands so to a literal.
pub record Test : Type 0 where
  pub column : ℕ
  pub op : FilterOp
  pub value : Value

-- The same, with a literal that lies elsewhere.
abbrev pub seen : Seen → Test
seen found = record { column = found.column; op = found.op; value = found.value.now }

-- What an expression is to a comparison that it stands in, and the tests among the operands of its outermost ANDs.
pub record Piece : Type 0 where
  pub column : Option ℕ
  pub literal : Option Value
  pub tests : List Test

-- An expression that is neither a column nor a literal, with these tests.
abbrev pub with_tests : List Test → Piece
with_tests tests = record { column = None; literal = None; tests = tests }

-- A literal that a column may be tested by: any but NULL.
abbrev pub literal_of : Value → Option Value
literal_of Null = None
literal_of (Int n) = Some (Int n)
literal_of (Text t) = Some (Text t)

-- A comparison, seen from its other side.
abbrev pub turned : FilterOp → FilterOp
turned Equal = Equal
turned NotEqual = NotEqual
turned Greater = Less
turned GreaterEqual = LessEqual
turned Less = Greater
turned LessEqual = GreaterEqual

-- The test that a column beside a literal is.
abbrev pub beside : FilterOp → Option ℕ → Option Value → List Test
beside op None literal = []
beside op (Some column) None = []
beside op (Some column) (Some value) = record { column = column; op = op; value = value } ∷ []

-- The test that a comparison is, if a column stands on one side and a literal on the other.
abbrev pub compared_in : FilterOp → Piece → Piece → List Test
compared_in op a b = beside op a.column b.literal ++ beside (turned op) b.column a.literal

-- A part of an expression, with its operands in their places.
abbrev pub piece_part : Expr-F Piece → Piece
piece_part (Expr-F.Literal value) = record { column = None; literal = literal_of value; tests = [] }
piece_part (Expr-F.Column place) = record { column = Some place; literal = None; tests = [] }
piece_part (Expr-F.Negate a) = with_tests []
piece_part (Expr-F.Arith op a b) = with_tests []
piece_part (Expr-F.Compare op a b) = with_tests (compared_in op a b)
piece_part (Expr-F.IsNull a) = with_tests []
piece_part (Expr-F.InList a all) = with_tests []
piece_part (Expr-F.Not a) = with_tests []
piece_part (Expr-F.And a b) = with_tests (a.tests ++ b.tests)
piece_part (Expr-F.Or a b) = with_tests []

-- An expression, as it stands to others.
abbrev pub piece_of : Expr → Piece
piece_of = fold-Expr Piece piece_part

-- The tests among the operands of its outermost ANDs.
abbrev pub tests_of : Expr → List Test
tests_of e = (piece_of e).tests

-- Whether a test settles its column, or bounds it on one side.
abbrev pub is_wanted : Wanted → FilterOp → Bool
is_wanted wanted.Equal Equal = true
is_wanted wanted.Equal NotEqual = false
is_wanted wanted.Equal Greater = false
is_wanted wanted.Equal GreaterEqual = false
is_wanted wanted.Equal Less = false
is_wanted wanted.Equal LessEqual = false
is_wanted wanted.Bound Equal = false
is_wanted wanted.Bound NotEqual = false
is_wanted wanted.Bound Greater = true
is_wanted wanted.Bound GreaterEqual = true
is_wanted wanted.Bound Less = true
is_wanted wanted.Bound LessEqual = true

-- Whether it is such a test of this column.
abbrev pub is_test_on : Wanted → ℕ → Test → Bool
is_test_on what column test = test.column == column && is_wanted what test.op

-- The first such test of a column.
abbrev pub first_test : Wanted → ℕ → List Test → Option Test
first_test what column tests = find (is_test_on what column) tests

-- An expression that holds what two others hold.
abbrev pub joined : Contents → Contents → Contents
joined a b = record { columns = a.columns || b.columns; sums = a.sums || b.sums }

-- An expression that calculates with what another holds.
abbrev pub summed : Contents → Contents
summed a = record { columns = a.columns; sums = a.columns || a.sums }

-- A part of an expression, with what its operands hold in their places.
abbrev pub contents_part : Expr-F Contents → Contents
contents_part (Expr-F.Literal value) = record { columns = false; sums = false }
contents_part (Expr-F.Column place) = record { columns = true; sums = false }
contents_part (Expr-F.Negate a) = summed a
contents_part (Expr-F.Arith op a b) = summed (joined a b)
contents_part (Expr-F.Compare op a b) = joined a b
contents_part (Expr-F.IsNull a) = a
contents_part (Expr-F.InList a all) = fold joined a all
contents_part (Expr-F.Not a) = a
contents_part (Expr-F.And a b) = joined a b
contents_part (Expr-F.Or a b) = joined a b

-- Whether an expression names a column, and whether it calculates with one.
abbrev pub contents_of : Expr → Contents
contents_of = fold-Expr Contents contents_part

-- Whether a condition calculates with a column.
abbrev pub calculates : Option Expr → Bool
calculates None = false
calculates (Some e) = (contents_of e).sums
