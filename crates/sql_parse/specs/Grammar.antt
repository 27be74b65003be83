-- Expressions, rule by rule. What stands in parentheses is read once, as a condition or a value, and
-- the rule around it asks which of the two it is.
use Rattle.std.specs.Prelude.{ℕ, zero, suc, max, ℤ, if◌then◌else◌, List, [], ◌∷◌, ◌++◌, length, Option, Some, None, option_and_then}
use Rattle.request_types.specs.declared.filters.FilterOp.{FilterOp}
use Rattle.request_types.specs.declared.filters.FilterOp.TheVariants as ops
use Rattle.row_types.specs.declared.columns.Column.{Column}
use Rattle.row_types.specs.declared.values.Value.TheVariants as values
use Rattle.sql_value.specs.declared.exprs.ArithOp.{ArithOp}
use Rattle.sql_value.specs.declared.exprs.ArithOp.TheVariants.{Sum, Difference, Product}
use Rattle.sql_value.specs.declared.exprs.Expr.{Expr}
use Rattle.sql_value.specs.declared.exprs.Expr.TheVariants as exprs
use Rattle.sql_parse.specs.declared.token_kinds.TokenKind.{TokenKind}
use Rattle.sql_parse.specs.declared.token_kinds.TokenKind.TheVariants as k
use Rattle.sql_parse.specs.declared.quotes.Within.TheVariants.{Bytes}
use Rattle.sql_parse.specs.declared.trees.Tree.{Tree}
use Rattle.sql_parse.specs.declared.grammar.Level.{Level}
use Rattle.sql_parse.specs.declared.grammar.Level.TheVariants as level
use Rattle.sql_parse.specs.Strings.{inside, unquoted, unhexed}
use Rattle.sql_parse.specs.Numbers.{number_of, positive, negative}
use Rattle.sql_parse.specs.Names.{column_place, name}
use Rattle.sql_parse.specs.Trees.{is_worth, must, leaf, negate, arith, compare, is_null, in_list, opposite, both, either}
use Rattle.sql_parse.specs.Input.{Parser, ◌>>=◌, ◌>>◌, pure, refuse, lift, peek, take_token, eat, expect}

-- A literal of this number, if it is one.
abbrev pub literal_of : Option ℤ → Option Tree
literal_of None = None
literal_of (Some n) = Some (leaf (exprs.Literal (values.Int n)))

abbrev pub text_literal : List ℕ → Tree
text_literal text = leaf (exprs.Literal (values.Text text))

-- Behind an operand: an operator and the next operand, or nothing more of this rule.
abbrev pub goes_on : {O : Type 0} → (O → Tree → Tree → Option Tree) → Parser Tree → (Tree → Parser Tree) → Tree → Option O → Parser Tree
goes_on join operand more a None = pure a
goes_on join operand more a (Some op) = do
  take_token
  b ← operand
  joined ← lift (join op a b)
  more joined

-- Operands with operators between them, grouped from the left. The number bounds the turns.
unfoldable pub grouped_from : {O : Type 0} → (TokenKind → Option O) → (O → Tree → Tree → Option Tree) → Parser Tree → ℕ → Tree → Parser Tree
grouped_from operator join operand zero a = pure a
grouped_from operator join operand (suc n) a = do
  kind ← peek
  goes_on join operand (grouped_from operator join operand n) a (operator kind)

-- {operator operand}, behind an operand.
abbrev pub grouped_rest : {O : Type 0} → (TokenKind → Option O) → (O → Tree → Tree → Option Tree) → Parser Tree → Tree → Parser Tree
grouped_rest operator join operand a = λ i. grouped_from operator join operand (length i) a i

-- operand {operator operand}
abbrev pub grouped : {O : Type 0} → (TokenKind → Option O) → (O → Tree → Tree → Option Tree) → Parser Tree → Parser Tree
grouped operator join operand = operand >>= grouped_rest operator join operand

abbrev pub sign_of : TokenKind → Option ArithOp
sign_of k.Plus = Some Sum
sign_of k.Minus = Some Difference
sign_of _ = None

abbrev pub times_of : TokenKind → Option ArithOp
times_of k.Star = Some Product
times_of _ = None

abbrev pub comparison_of : TokenKind → Option FilterOp
comparison_of k.Equal = Some ops.Equal
comparison_of k.NotEqual = Some ops.NotEqual
comparison_of k.Less = Some ops.Less
comparison_of k.LessEqual = Some ops.LessEqual
comparison_of k.Greater = Some ops.Greater
comparison_of k.GreaterEqual = Some ops.GreaterEqual
comparison_of _ = None

abbrev pub and_of : TokenKind → Option (Unit {0})
and_of k.And = Some tt
and_of _ = None

abbrev pub or_of : TokenKind → Option (Unit {0})
or_of k.Or = Some tt
or_of _ = None

-- Of a table with these columns. `inner` reads what stands one parenthesis, NOT or sign deeper.
module _ (columns : List Column) (inner : Level → Parser Tree) where
  -- "(" .. ")"
  unfoldable pub group : Parser Tree
  group = do
    take_token
    a ← inner level.Condition
    expect k.Close
    pure a

  -- atom = num | string | NULL | name | "(" .. ")"
  abbrev pub atom_by : TokenKind → Parser Tree
  atom_by k.Number = do
    digits ← take_token
    lift (literal_of (option_and_then positive (number_of digits)))
  atom_by k.Text = do
    spelled ← take_token
    pure (text_literal (unquoted Bytes (inside 1 spelled)))
  atom_by k.Hex = do
    spelled ← take_token
    pure (text_literal (unhexed (inside 2 spelled)))
  atom_by k.Null = take_token >> pure (leaf (exprs.Literal values.Null))
  atom_by k.Open = group
  atom_by _ = do
    called ← name
    pure (leaf (exprs.Column (column_place columns called)))

  unfoldable pub atom : Parser Tree
  atom = peek >>= atom_by

  -- unary = "-" unary | atom
  unfoldable pub unary : Parser Tree
  unary = do
    is_signed ← eat k.Minus
    if is_signed then inner level.Signed else atom

  -- What stands behind a sign. With a number there the two are one literal.
  unfoldable pub signed : Parser Tree
  signed = do
    kind ← peek
    behind kind
    where
      behind : TokenKind → Parser Tree
      behind k.Number = do
        digits ← take_token
        lift (literal_of (option_and_then negative (number_of digits)))
      behind _ = unary >>= λ a. lift (negate a)

  -- term = unary {"*" unary}
  unfoldable pub term : Parser Tree
  term = grouped times_of arith unary

  -- value = term {("+" | "-") term}. It may be a condition in parentheses.
  unfoldable pub value : Parser Tree
  value = grouped sign_of arith term

  -- A value, and no condition.
  unfoldable pub worth : Parser Tree
  worth = value >>= λ a. lift (must is_worth a)

  -- IS [NOT] NULL, behind a value.
  unfoldable pub null_test : Tree → Parser Tree
  null_test a = do
    take_token
    is_turned ← eat k.Not
    expect k.Null
    tested ← lift (is_null a)
    if is_turned then lift (opposite tested) else pure tested

  -- value {"," value}, and the depth of the deepest. The number bounds the turns.
  unfoldable pub members_from : ℕ → List Expr → ℕ → Parser (List Expr × ℕ)
  members_from zero found deepest = refuse
  members_from (suc n) found deepest = do
    x ← inner level.Worth
    more ← eat k.Comma
    if more then members_from n (found ++ x.expr ∷ []) (max deepest x.depth)
        else pure (found ++ x.expr ∷ [], max deepest x.depth)

  unfoldable pub members : Parser (List Expr × ℕ)
  members = λ i. members_from (length i) [] 0 i

  -- IN "(" value {"," value} ")", behind a value.
  unfoldable pub membership : Tree → Parser Tree
  membership a = do
    expect k.In
    expect k.Open
    all ← members
    expect k.Close
    lift (in_list a all.0 all.1)

  -- A comparison by this operator, if it is one.
  unfoldable pub against : Tree → Option FilterOp → Parser Tree
  against a None = pure a
  against a (Some op) = do
    take_token
    b ← value
    lift (compare op a b)

  -- test = "(" cond ")" | value cmp value | value IS [NOT] NULL | value [NOT] IN "(" .. ")"
  abbrev pub test_by : Tree → TokenKind → Parser Tree
  test_by a k.Is = null_test a
  test_by a k.Not = take_token >> membership a >>= λ among. lift (opposite among)
  test_by a k.In = membership a
  test_by a kind = against a (comparison_of kind)

  unfoldable pub test : Parser Tree
  test = do
    a ← value
    kind ← peek
    test_by a kind

  -- neg = NOT neg | test
  unfoldable pub negation : Parser Tree
  negation = do
    is_turned ← eat k.Not
    if is_turned then inner level.Turned else test

  -- conj = neg {AND neg}
  unfoldable pub conjunction : Parser Tree
  conjunction = grouped and_of (λ _. both) negation

  -- cond = conj {OR conj}. Where no operator of conditions stands it may be a value.
  unfoldable pub condition : Parser Tree
  condition = grouped or_of (λ _. either) conjunction

  -- What is read in the place of an operand.
  unfoldable pub at : Level → Parser Tree
  at level.Condition = condition
  at level.Turned = negation >>= λ a. lift (opposite a)
  at level.Worth = worth
  at level.Signed = signed

-- Expressions in which parentheses, NOT and signs nest less deep than the number.
unfoldable pub expr : List Column → ℕ → Level → Parser Tree
expr columns zero level = refuse
expr columns (suc n) level = at columns (expr columns n) level
