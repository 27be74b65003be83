-- Of which sort the operands of a part are that gives something.
use Rattle.std.proofs.Common.{◌≡◌, Bool, true, false, Option, Some, None, refl}
use Rattle.sql_value.specs.declared.kinds.ExprKind.{ExprKind}
use Rattle.sql_value.specs.declared.kinds.ExprKind.TheVariants.{Condition, Number, Text, Null}
use Rattle.sql_value.specs.Kinds.{numeric, alike, logical}

-- Whether it is a condition.
abbrev pub is_condition : ExprKind → Bool
is_condition Condition = true
is_condition Number = false
is_condition Text = false
is_condition Null = false

-- Two operands of one sort make this kind.
pub record Makes (sort : Bool) (made : ExprKind) (a b : Option ExprKind) (kind : ExprKind) : Type 0 where
  pub left : ExprKind
  pub right : ExprKind
  pub left_is : a ≡ Some left
  pub right_is : b ≡ Some right
  pub left_sort : is_condition left ≡ sort
  pub right_sort : is_condition right ≡ sort
  pub kind_is : kind ≡ made

makes : (sort : Bool) (made l r kind : ExprKind) → is_condition l ≡ sort → is_condition r ≡ sort → Some made ≡ Some kind → Makes sort made (Some l) (Some r) kind
makes sort made l r kind ls rs e = record { left = l; right = r; left_is = refl; right_is = refl; left_sort = ls; right_sort = rs; kind_is = cc }

pub of_numeric : (a b : Option ExprKind) (kind : ExprKind) → numeric a b ≡ Some kind → Makes false Number a b kind
of_numeric (Some Number) (Some Number) kind e = makes false Number Number Number kind refl refl e
of_numeric (Some Number) (Some Null) kind e = makes false Number Number Null kind refl refl e
of_numeric (Some Null) (Some Number) kind e = makes false Number Null Number kind refl refl e
of_numeric (Some Null) (Some Null) kind e = makes false Number Null Null kind refl refl e
of_numeric (Some Number) (Some Text) kind e = absurd cc
of_numeric (Some Number) (Some Condition) kind e = absurd cc
of_numeric (Some Number) None kind e = absurd cc
of_numeric (Some Null) (Some Text) kind e = absurd cc
of_numeric (Some Null) (Some Condition) kind e = absurd cc
of_numeric (Some Null) None kind e = absurd cc
of_numeric (Some Text) b kind e = absurd cc
of_numeric (Some Condition) b kind e = absurd cc
of_numeric None b kind e = absurd cc

pub of_alike : (a b : Option ExprKind) (kind : ExprKind) → alike a b ≡ Some kind → Makes false Condition a b kind
of_alike (Some Number) (Some Number) kind e = makes false Condition Number Number kind refl refl e
of_alike (Some Number) (Some Null) kind e = makes false Condition Number Null kind refl refl e
of_alike (Some Text) (Some Text) kind e = makes false Condition Text Text kind refl refl e
of_alike (Some Text) (Some Null) kind e = makes false Condition Text Null kind refl refl e
of_alike (Some Null) (Some Number) kind e = makes false Condition Null Number kind refl refl e
of_alike (Some Null) (Some Text) kind e = makes false Condition Null Text kind refl refl e
of_alike (Some Null) (Some Null) kind e = makes false Condition Null Null kind refl refl e
of_alike (Some Number) (Some Text) kind e = absurd cc
of_alike (Some Number) (Some Condition) kind e = absurd cc
of_alike (Some Number) None kind e = absurd cc
of_alike (Some Text) (Some Number) kind e = absurd cc
of_alike (Some Text) (Some Condition) kind e = absurd cc
of_alike (Some Text) None kind e = absurd cc
of_alike (Some Null) (Some Condition) kind e = absurd cc
of_alike (Some Null) None kind e = absurd cc
of_alike (Some Condition) b kind e = absurd cc
of_alike None b kind e = absurd cc

pub of_logical : (a b : Option ExprKind) (kind : ExprKind) → logical a b ≡ Some kind → Makes true Condition a b kind
of_logical (Some Condition) (Some Condition) kind e = makes true Condition Condition Condition kind refl refl e
of_logical (Some Condition) (Some Number) kind e = absurd cc
of_logical (Some Condition) (Some Text) kind e = absurd cc
of_logical (Some Condition) (Some Null) kind e = absurd cc
of_logical (Some Condition) None kind e = absurd cc
of_logical (Some Number) b kind e = absurd cc
of_logical (Some Text) b kind e = absurd cc
of_logical (Some Null) b kind e = absurd cc
of_logical None b kind e = absurd cc
