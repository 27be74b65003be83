-- Expressions as they grow, with their depth: 1 of a literal or a column, else one more than that of
-- the deepest operand or listed value.
use Rattle.std.specs.Prelude.{ℕ, ◌+◌, max, nat_lt, Bool, true, false, not, ◌&&◌, if◌then◌else◌, List, Option, Some, None}
use Rattle.request_types.specs.declared.filters.FilterOp.{FilterOp}
use Rattle.sql_value.specs.declared.exprs.ArithOp.{ArithOp}
use Rattle.sql_value.specs.declared.exprs.Expr.{Expr}
use Rattle.sql_value.specs.declared.exprs.Expr.TheVariants.{Negate, Arith, Compare, IsNull, InList, Not, And, Or}
use Rattle.sql_parse.specs.declared.trees.Tree.{Tree}

-- A condition.
abbrev pub is_met : Tree → Bool
is_met t = t.is_condition

-- A value, and no condition.
abbrev pub is_worth : Tree → Bool
is_worth t = not t.is_condition

-- The same, where such a one has to stand.
abbrev pub must : (Tree → Bool) → Tree → Option Tree
must test t = if test t then Some t else None

-- A literal or a column.
abbrev pub leaf : Expr → Tree
leaf e = record { expr = e; depth = 1; is_condition = false }

-- The part above operands of which the deepest is so deep, if they are of the sort that it asks
-- for. No expression is deeper than 1,000.
abbrev pub above : Bool → Bool → Expr → ℕ → Option Tree
above is_condition stand e deepest =
    if stand && nat_lt deepest 1000 then
    Some (record { expr = e; depth = deepest + 1; is_condition = is_condition })
    else None

abbrev pub negate : Tree → Option Tree
negate a = above false (is_worth a) (Negate a.expr) a.depth

abbrev pub arith : ArithOp → Tree → Tree → Option Tree
arith op a b =
    above false (is_worth a && is_worth b) (Arith op a.expr b.expr) (max a.depth b.depth)

abbrev pub compare : FilterOp → Tree → Tree → Option Tree
compare op a b =
    above true (is_worth a && is_worth b) (Compare op a.expr b.expr) (max a.depth b.depth)

abbrev pub is_null : Tree → Option Tree
is_null a = above true (is_worth a) (IsNull a.expr) a.depth

-- The deepest of the listed values is so deep.
abbrev pub in_list : Tree → List Expr → ℕ → Option Tree
in_list a all deepest = above true (is_worth a) (InList a.expr all) (max a.depth deepest)

abbrev pub opposite : Tree → Option Tree
opposite a = above true (is_met a) (Not a.expr) a.depth

abbrev pub both : Tree → Tree → Option Tree
both a b = above true (is_met a && is_met b) (And a.expr b.expr) (max a.depth b.depth)

abbrev pub either : Tree → Tree → Option Tree
either a b = above true (is_met a && is_met b) (Or a.expr b.expr) (max a.depth b.depth)
