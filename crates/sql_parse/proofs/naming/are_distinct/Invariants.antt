use Rattle.std.proofs.Common.{◌≡◌, nat_eq, length}
use Rattle.row_types.specs.Valid.{are_distinct}
use Rattle.sql_parse.proofs.naming.are_distinct.Given as goal

-- what is left has a place twice if the whole has
abbrev pub invariant-loop-left : goal.invariant-loop-left
invariant-loop-left l = are_distinct nat_eq l.left ≡ are_distinct nat_eq l.places

abbrev pub decreases-loop-left : goal.decreases-loop-left
decreases-loop-left l = length l.left
