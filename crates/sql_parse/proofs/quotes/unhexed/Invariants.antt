use Rattle.std.proofs.Common.{◌≡◌, ◌+◌, ◌*◌, ◌++◌, length, drop, fold}
use Rattle.sql_parse.specs.Strings.{unhexed}
use Rattle.sql_parse.proofs.quotes.unhexed.Given as goal

abbrev pub invariant-loop-place : goal.invariant-loop-place
invariant-loop-place l = l.bytes.items ++ unhexed (drop (2 * l.place) l.digits) ≡ unhexed l.digits
