use Rattle.std.proofs.Common.{◌≡◌, ◌+◌, ◌*◌, ◌++◌, length, drop, fold}
use Rattle.sql_parse.specs.declared.quotes.Within.TheVariants.{Bytes}
use Rattle.sql_parse.specs.Strings.{unquoted}
use Rattle.sql_parse.proofs.quotes.unquoted.Given as goal

abbrev pub invariant-loop-place : goal.invariant-loop-place
invariant-loop-place l = l.bytes.items ++ unquoted l.within (drop l.place l.inner) ≡ unquoted Bytes l.inner
