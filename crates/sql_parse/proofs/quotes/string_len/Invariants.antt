use Rattle.std.proofs.Common.{◌≡◌, ◌+◌, ◌*◌, ◌++◌, length, drop, fold}
use Rattle.sql_parse.specs.declared.quotes.Within.TheVariants.{Bytes}
use Rattle.sql_parse.specs.Strings.{closing}
use Rattle.sql_parse.proofs.quotes.string_len.Given as goal

abbrev pub invariant-loop-place : goal.invariant-loop-place
invariant-loop-place l = closing l.within l.place (drop l.place l.text) ≡ closing Bytes 1 (drop 1 l.text)
