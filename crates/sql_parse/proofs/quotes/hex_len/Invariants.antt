use Rattle.std.proofs.Common.{◌≡◌, ◌+◌, ◌*◌, ◌++◌, length, drop, fold}
use Rattle.sql_parse.specs.Strings.{hex_closing}
use Rattle.sql_parse.proofs.quotes.hex_len.Given as goal

abbrev pub invariant-loop-place : goal.invariant-loop-place
invariant-loop-place l = hex_closing l.place (drop l.place l.text) ≡ hex_closing 2 (drop 2 l.text)
