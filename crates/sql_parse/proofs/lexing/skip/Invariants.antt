use Rattle.std.proofs.Common.{◌≡◌, ◌+◌, ◌*◌, ◌++◌, length, drop, fold}
use Rattle.std.specs.List.{prefix_len}
use Rattle.sql_parse.specs.Lex.{is_blank}
use Rattle.sql_parse.proofs.lexing.skip.Given as goal

abbrev pub invariant-loop-place : goal.invariant-loop-place
invariant-loop-place l = l.place + prefix_len is_blank (drop l.place l.text) ≡ prefix_len is_blank l.text
