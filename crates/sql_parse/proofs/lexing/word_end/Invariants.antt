use Rattle.std.proofs.Common.{◌≡◌, ◌+◌, ◌*◌, ◌++◌, length, drop, fold}
use Rattle.std.specs.List.{prefix_len}
use Rattle.sql_parse.specs.Lex.{is_word_byte}
use Rattle.sql_parse.proofs.lexing.word_end.Given as goal

abbrev pub invariant-loop-place : goal.invariant-loop-place
invariant-loop-place l = l.place + prefix_len is_word_byte (drop l.place l.text) ≡ l.from + prefix_len is_word_byte (drop l.from l.text)
