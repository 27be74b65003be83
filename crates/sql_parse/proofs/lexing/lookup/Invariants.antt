use Rattle.std.proofs.Common.{◌≡◌, length, map}
use Rattle.sql_parse.specs.Lex.{among}
use Rattle.sql_parse.proofs.lexing.lookup.Given as goal

abbrev pub invariant-loop-table : goal.invariant-loop-table
invariant-loop-table l = among (map (λ k. (k.0.now, k.1)) l.table) l.word ≡ among (map (λ k. (k.0.now, k.1)) l.initial.table) l.word

abbrev pub decreases-loop-table : goal.decreases-loop-table
decreases-loop-table l = length l.table
