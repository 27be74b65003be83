use Rattle.std.proofs.Common.{rules, arith}
use Rattle.std.proofs.lemmas.Grind.{common_steps}
use Rattle.sql_parse.specs.Lex.{keyword}
use Rattle.sql_parse.proofs.lexing.keyword.Goals as goal

pub returns : goal.returns
unfolding keyword
returns c = first_of (search rules, grind (arith, common_steps))
