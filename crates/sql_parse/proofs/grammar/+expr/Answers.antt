use Rattle.std.proofs.Common.{◌≡◌, ap, arith}
use Rattle.sql_parse.specs.Grammar.{expr}
use Rattle.sql_parse.proofs.Turns.{deeper}
use Rattle.sql_parse.proofs.grammar.+expr.Goals as goal

pub returns-then-nest-eq0 : goal.returns-then-nest-eq0
unfolding expr
returns-then-nest-eq0 t c = let none : c.args.nest ≡ 0 = omega arith in ap (λ n. expr c.args.columns.now n c.args.level c.args.tokens.now) none

pub returns : goal.returns
unfolding expr
returns t c = rw (deeper (λ n. expr c.args.columns.now n c.args.level c.args.tokens.now) c.args.nest (omega arith)) c.at.ensures
