use Rattle.std.proofs.Common.{◌≡◌, ◌-◌}
use Rattle.sql_parse.specs.Trees.{arith, both, either}
use Rattle.sql_parse.specs.Grammar.{expr, grouped_from, grouped_rest, sign_of, term}
use Rattle.sql_parse.proofs.grammar.Grammar.sums.Given as goal

abbrev pub invariant-loop-turn : goal.invariant-loop-turn
invariant-loop-turn g l = grouped_rest sign_of arith (term l.self.columns.now (expr l.self.columns.now l.self.nest)) l.fn.a l.fn.tokens ≡ grouped_from sign_of arith (term l.self.columns.now (expr l.self.columns.now l.self.nest)) (l._turn-end - l._turn) l.a l.tokens
