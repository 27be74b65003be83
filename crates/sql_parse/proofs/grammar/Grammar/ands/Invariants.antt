use Rattle.std.proofs.Common.{◌≡◌, ◌-◌}
use Rattle.sql_parse.specs.Trees.{arith, both, either}
use Rattle.sql_parse.specs.Grammar.{expr, grouped_from, grouped_rest, and_of, negation}
use Rattle.sql_parse.proofs.grammar.Grammar.ands.Given as goal

abbrev pub invariant-loop-turn : goal.invariant-loop-turn
invariant-loop-turn g l = grouped_rest and_of (λ _. both) (negation l.self.columns.now (expr l.self.columns.now l.self.nest)) l.fn.a l.fn.tokens ≡ grouped_from and_of (λ _. both) (negation l.self.columns.now (expr l.self.columns.now l.self.nest)) (l._turn-end - l._turn) l.a l.tokens
