use Rattle.std.proofs.Common.{◌≡◌, ◌-◌}
use Rattle.sql_parse.specs.Grammar.{expr, members, members_from}
use Rattle.sql_parse.proofs.grammar.Grammar.members.Given as goal

abbrev pub invariant-loop-turn : goal.invariant-loop-turn
invariant-loop-turn g l = members l.self.columns.now (expr l.self.columns.now l.self.nest) l.fn.tokens ≡ members_from l.self.columns.now (expr l.self.columns.now l.self.nest) (l._turn-end - l._turn) l.found l.deepest l.tokens
