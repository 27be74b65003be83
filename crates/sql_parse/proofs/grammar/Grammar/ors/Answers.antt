use Rattle.std.proofs.Common.{rules, arith}
use Rattle.std.proofs.lemmas.Grind.{common_steps}
use Rattle.sql_parse.specs.Trees.{either}
use Rattle.sql_parse.specs.Grammar.{expr, grouped_from, grouped_rest, or_of, conjunction}
use Rattle.sql_parse.proofs.Turns.{one_more, no_more}
use Rattle.sql_parse.proofs.grammar.Grammar.ors.Goals as goal

pub returns-in_default : goal.returns-in_default
unfolding grouped_from
returns-in_default g c =
    let e = one_more (λ n. grouped_from or_of (λ _. either) (conjunction c.args.self.now.columns.now (expr c.args.self.now.columns.now c.args.self.now.nest)) n c.loop-turn.a c.loop-turn.tokens) _ c.loop-turn._turn c.loop-turn-test.true c.loop-turn.invariant in
    first_of (search rules, grind (arith, common_steps))

pub returns-in_err-b : goal.returns-in_err-b
unfolding grouped_from
returns-in_err-b g c =
    let e = one_more (λ n. grouped_from or_of (λ _. either) (conjunction c.args.self.now.columns.now (expr c.args.self.now.columns.now c.args.self.now.nest)) n c.loop-turn.a c.loop-turn.tokens) _ c.loop-turn._turn c.loop-turn-test.true c.loop-turn.invariant in
    first_of (search rules, grind (arith, common_steps))

pub returns-in_err-a : goal.returns-in_err-a
unfolding grouped_from
returns-in_err-a g c =
    let e = one_more (λ n. grouped_from or_of (λ _. either) (conjunction c.args.self.now.columns.now (expr c.args.self.now.columns.now c.args.self.now.nest)) n c.loop-turn.a c.loop-turn.tokens) _ c.loop-turn._turn c.loop-turn-test.true c.loop-turn.invariant in
    first_of (search rules, grind (arith, common_steps))

pub loop-turn-preserved : goal.loop-turn-preserved
unfolding grouped_from
loop-turn-preserved g c =
    let e = one_more (λ n. grouped_from or_of (λ _. either) (conjunction c.args.self.now.columns.now (expr c.args.self.now.columns.now c.args.self.now.nest)) n c.loop-turn.a c.loop-turn.tokens) _ c.loop-turn._turn c.loop-turn-test.true c.loop-turn.invariant in
    first_of (search rules, grind (arith, common_steps))

pub returns : goal.returns
unfolding grouped_from
returns g c =
    let e = no_more (λ n. grouped_from or_of (λ _. either) (conjunction c.args.self.now.columns.now (expr c.args.self.now.columns.now c.args.self.now.nest)) n c.loop-turn.a c.loop-turn.tokens) _ c.loop-turn._turn c.loop-turn-test.false c.loop-turn.invariant in
    first_of (search rules, grind (arith, common_steps))
