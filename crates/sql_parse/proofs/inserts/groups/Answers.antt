use Rattle.std.proofs.Common.{rules, arith}
use Rattle.std.proofs.lemmas.Grind.{common_steps}
use Rattle.sql_parse.specs.Input.{separated_from}
use Rattle.sql_parse.specs.Statements.{wide_group}
use Rattle.sql_parse.proofs.Turns.{one_more, no_more}
use Rattle.sql_parse.proofs.inserts.groups.Goals as goal

pub returns-in_err-cells : goal.returns-in_err-cells
unfolding separated_from
returns-in_err-cells c =
    let e = one_more (λ n. separated_from (wide_group c.args.reading.now.columns.now c.args.is_asked c.args.width) n c.loop-turn.found c.loop-turn.tokens) _ c.loop-turn._turn c.loop-turn-test.true c.loop-turn.invariant in
    first_of (search rules, grind (arith, common_steps))

pub returns-then-not-eat : goal.returns-then-not-eat
unfolding separated_from
returns-then-not-eat c =
    let e = one_more (λ n. separated_from (wide_group c.args.reading.now.columns.now c.args.is_asked c.args.width) n c.loop-turn.found c.loop-turn.tokens) _ c.loop-turn._turn c.loop-turn-test.true c.loop-turn.invariant in
    first_of (search rules, grind (arith, common_steps))

pub loop-turn-preserved : goal.loop-turn-preserved
unfolding separated_from
loop-turn-preserved c =
    let e = one_more (λ n. separated_from (wide_group c.args.reading.now.columns.now c.args.is_asked c.args.width) n c.loop-turn.found c.loop-turn.tokens) _ c.loop-turn._turn c.loop-turn-test.true c.loop-turn.invariant in
    first_of (search rules, grind (arith, common_steps))

pub returns : goal.returns
unfolding separated_from
returns c =
    let e = no_more (λ n. separated_from (wide_group c.args.reading.now.columns.now c.args.is_asked c.args.width) n c.loop-turn.found c.loop-turn.tokens) _ c.loop-turn._turn c.loop-turn-test.false c.loop-turn.invariant in
    first_of (search rules, grind (arith, common_steps))
