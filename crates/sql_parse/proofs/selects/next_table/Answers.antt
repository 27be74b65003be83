use Rattle.std.proofs.Common.{rules, arith}
use Rattle.std.proofs.lemmas.Grind.{common_steps}
use Rattle.sql_parse.specs.Statements.{table_ahead_from}
use Rattle.sql_parse.proofs.Turns.{one_more, no_more}
use Rattle.sql_parse.proofs.selects.next_table.Goals as goal

pub returns-in-From : goal.returns-in-From
unfolding table_ahead_from
returns-in-From c =
    let e = one_more (λ n. table_ahead_from c.args.schema.now n c.loop-turn.tokens) _ c.loop-turn._turn c.loop-turn-test.true c.loop-turn.invariant in
    first_of (search rules, grind (arith, common_steps))

pub returns-in-End : goal.returns-in-End
unfolding table_ahead_from
returns-in-End c =
    let e = one_more (λ n. table_ahead_from c.args.schema.now n c.loop-turn.tokens) _ c.loop-turn._turn c.loop-turn-test.true c.loop-turn.invariant in
    first_of (search rules, grind (arith, common_steps))

pub loop-turn-preserved : goal.loop-turn-preserved
unfolding table_ahead_from
loop-turn-preserved c =
    let e = one_more (λ n. table_ahead_from c.args.schema.now n c.loop-turn.tokens) _ c.loop-turn._turn c.loop-turn-test.true c.loop-turn.invariant in
    first_of (search rules, grind (arith, common_steps))

pub returns : goal.returns
unfolding table_ahead_from
returns c =
    let e = no_more (λ n. table_ahead_from c.args.schema.now n c.loop-turn.tokens) _ c.loop-turn._turn c.loop-turn-test.false c.loop-turn.invariant in
    first_of (search rules, grind (arith, common_steps))
