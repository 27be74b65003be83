use Rattle.std.proofs.Common.{rules, arith}
use Rattle.std.proofs.lemmas.Grind.{common_steps}
use Rattle.sql_parse.proofs.Hex.{next_pair, nothing_left}
use Rattle.sql_parse.proofs.quotes.unhexed.Goals as goal

pub loop-place-preserved : goal.loop-place-preserved
loop-place-preserved c =
    let e = next_pair c.args.digits.now c.loop-place.place (omega arith) in
    first_of (search rules, grind (arith, common_steps))

pub returns : goal.returns
returns c =
    let e = nothing_left c.args.digits.now c.loop-place.place (omega arith) in
    first_of (search rules, grind (arith, common_steps))
