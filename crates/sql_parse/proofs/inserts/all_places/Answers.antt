use Rattle.std.proofs.Common.{rules, arith}
use Rattle.std.proofs.lemmas.Grind.{common_steps}
use Rattle.sql_parse.proofs.Places.{places_on}
use Rattle.sql_parse.proofs.inserts.all_places.Goals as goal

pub loop-place-preserved : goal.loop-place-preserved
loop-place-preserved c =
    let e = places_on c.args.columns.now c.loop-place.place c.loop-place.place c.loop-place-test.true in
    first_of (search rules, grind (arith, common_steps))
