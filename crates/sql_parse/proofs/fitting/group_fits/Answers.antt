use Rattle.std.proofs.Common.{rules, arith}
use Rattle.std.proofs.lemmas.Grind.{common_steps}
use Rattle.sql_parse.proofs.Groups.{no_cell}
use Rattle.sql_parse.proofs.fitting.group_fits.Goals as goal

pub returns-in-empty : goal.returns-in-empty
returns-in-empty c =
    let e = no_cell c.args.columns.now c.args.places.now c.loop-place.place-index c.loop-place-test.true in
    first_of (search rules, grind (arith, common_steps))
