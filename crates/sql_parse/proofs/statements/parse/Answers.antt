use Rattle.sql_parse.proofs.ReadFits.{given_fits}
use Rattle.sql_parse.proofs.statements.parse.Goals as goal

pub returns-clause-fits : goal.returns-clause-fits
returns-clause-fits c valid = given_fits c.args.schema.now c.args.line.now c.read_line.result c.read_line.ensures valid
