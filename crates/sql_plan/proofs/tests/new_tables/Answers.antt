use Rattle.std.proofs.Common.{sym, subst}
use Rattle.row_types.specs.Valid.{IsValid}
use Rattle.sql_plan.proofs.Plays.{numbers_valid}
use Rattle.sql_plan.proofs.tests.new_tables.Goals as goal

pub new-requires-clause-schema : goal.new-requires-clause-schema
new-requires-clause-schema c = subst IsValid (sym c.in_ok-schema.ensures) numbers_valid
