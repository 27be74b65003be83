use Rattle.hs_schema.proofs.SchemaAgain.{schema_again}
use Rattle.hs_schema.proofs.laws.texts_are_read_again.Goals as goal

pub returns : goal.returns
returns c = schema_again
