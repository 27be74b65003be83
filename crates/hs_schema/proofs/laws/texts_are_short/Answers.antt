use Rattle.hs_schema.proofs.Lengths.{schema_length}
use Rattle.hs_schema.proofs.laws.texts_are_short.Goals as goal

pub returns : goal.returns
returns c = schema_length
