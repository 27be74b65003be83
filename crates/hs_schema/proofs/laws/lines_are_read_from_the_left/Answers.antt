use Rattle.hs_schema.proofs.LeftToRight.{same_breach}
use Rattle.hs_schema.proofs.laws.lines_are_read_from_the_left.Goals as goal

pub returns : goal.returns
returns c = same_breach
