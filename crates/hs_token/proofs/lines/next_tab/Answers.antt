use Rattle.hs_token.proofs.Pieces.{next_none, next_some}
use Rattle.hs_token.proofs.lines.next_tab.Goals as goal

pub returns-in-None : goal.returns-in-None
returns-in-None c = next_none c.args.bytes.now c.args.start c.in-None.ensures

pub returns-in-Some : goal.returns-in-Some
returns-in-Some c = next_some c.args.bytes.now c.args.start c.in-Some.len c.requires c.in-Some.ensures.0 c.in-Some.ensures.1
