use Rattle.hs_line.proofs.FirstLines.{FirstLine-found}
use Rattle.hs_line.proofs.search.first_line_len.Goals as goal

pub returns : goal.returns
returns c = FirstLine-found c.args.bytes.now c.memchr.result c.memchr.ensures
