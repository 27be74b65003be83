use Rattle.hs_line.proofs.LinesLemmas.{lines_of-append, rest_of-append, lines_of-line, lines_of-none, IsLine-no_lines}
use Rattle.hs_line.proofs.laws.lines_as_they_come.Goals as goal

pub returns-clause-lines : goal.returns-clause-lines
returns-clause-lines c = lines_of-append

pub returns-clause-rest : goal.returns-clause-rest
returns-clause-rest c = rest_of-append

pub returns-clause-first : goal.returns-clause-first
returns-clause-first c = lines_of-line

pub returns-clause-none : goal.returns-clause-none
returns-clause-none c bytes = (lines_of-none bytes, IsLine-no_lines bytes)
