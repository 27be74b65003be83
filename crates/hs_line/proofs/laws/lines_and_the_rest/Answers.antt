use Rattle.hs_line.proofs.LinesLemmas.{joined-lines_of, lines_of-lines, rest_of-line_free, lines_of-joined, rest_of-joined}
use Rattle.hs_line.proofs.laws.lines_and_the_rest.Goals as goal

pub returns-clause-joined : goal.returns-clause-joined
returns-clause-joined c = joined-lines_of

pub returns-clause-lines : goal.returns-clause-lines
returns-clause-lines c = lines_of-lines

pub returns-clause-rest : goal.returns-clause-rest
returns-clause-rest c = rest_of-line_free

pub returns-clause-lines_found : goal.returns-clause-lines_found
returns-clause-lines_found c = lines_of-joined

pub returns-clause-rest_found : goal.returns-clause-rest_found
returns-clause-rest_found c = rest_of-joined
