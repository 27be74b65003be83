use Rattle.hs_token.proofs.LineLemmas.{line_again, one_line}
use Rattle.hs_token.proofs.laws.spellings_are_lines.Goals as goal

pub returns-clause-again : goal.returns-clause-again
returns-clause-again c = line_again

pub returns-clause-one_line : goal.returns-clause-one_line
returns-clause-one_line c = one_line
