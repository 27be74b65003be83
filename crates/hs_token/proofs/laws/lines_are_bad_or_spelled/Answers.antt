use Rattle.hs_token.proofs.LineLemmas.{bad_is_unspelled, good_is_spelled}
use Rattle.hs_token.proofs.laws.lines_are_bad_or_spelled.Goals as goal

pub returns-clause-bad : goal.returns-clause-bad
returns-clause-bad c = bad_is_unspelled

pub returns-clause-spelled : goal.returns-clause-spelled
returns-clause-spelled c = good_is_spelled
