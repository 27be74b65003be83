use Rattle.hs_token.proofs.LineLemmas.{same_token, same_tokens}
use Rattle.hs_token.proofs.laws.spellings_are_unique.Goals as goal

pub returns-clause-token : goal.returns-clause-token
returns-clause-token c = same_token

pub returns-clause-line : goal.returns-clause-line
returns-clause-line c = same_tokens
