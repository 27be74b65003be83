use Rattle.hs_token.proofs.ReplyLemmas.{reply_parts}
use Rattle.hs_token.proofs.laws.replies_have_parts.Goals as goal

pub returns : goal.returns
returns c = record { parts = reply_parts }
