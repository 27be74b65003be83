use Rattle.hs_token.proofs.NumberLemmas.{printed_u32, printed_u64, printed_i64}
use Rattle.hs_token.proofs.ReplyLemmas.{spelled_decimal}
use Rattle.hs_token.proofs.laws.printed_numbers_are_read.Goals as goal

pub returns-clause-narrow : goal.returns-clause-narrow
returns-clause-narrow c = printed_u32

pub returns-clause-unsigned : goal.returns-clause-unsigned
returns-clause-unsigned c = printed_u64

pub returns-clause-signed : goal.returns-clause-signed
returns-clause-signed c = printed_i64

pub returns-clause-plain : goal.returns-clause-plain
returns-clause-plain c = spelled_decimal
