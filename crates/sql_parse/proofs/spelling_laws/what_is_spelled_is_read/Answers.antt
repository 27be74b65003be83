use Rattle.sql_parse.proofs.LineAgain.{spelled_is_read}
use Rattle.sql_parse.proofs.spelling_laws.what_is_spelled_is_read.Goals as goal

pub returns : goal.returns
returns c = spelled_is_read
