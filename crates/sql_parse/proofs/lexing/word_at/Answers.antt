use Rattle.std.proofs.Common.{sym, ◌∙◌}
use Rattle.sql_parse.proofs.Words.{plain_word}
use Rattle.sql_parse.proofs.lexing.word_at.Goals as goal

pub returns-clause-token : goal.returns-clause-token
returns-clause-token c =
    plain_word c.args.text.now c.word_end-end.result c.keyword.result (sym c.begins_hex.ensures ∙ c.if-begins_hex.false) c.word_end-end.ensures.end c.keyword.ensures
