use Rattle.std.proofs.Common.{◌∙◌, not, ap}
use Rattle.hs_token.proofs.Texts.{plain_since}
use Rattle.hs_token.proofs.lines.is_plain.Goals as goal

pub returns-else-not-line_has_escape : goal.returns-else-not-line_has_escape
returns-else-not-line_has_escape c = λ plain. plain_since c.args.field.now c.memchr.result c.memchr.ensures (c.is_none.ensures ∙ ap not plain)
