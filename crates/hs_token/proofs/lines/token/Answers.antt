use Rattle.std.proofs.Common.{◌∙◌, sym, ap}
use Rattle.hs_token.specs.Steps.{has_escape}
use Rattle.hs_token.proofs.Texts.{piece_plain}
use Rattle.hs_token.proofs.lines.token.Goals as goal

pub is_plain-requires : goal.is_plain-requires
is_plain-requires c = λ none.
    piece_plain c.as_slice.result.now c.args.start c.args.end (ap has_escape c.as_slice.ensures ∙ (sym c.requires.escape ∙ none))
