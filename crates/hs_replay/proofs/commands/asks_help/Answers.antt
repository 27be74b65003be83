use Rattle.std.proofs.Common.{◌∙◌, sym, ap, List, ℕ, ◌∷◌, [], map, string_bytes}
use Rattle.std.specs.Prelude.{codes}
use Rattle.std.specs.Str.{bytes_eq}
use Rattle.hs_replay.proofs.Words.{one_word, is_text}
use Rattle.hs_replay.proofs.commands.asks_help.Goals as goal

pub returns-in-len1-clause-asked : goal.returns-in-len1-clause-asked
returns-in-len1-clause-asked c =
    is_text c.eq.result (map (λ w. string_bytes w) c.args.words.now) (string_bytes c.word-item.result) (codes "--help")
    (one_word (λ w. string_bytes w) c.args.words.now c.word-item.result c.in-len1.len_at_least c.in-len1.len_below ∙ ap (λ w. string_bytes w ∷ []) (sym c.word-item.is))
    (c.eq.ensures ∙ ap (λ (s : List ℕ). bytes_eq s (codes "--help")) c.as_str.ensures.value)
