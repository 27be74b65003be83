use Rattle.std.proofs.Common.{◌≡◌, ◌∙◌, sym, ap, List, ℕ, ◌∷◌, [], string_bytes, get_or}
use Rattle.std.specs.Prelude.{codes}
use Rattle.hs_replay.proofs.Words.{two_words, same_bytes, not_empty}
use Rattle.hs_replay.proofs.commands.path_of.Goals as goal

pub returns-in-len2-clause-command : goal.returns-in-len2-clause-command
returns-in-len2-clause-command c =
    let word : string_bytes c.word-item.result ≡ codes "replay" = sym c.as_str.ensures.value ∙ same_bytes c.eq.result c.as_str.result.now (codes "replay") c.eq.ensures c.if-eq.true in
    record {
      journal = string_bytes c.path-item.result;
      is = two_words (λ w. string_bytes w) c.args.words.now c.word-item.result c.path-item.result c.in-len2.len_at_least c.in-len2.len_below
          ∙ ap (λ (s : List ℕ). s ∷ string_bytes (get_or c.args.words.now 1 c.path-item.result) ∷ []) (ap (λ w. string_bytes w) (sym c.word-item.is) ∙ word)
          ∙ ap (λ (s : List ℕ). codes "replay" ∷ s ∷ []) (ap (λ w. string_bytes w) (sym c.path-item.is));
      named = not_empty (string_bytes c.path-item.result) c.as_str-then-eq.result.now c.as_str-then-eq.ensures.value c.if-not-is_empty.ensures;
    }

pub returns-in-len2-clause-journal : goal.returns-in-len2-clause-journal
unfolding returns-in-len2-clause-command
returns-in-len2-clause-journal c = (returns-in-len2-clause-command c).is
