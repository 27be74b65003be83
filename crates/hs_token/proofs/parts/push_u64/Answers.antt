use Rattle.std.proofs.Common.{◌++◌, List, ℕ, sym, ap, ◌∙◌, arith}
use Rattle.hs_token.proofs.ReplyLemmas.{spelled_decimal}
use Rattle.hs_token.proofs.parts.push_u64.Goals as goal

pub returns-clause-ok : goal.returns-clause-ok
returns-clause-ok c =
    let printed = c.as_bytes.ensures.value ∙ c.format.ensures.text ∙ sym (spelled_decimal c.args.number (omega (arith, c.ranges.number))) in
    c.in_ok-extend_from_slice.ensures.items ∙ ap (λ (l : List ℕ). c.args.out.now.items ++ l) printed
