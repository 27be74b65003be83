use Rattle.std.proofs.Common.{ℕ, List, [], ◌∷◌, ◌++◌, ap, ap₂, ◌∙◌, arith}
use Rattle.hs_token.specs.Spelling.{text_spelled}
use Rattle.batch_answers.proofs.Written.{zero_written, code_written}
use Rattle.batch_answers.proofs.codes.push_code.Goals as goal

pub returns : goal.returns
returns c =
    let text = c.as_bytes.ensures.value ∙ c.text_of.ensures in
    let head = ap (λ (o : List ℕ). o ++ 9 ∷ []) c.in_ok-push_head.ensures.ok in
    let before = c.in_ok-push_text.ensures.ok ∙ ap₂ (λ (o t : List ℕ). o ++ text_spelled t) (c.in_ok-push-2.ensures.items ∙ head) text in
    c.in_ok-push-3.ensures.items ∙ ap (λ (o : List ℕ). o ++ 10 ∷ []) before
    ∙ code_written c.args.out.now.items c.args.code c.if-code-eq0.false (omega (arith, c.ranges.code))

pub returns-then-code-eq0 : goal.returns-then-code-eq0
returns-then-code-eq0 c =
    c.in_ok-push.ensures.items ∙ ap (λ (o : List ℕ). o ++ 10 ∷ []) c.in_ok-push_head.ensures.ok
    ∙ zero_written c.args.out.now.items c.args.code c.if-code-eq0.true
