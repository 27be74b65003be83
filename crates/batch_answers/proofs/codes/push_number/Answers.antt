use Rattle.std.proofs.Common.{ℕ, ℤ, List, [], ◌∷◌, ◌++◌, ap, ap₂, ◌∙◌}
use Rattle.std.proofs.lemmas.Int.{to_z-of_z}
use Rattle.std.specs.Int.{w64}
use Rattle.std.specs.Fmt.{signed_decimal}
use Rattle.hs_token.specs.Spelling.{text_spelled}
use Rattle.batch_answers.proofs.Written.{number_written}
use Rattle.batch_answers.proofs.codes.push_number.Goals as goal

pub returns : goal.returns
returns c =
    let head = c.in_ok-push.ensures.items ∙ ap (λ (o : List ℕ). o ++ 9 ∷ []) c.in_ok-push_head.ensures.ok in
    let before = c.in_ok-push_integer.ensures.ok ∙ ap₂ (λ (o : List ℕ) (n : ℤ). o ++ text_spelled (signed_decimal n)) head (to_z-of_z w64 c.args.number c.ranges.number) in
    c.in_ok-push-2.ensures.items ∙ ap (λ (o : List ℕ). o ++ 10 ∷ []) before ∙ number_written c.args.out.now.items c.args.number
