use Rattle.std.proofs.Common.{◌≡◌, ◌<◌, ◌++◌, List, ℕ, ◌^◌, true, false, drop, length, ap, ◌∙◌, sym, arith}
use Rattle.std.specs.List.{concat}
use Rattle.std.proofs.lemmas.Bool.{eqb-false}
use Rattle.line_pipeline.specs.Output.{Unsent}
use Rattle.line_pipeline.specs.declared.limits.TheConstants.{MAX_UNSENT}
use Rattle.line_pipeline.proofs.OutputLemmas.{output-push, unsent-push}
use Rattle.line_pipeline.proofs.outputs.Output.push.Goals as goal

pub invariant_of-self-2 : goal.invariant_of-self-2
invariant_of-self-2 c =
    let o = c.self.inside in
    let text_is : c.as_slice-2.result.now ≡ c.args.text = c.as_slice-2.ensures in
    let first_is : c.as_slice.result.now ≡ c.args.text = c.as_slice.ensures in
    let some : 0 < length c.args.text = omega (arith, ap length first_is, eqb-false (length c.as_slice.result.now) 0 (sym c.if-is_empty.ensures)) in
    let small : length c.args.text < 2 ^ 63 = omega (arith, ap length text_is, c.as_slice-2.type_inv.1) in
    let reserved : o.has_place ≡ true = ap (λ (v : Unsent). v.has_place) c.self.view_is ∙ c.requires in
    rw (c.push_back_reserved.ensures.items, c.push_back_reserved.ensures.capacity, c.as_slice-2.ensures)
    (output-push o.texts.items c.args.text o.sent o.len _ MAX_UNSENT o.has_place c.self.invariant reserved some small)

pub returns : goal.returns
returns c =
    let o = c.self.inside in
    ap (λ (bytes : List ℕ). record { bytes = bytes; has_place = false })
    (ap (λ (texts : List (List ℕ)). drop o.sent (concat texts)) c.push_back_reserved.ensures.items
    ∙ unsent-push o.texts.items c.args.text o.sent o.len c.self.invariant.counted
    ∙ ap (λ (v : Unsent). v.bytes ++ c.args.text) c.self.view_is)
