use Rattle.std.proofs.Common.{◌≡◌, ◌+◌, ◌-◌, ℕ, take, drop, ap, ◌∙◌, arith}
use Rattle.redo_journal.proofs.LiveLemmas.{reads_head}
use Rattle.redo_journal.proofs.live.read_head.Goals as goal

pub returns-clause-ok : goal.returns-clause-ok
returns-clause-ok c =
    let image = c.args.image.now in
    let live = c.args.root.now.live in
    let end = c.in-Some.end in
    let area = c.in_ok-of.field-0 in
    let twelve : live + 12 ≡ live + 8 + 4 = omega arith in
    let is : area ≡ take (end - (live + 8 + 4)) (drop (live + 8 + 4) image) = c.in_ok-of.ensures ∙ ap (λ (n : ℕ). take (end - n) (drop n image)) twelve in
    reads_head image c.args.root.now c.number_at.result area end (λ i. omega (arith, c.type_inv.image i)) (omega (arith, c.if-root.false)) (omega (arith, c.number_at.type_inv)) c.number_at.ensures c.in-Some.ensures.0 c.in-Some.ensures.1 c.in-Some.ensures.2 is
