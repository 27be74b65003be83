use Rattle.std.proofs.Common.{◌≡◌, ℕ, List, ◌+◌, ◌-◌, ◌++◌, ◌≤◌, ◌∙◌, take, drop, length, arith, ap, refl, length-take, length-drop}
use Rattle.std.proofs.Math.Seq.{take-add}
use Rattle.std.proofs.lemmas.List.{take_at, take-append-drop, drop-drop}
use Rattle.hs_outside.proofs.copying.copy_at.Goals as goal

-- the front of the buffer is what was copied
front : (bytes out more : List ℕ) (at n : ℕ) → at + n ≤ length bytes → out ≡ take (at + n - at) (drop at bytes) → take n (out ++ more) ≡ take n (drop at bytes)
front bytes out more at n fits is =
    let same : at + n - at ≡ n = omega arith in
    let out_is : out ≡ take n (drop at bytes) = is ∙ ap (λ (k : ℕ). take k (drop at bytes)) same in
    let long : length out ≡ n = ap length out_is ∙ rw (length-take, length-drop) (omega arith) in
    take_at out more n long ∙ out_is

pub returns-clause-given : goal.returns-clause-given
returns-clause-given c =
    rw (front c.args.bytes.now c.copy_from_slice.new.self _ c.args.place c.args.count c.requires.held c.copy_from_slice.ensures.after)
    (take-add c.args.place c.args.count c.args.bytes.now)

pub returns-clause-left : goal.returns-clause-left
returns-clause-left c =
    rw (front c.args.bytes.now c.copy_from_slice.new.self _ c.args.place c.args.count c.requires.held c.copy_from_slice.ensures.after, ← drop-drop c.args.count c.args.place c.args.bytes.now, take-append-drop) refl
