use Rattle.std.proofs.Common.{◌≡◌, ℕ, List, Option, Some, None, drop, length, ◌-◌, nat_lt, arith, length-drop, ap, sym, subst, ◌∙◌}
use Rattle.hs_line.specs.Held.{FirstLine, Held}
use Rattle.hs_line.proofs.WholeLines.{too_long, too_long-none}
use Rattle.hs_line.proofs.FirstLines.{too_long-first}
use Rattle.hs_line.proofs.sized.SizedLineBuf.is_too_long.Goals as goal

pub returns-in-Some : goal.returns-in-Some
returns-in-Some c =
    let held : List ℕ = drop c.self.inside.taken c.self.inside.bytes.items in
    let first : FirstLine held (Some c.in-Some.len) = subst (λ (r : Option ℕ). FirstLine held r) c.in-Some.is c.self.invariant.3 in
    sym (ap (λ (h : Held). too_long h.most h.bytes) (sym c.self.view_is) ∙ too_long-first c.self.inside.most held c.in-Some.len first)

pub returns-in-None : goal.returns-in-None
returns-in-None c =
    let held : List ℕ = drop c.self.inside.taken c.self.inside.bytes.items in
    let none : FirstLine held None = subst (λ (r : Option ℕ). FirstLine held r) c.in-None.is c.self.invariant.3 in
    let size : c.len.result - c.self.inside.taken ≡ length held = omega (arith, length-drop c.self.inside.taken c.self.inside.bytes.items, c.self.inside.bytes.ok.0) in
    sym (ap (λ (h : Held). too_long h.most h.bytes) (sym c.self.view_is) ∙ too_long-none c.self.inside.most held none ∙ ap (nat_lt c.self.inside.most) (sym size))
