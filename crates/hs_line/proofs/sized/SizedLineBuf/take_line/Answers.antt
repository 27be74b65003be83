use Rattle.std.proofs.Common.{ℕ, List, Option, Some, drop, ap, sym, subst, ◌∙◌}
use Rattle.hs_line.specs.Held.{FirstLine, Held}
use Rattle.hs_line.specs.Lines.{lines_of}
use Rattle.hs_line.proofs.LinesLemmas.{lines_of-none}
use Rattle.hs_line.proofs.FirstLines.{lines_of-taken, rest_of-taken}
use Rattle.hs_line.proofs.sized.SizedLineBuf.take_line.Goals as goal

pub returns-in_default-clause-none : goal.returns-in_default-clause-none
returns-in_default-clause-none c =
    let held : List ℕ = drop c.self.inside.taken c.self.inside.bytes.items in
    ap lines_of (sym (ap (λ (h : Held). h.bytes) c.self.view_is)) ∙ lines_of-none held (subst (λ (r : Option ℕ). FirstLine held r) c.in_default.is c.self.invariant.3)

pub returns-clause-first : goal.returns-clause-first
returns-clause-first c =
    let held : List ℕ = drop c.self.inside.taken c.self.inside.bytes.items in
    let first : FirstLine held (Some c.in-Some.len) = subst (λ (r : Option ℕ). FirstLine held r) c.in-Some.is c.self.invariant.3 in
    lines_of-taken c.args.self.now.bytes c.self.inside.bytes.items c.self.inside.taken c.in-Some.len (ap (λ (h : Held). h.bytes) c.self.view_is) first _ c.restart-self-inside.ensures.items
    _ _ c.in_ok-line.ensures c.deref.ensures.value

pub returns-clause-rest : goal.returns-clause-rest
returns-clause-rest c =
    let held : List ℕ = drop c.self.inside.taken c.self.inside.bytes.items in
    let first : FirstLine held (Some c.in-Some.len) = subst (λ (r : Option ℕ). FirstLine held r) c.in-Some.is c.self.invariant.3 in
    rest_of-taken c.args.self.now.bytes c.self.inside.bytes.items c.self.inside.taken c.in-Some.len (ap (λ (h : Held). h.bytes) c.self.view_is) first _ c.restart-self-inside.ensures.items
