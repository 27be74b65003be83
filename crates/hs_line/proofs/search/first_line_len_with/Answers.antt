use Rattle.std.proofs.Common.{ℕ, ◌+◌, ◌++◌, Option, Some, subst}
use Rattle.hs_line.specs.Lines.{IsLine}
use Rattle.hs_line.specs.Held.{FirstLine}
use Rattle.hs_line.proofs.FirstLines.{FirstLine-stays, FirstLine-none, FirstLine-new}
use Rattle.hs_line.proofs.search.first_line_len_with.Goals as goal

pub returns-in-Some : goal.returns-in-Some
returns-in-Some c held size first =
    FirstLine-stays held c.args.piece.now c.in-Some.len (subst (λ (r : Option ℕ). FirstLine held r) c.in-Some.is first)

pub returns-in-Some-first_line_len : goal.returns-in-Some-first_line_len
returns-in-Some-first_line_len c held size first =
    let none : IsLine held = subst (λ (r : Option ℕ). FirstLine held r) c.in_default.is first in
    let new = FirstLine-new held c.args.piece.now c.in-Some-first_line_len.len none (subst (λ (r : Option ℕ). FirstLine c.args.piece.now r) c.in-Some-first_line_len.is c.first_line_len.ensures) in
    subst (λ (h : ℕ). FirstLine (held ++ c.args.piece.now) (Some (h + c.in-Some-first_line_len.len))) size new

pub returns-in-None : goal.returns-in-None
returns-in-None c held size first =
    let none : IsLine held = subst (λ (r : Option ℕ). FirstLine held r) c.in_default.is first in
    FirstLine-none held c.args.piece.now none (subst (λ (r : Option ℕ). FirstLine c.args.piece.now r) c.in-None.is c.first_line_len.ensures)
