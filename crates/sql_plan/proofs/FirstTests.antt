-- The first test of a column in an AND is that of its first operand, or else that of the second.
use Rattle.std.proofs.Common.{◌≡◌, ℕ, Option, Some, None, refl, sym, ap, ◌∙◌}
use Rattle.std.proofs.lemmas.List.Folds.{find-append}
use Rattle.sql_value.specs.declared.exprs.Expr.{Expr}
use Rattle.sql_value.specs.declared.exprs.Expr.TheVariants as exprs
use Rattle.sql_plan.specs.declared.column_tests.Wanted.{Wanted}
use Rattle.sql_plan.specs.Tests.{Test, Piece, piece_part, tests_of, is_test_on, first_test}
use Rattle.sql_plan.proofs.Parts.{fold-And}

pub first_later : (what : Wanted) (column : ℕ) (e a b : Expr) (found : Option Test) → e ≡ exprs.And a b → None ≡ first_test what column (tests_of a) → found ≡ first_test what column (tests_of b) → found ≡ first_test what column (tests_of e)
first_later what column e a b found is none later =
    later ∙ sym (ap (λ (x : Expr). first_test what column (tests_of x)) is ∙ ap (λ (p : Piece). first_test what column p.tests) (fold-And piece_part a b)
    ∙ find-append (is_test_on what column) (tests_of a) (tests_of b) ∙ (rw (← none) refl))

pub first_here : (what : Wanted) (column : ℕ) (e a b : Expr) (test : Test) → e ≡ exprs.And a b → Some test ≡ first_test what column (tests_of a) → Some test ≡ first_test what column (tests_of e)
first_here what column e a b test is here =
    sym (ap (λ (x : Expr). first_test what column (tests_of x)) is ∙ ap (λ (p : Piece). first_test what column p.tests) (fold-And piece_part a b)
    ∙ find-append (is_test_on what column) (tests_of a) (tests_of b) ∙ (rw (← here) refl))
