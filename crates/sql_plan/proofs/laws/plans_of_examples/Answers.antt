use Rattle.std.proofs.Common.{◌≡◌, ℕ, ap₂, ◌∙◌}
use Rattle.request_types.specs.declared.filters.FilterOp.{FilterOp}
use Rattle.request_types.specs.declared.filters.FilterOp.TheVariants as ops
use Rattle.sql_value.specs.declared.exprs.ArithOp.TheVariants.{Sum}
use Rattle.sql_value.specs.declared.exprs.Expr.TheOpen.{Expr-F}
use Rattle.sql_value.specs.declared.exprs.Expr.TheVariants.{Literal, Column, Arith, And}
use Rattle.sql_plan.specs.declared.contents.Contents.{Contents}
use Rattle.sql_plan.specs.Tests.{Piece, with_tests, compared_in, piece_part, piece_of, joined, summed, contents_part, contents_of}
use Rattle.sql_plan.specs.Examples.{some_indexes, int, compared_with, id, n}
use Rattle.sql_plan.proofs.Parts.{fold-Literal, fold-Column, fold-Arith, fold-Compare, fold-And}
use Rattle.sql_plan.proofs.Planned.{planned}
use Rattle.sql_plan.proofs.laws.plans_of_examples.Goals as goal

column_with : (op : FilterOp) (place m : ℕ) → contents_of (compared_with op (Column place) m) ≡ joined (contents_part (Expr-F.Column place)) (contents_part (Expr-F.Literal (int m)))
column_with op place m = fold-Compare contents_part op (Column place) (Literal (int m)) ∙ ap₂ joined (fold-Column contents_part place) (fold-Literal contents_part (int m))

tested : (op : FilterOp) (place m : ℕ) → piece_of (compared_with op (Column place) m) ≡ with_tests (compared_in op (piece_part (Expr-F.Column place)) (piece_part (Expr-F.Literal (int m))))
tested op place m = fold-Compare piece_part op (Column place) (Literal (int m)) ∙ ap₂ (λ (a b : Piece). with_tests (compared_in op a b)) (fold-Column piece_part place) (fold-Literal piece_part (int m))

pub returns-clause-by_key : goal.returns-clause-by_key
returns-clause-by_key c =
    let a = compared_with ops.Equal id 2 in
    let b = compared_with ops.Greater n 1 in
    planned some_indexes (And a b) _ _
    (fold-And contents_part a b ∙ ap₂ joined (column_with ops.Equal 0 2) (column_with ops.Greater 2 1))
    (fold-And piece_part a b ∙ ap₂ (λ (p q : Piece). piece_part (Expr-F.And p q)) (tested ops.Equal 0 2) (tested ops.Greater 2 1))

pub returns-clause-from_a_bound : goal.returns-clause-from_a_bound
returns-clause-from_a_bound c = planned some_indexes (compared_with ops.Greater n 3) _ _ (column_with ops.Greater 2 3) (tested ops.Greater 2 3)

pub returns-clause-calculated : goal.returns-clause-calculated
returns-clause-calculated c =
    let sum = Arith Sum n (Literal (int 1)) in
    planned some_indexes (compared_with ops.Greater sum 3) _ _
    (fold-Compare contents_part ops.Greater sum (Literal (int 3))
    ∙ ap₂ joined (fold-Arith contents_part Sum n (Literal (int 1)) ∙ ap₂ (λ (a b : Contents). summed (joined a b)) (fold-Column contents_part 2) (fold-Literal contents_part (int 1))) (fold-Literal contents_part (int 3)))
    (fold-Compare piece_part ops.Greater sum (Literal (int 3)) ∙ ap₂ (λ (a b : Piece). with_tests (compared_in ops.Greater a b)) (fold-Arith piece_part Sum n (Literal (int 1))) (fold-Literal piece_part (int 3)))
