use Rattle.std.proofs.Common.{refl, ap, ◌∙◌}
use Rattle.std.specs.Prelude.{pos}
use Rattle.std.specs.Fmt.{digits}
use Rattle.row_types.specs.declared.values.Value.TheVariants as values
use Rattle.sql_value.specs.declared.exprs.ArithOp.TheVariants.{Difference}
use Rattle.sql_value.specs.declared.exprs.Expr.TheOpen.{Expr-F}
use Rattle.sql_parse.specs.Spelling.{Front, column, expression, part}
use Rattle.sql_parse.specs.Examples.{some_columns, number, id}
use Rattle.sql_parse.proofs.Parts.{fold-Literal, fold-Column, fold-Arith}
use Rattle.sql_parse.proofs.spelling_laws.spelled_by_examples.Goals as goal

pub returns-clause-operands : goal.returns-clause-operands
unfolding digits
returns-clause-operands c rest =
    let parts = part some_columns in
    ap (λ (f : Front). f rest) (fold-Arith parts Difference id (number 1))
    ∙ ap (λ (a : Front). parts (Expr-F.Arith Difference a (expression some_columns (number 1))) rest) (fold-Column parts 0)
    ∙ ap (λ (b : Front). parts (Expr-F.Arith Difference (column some_columns 0) b) rest) (fold-Literal parts (values.Int (pos 1)))

pub returns-clause-clauses : goal.returns-clause-clauses
unfolding digits
returns-clause-clauses c = refl
