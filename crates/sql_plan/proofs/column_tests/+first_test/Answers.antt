use Rattle.std.proofs.Common.{option_map, ap, ◌∙◌, sym}
use Rattle.sql_plan.specs.Tests.{seen, first_test, tests_of}
use Rattle.sql_value.specs.declared.exprs.Expr.{Expr}
use Rattle.sql_plan.proofs.FirstTests.{first_later, first_here}
use Rattle.sql_plan.proofs.column_tests.+first_test.Goals as goal

pub returns-in-None : goal.returns-in-None
returns-in-None t c =
    let first = λ (e : Expr). first_test c.args.what c.args.column (tests_of e) in
    first_later c.args.what c.args.column c.args.condition.now c.in-And.a c.in-And.b (option_map seen c.first_test-in-None.result) c.in-And.is
    (sym (ap (option_map seen) c.in-None.is) ∙ c.first_test.ensures ∙ ap first c.get.ensures) (c.first_test-in-None.ensures ∙ ap first c.get-in-None.ensures)

pub returns-in-Some : goal.returns-in-Some
returns-in-Some t c =
    let first = λ (e : Expr). first_test c.args.what c.args.column (tests_of e) in
    first_here c.args.what c.args.column c.args.condition.now c.in-And.a c.in-And.b (seen c.in-Some.test) c.in-And.is
    (sym (ap (option_map seen) c.in-Some.is) ∙ c.first_test.ensures ∙ ap first c.get.ensures)
