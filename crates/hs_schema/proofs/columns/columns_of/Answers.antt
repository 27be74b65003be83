use Rattle.std.proofs.Common.{◌≡◌, ◌∙◌, ◌<◌, true, false, length, sym, ap, subst, arith}
use Rattle.std.proofs.lemmas.Result.{err_from_is_err_and}
use Rattle.hs_schema.specs.Reading.{Fails, column_at}
use Rattle.hs_schema.proofs.ColumnSteps.{goes_on, asked, columns_end, columns_all, columns_next, columns_fault}
use Rattle.hs_schema.proofs.columns.columns_of.Goals as goal

pub returns-then-len-eq-MAX_COLUMNS-clause-exact : goal.returns-then-len-eq-MAX_COLUMNS-clause-exact
returns-then-len-eq-MAX_COLUMNS-clause-exact c =
    let before = c.loop-alloc.columns.items in
    let line = c.args.line.now in
    let on : goes_on before line ≡ true = asked line c.deref.result.now before c.column_place.result c.is_word_at-in-loop-alloc.result true c.deref.ensures.value c.column_place.ensures c.is_word_at-in-loop-alloc.ensures c.loop-alloc-test.true in
    let all : length before ≡ 64 = omega arith in
    let e = sym c.loop-alloc.invariant.read ∙ columns_all before line on all in
    cc

pub returns-in_err-column-clause-exact : goal.returns-in_err-column-clause-exact
returns-in_err-column-clause-exact c =
    let p = err_from_is_err_and c.from_residual.result c.from_residual.ensures.1 in
    let before = c.loop-alloc.columns.items in
    let line = c.args.line.now in
    let on : goes_on before line ≡ true = asked line c.deref.result.now before c.column_place.result c.is_word_at-in-loop-alloc.result true c.deref.ensures.value c.column_place.ensures c.is_word_at-in-loop-alloc.ensures c.loop-alloc-test.true in
    let lt : length before < 64 = omega arith in
    let fault = c.in_err-column.field-0.0 in
    rw (p.1, p.2) (columns_fault fault before line on lt (subst (λ b. Fails fault (column_at b line)) c.deref-in-loop-alloc.ensures.value c.in_err-column.ensures) c.loop-alloc.invariant.read)

pub loop-alloc-preserved : goal.loop-alloc-preserved
loop-alloc-preserved c =
    let before = c.loop-alloc.columns.items in
    let line = c.args.line.now in
    let on : goes_on before line ≡ true = asked line c.deref.result.now before c.column_place.result c.is_word_at-in-loop-alloc.result true c.deref.ensures.value c.column_place.ensures c.is_word_at-in-loop-alloc.ensures c.loop-alloc-test.true in
    let lt : length before < 64 = omega arith in
    let e = columns_next before line c.in_ok-column.column on lt (ap (λ b. column_at b line) (sym c.deref-in-loop-alloc.ensures.value) ∙ c.in_ok-column.ensures) in
    let new = c.in_ok-push.ensures.items in
    record {
      most = omega arith;
      read = cc;
    }

pub returns-clause-exact : goal.returns-clause-exact
returns-clause-exact c =
    let before = c.loop-alloc.columns.items in
    let line = c.args.line.now in
    let off : goes_on before line ≡ false = asked line c.deref.result.now before c.column_place.result c.is_word_at-in-loop-alloc.result false c.deref.ensures.value c.column_place.ensures c.is_word_at-in-loop-alloc.ensures c.loop-alloc-test.false in
    sym c.loop-alloc.invariant.read ∙ columns_end _ before line off
