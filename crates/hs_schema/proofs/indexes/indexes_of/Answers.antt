use Rattle.std.proofs.Common.{◌≡◌, ◌∙◌, ◌<◌, ◌≤◌, true, false, length, sym, ap, subst, arith}
use Rattle.std.proofs.lemmas.Result.{err_from_is_err_and}
use Rattle.hs_schema.specs.Reading.{Fails, index_place, index_at}
use Rattle.hs_schema.proofs.IndexSteps.{goes_on, asked, indexes_end, indexes_other, indexes_all, indexes_next, indexes_fault}
use Rattle.hs_schema.proofs.indexes.indexes_of.Goals as goal

pub returns-then-not-is_word_at-clause-exact : goal.returns-then-not-is_word_at-clause-exact
returns-then-not-is_word_at-clause-exact c =
    let columns = c.args.columns.now in
    let before = c.loop-alloc.indexes.items in
    let line = c.args.line.now in
    let off : goes_on columns before line ≡ false = asked line columns c.deref-in-loop-alloc.result.now before c.index_place-place.result c.is_word_at.result false c.deref-in-loop-alloc.ensures.value c.index_place-place.ensures c.is_word_at.ensures c.if-not-is_word_at.true in
    let lt : index_place columns before < length line = subst (λ p. p < length line) (c.index_place.ensures ∙ ap (index_place columns) c.deref.ensures.value) c.loop-alloc-test.true in
    let e = sym c.loop-alloc.invariant.read ∙ indexes_other _ columns before line lt off in
    let place = c.index_place-place.ensures in
    let seen = c.deref-in-loop-alloc.ensures.value in
    cc

pub returns-then-len-eq-MAX_INDEXES-clause-exact : goal.returns-then-len-eq-MAX_INDEXES-clause-exact
returns-then-len-eq-MAX_INDEXES-clause-exact c =
    let columns = c.args.columns.now in
    let before = c.loop-alloc.indexes.items in
    let line = c.args.line.now in
    let on : goes_on columns before line ≡ true = asked line columns c.deref-in-loop-alloc.result.now before c.index_place-place.result c.is_word_at.result true c.deref-in-loop-alloc.ensures.value c.index_place-place.ensures c.is_word_at.ensures c.if-not-is_word_at.false in
    let lt : index_place columns before < length line = subst (λ p. p < length line) (c.index_place.ensures ∙ ap (index_place columns) c.deref.ensures.value) c.loop-alloc-test.true in
    let all : length before ≡ 16 = omega arith in
    let e = sym c.loop-alloc.invariant.read ∙ indexes_all columns before line lt on all in
    let place = c.index_place-place.ensures in
    let seen = c.deref-in-loop-alloc.ensures.value in
    cc

pub returns-in_err-index-clause-exact : goal.returns-in_err-index-clause-exact
returns-in_err-index-clause-exact c =
    let p = err_from_is_err_and c.from_residual.result c.from_residual.ensures.1 in
    let columns = c.args.columns.now in
    let before = c.loop-alloc.indexes.items in
    let line = c.args.line.now in
    let on : goes_on columns before line ≡ true = asked line columns c.deref-in-loop-alloc.result.now before c.index_place-place.result c.is_word_at.result true c.deref-in-loop-alloc.ensures.value c.index_place-place.ensures c.is_word_at.ensures c.if-not-is_word_at.false in
    let lt : index_place columns before < length line = subst (λ p. p < length line) (c.index_place.ensures ∙ ap (index_place columns) c.deref.ensures.value) c.loop-alloc-test.true in
    let room : length before < 16 = omega arith in
    let fault = c.in_err-index.field-0.0 in
    rw (p.1, p.2) (indexes_fault fault columns before line lt on room (subst (λ b. Fails fault (index_at columns b line)) c.deref-in-loop-alloc-2.ensures.value c.in_err-index.ensures) c.loop-alloc.invariant.read)

pub loop-alloc-preserved : goal.loop-alloc-preserved
loop-alloc-preserved c =
    let columns = c.args.columns.now in
    let before = c.loop-alloc.indexes.items in
    let line = c.args.line.now in
    let on : goes_on columns before line ≡ true = asked line columns c.deref-in-loop-alloc.result.now before c.index_place-place.result c.is_word_at.result true c.deref-in-loop-alloc.ensures.value c.index_place-place.ensures c.is_word_at.ensures c.if-not-is_word_at.false in
    let lt : index_place columns before < length line = subst (λ p. p < length line) (c.index_place.ensures ∙ ap (index_place columns) c.deref.ensures.value) c.loop-alloc-test.true in
    let room : length before < 16 = omega arith in
    let e = indexes_next columns before line c.in_ok-index.index lt on room (ap (λ b. index_at columns b line) (sym c.deref-in-loop-alloc-2.ensures.value) ∙ c.in_ok-index.ensures) in
    let new = c.in_ok-push.ensures.items in
    record {
      most = omega arith;
      read = cc;
    }

pub returns-clause-exact : goal.returns-clause-exact
returns-clause-exact c =
    let columns = c.args.columns.now in
    let before = c.loop-alloc.indexes.items in
    let line = c.args.line.now in
    let place = c.index_place.ensures ∙ ap (index_place columns) c.deref.ensures.value in
    let le : length line ≤ index_place columns before = omega arith in
    sym c.loop-alloc.invariant.read ∙ indexes_end _ columns before line le
