use Rattle.std.proofs.Common.{◌-◌, length}
use Rattle.std.proofs.lemmas.Result.{err_from_is_err_and}
use Rattle.open_index.specs.Find.{filters_at}
use Rattle.open_index.proofs.Loops.{goes_on, ends, is_done, is_counted}
use Rattle.open_index.proofs.parts.filters_at.Goals as goal
use Rattle.open_index.proofs.parts.filters_at.Goals.{else-loop-test, then-loop-test+in_ok-filter+in_default}

pub returns-in_err-filter : goal.returns-in_err-filter
returns-in_err-filter c =
    let len = length c.args.tokens.now in
    let p = err_from_is_err_and c.from_residual.result c.from_residual.ensures.1 in
    rw (p.1, p.2) (ends c.in_err-filter.field-0.0 len c.loop.counter c.loop.filters.items c.args.columns.now c.loop.rest.now (filters_at len c.args.columns.now c.args.tokens.now) c.loop-test.true c.in_err-filter.ensures c.loop.invariant)

pub loop-preserved : goal.loop-preserved
loop-preserved c =
    let len = length c.args.tokens.now in
    rw c.in_ok-push.ensures.items (goes_on len c.loop.counter c.loop.filters.items c.args.columns.now c.loop.rest.now (c.in-Some.filter, c.in-Some.behind.now) (filters_at len c.args.columns.now c.args.tokens.now) c.loop-test.true (rw c.in-Some.is at c.in_ok-filter.ensures) c.loop.invariant)

pub returns : goal.returns
returns c =
    let len = length c.args.tokens.now in
    let all = filters_at len c.args.columns.now c.args.tokens.now in
    rw c.of_vec.ensures (elim c.loop-test.branch [
      | else-loop-test w ↦ is_counted len c.loop.counter c.loop.filters.items c.args.columns.now c.loop.rest.now all w.loop-test.false c.loop.invariant
      | then-loop-test+in_ok-filter+in_default w ↦ is_done (len - c.loop.counter) c.loop.filters.items c.args.columns.now c.loop.rest.now all (rw w.in_default.is at w.in_ok-filter.ensures) c.loop.invariant
    ])
