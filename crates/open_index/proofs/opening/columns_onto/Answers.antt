use Rattle.std.proofs.lemmas.Result.{err_from_is_err_and}
use Rattle.open_index.proofs.Names.{left, goes_on, ends, is_done}
use Rattle.open_index.proofs.opening.columns_onto.Goals as goal

pub returns-in_err-column_onto : goal.returns-in_err-column_onto
returns-in_err-column_onto c =
    let p = err_from_is_err_and c.from_residual.result c.from_residual.ensures.1 in
    rw (p.1, p.2) (ends c.in_err-column_onto.field-0.0 c.args.columns.now c.loop-name.found.items c.args.names.now c.loop-name.name-index _ (left c.args.columns.now c.args.found.now.items c.args.names.now) c.loop-name-test.true c.in_err-column_onto.ensures c.loop-name.invariant)

pub loop-name-preserved : goal.loop-name-preserved
loop-name-preserved c =
    goes_on c.args.columns.now c.loop-name.found.items c.column_onto.new.found.items c.args.names.now c.loop-name.name-index _ (left c.args.columns.now c.args.found.now.items c.args.names.now) c.loop-name-test.true c.in_ok-column_onto.ensures c.loop-name.invariant

pub returns : goal.returns
returns c = is_done c.args.columns.now c.loop-name.found.items c.args.names.now c.loop-name.name-index (left c.args.columns.now c.args.found.now.items c.args.names.now) c.loop-name-test.false c.loop-name.invariant
