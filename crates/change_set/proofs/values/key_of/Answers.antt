use Rattle.std.proofs.Common.{◌+◌, drop}
use Rattle.std.proofs.lemmas.Result.{err_from_is_err_and}
use Rattle.change_set.specs.Fitting.{columns_at}
use Rattle.change_set.specs.Reading.{cells_at}
use Rattle.change_set.proofs.CellLoop.{column_next, column_none, cells_go_on, cells_end, cells_done}
use Rattle.change_set.proofs.values.key_of.Goals as goal

pub returns-in_err-cell : goal.returns-in_err-cell
returns-in_err-cell c =
    let p = err_from_is_err_and c.from_residual-in_err-cell.result c.from_residual-in_err-cell.ensures.1 in
    let columns = c.args.columns.now in
    let places = c.args.places.now in
    let i = c.loop-place.place-index in
    let column = c.index-columns-place.result in
    rw (p.1, p.2) (cells_end c.in_err-cell.field-0.0 c.loop-place.cells.items (columns_at columns (drop i places)) column (columns_at columns (drop (i + 1) places)) c.loop-place.rest.now (cells_at (columns_at columns places) c.args.bytes.now) (column_next columns places i column c.requires c.loop-place-test.true c.index-columns-place.is) c.in_err-cell.ensures c.loop-place.invariant)

pub loop-place-preserved : goal.loop-place-preserved
loop-place-preserved c =
    let columns = c.args.columns.now in
    let places = c.args.places.now in
    let i = c.loop-place.place-index in
    let column = c.index-columns-place.result in
    let more = cells_go_on c.loop-place.cells.items (columns_at columns (drop i places)) column (columns_at columns (drop (i + 1) places)) c.loop-place.rest.now c.in_ok-cell.cell c.in_ok-cell.after.now (cells_at (columns_at columns places) c.args.bytes.now) (column_next columns places i column c.requires c.loop-place-test.true c.index-columns-place.is) c.in_ok-cell.ensures c.loop-place.invariant in
    rw c.in_ok-push.ensures.items more

pub returns : goal.returns
returns c = rw c.of_vec.ensures (cells_done c.loop-place.cells.items (columns_at c.args.columns.now (drop c.loop-place.place-index c.args.places.now)) c.loop-place.rest.now (cells_at (columns_at c.args.columns.now c.args.places.now) c.args.bytes.now) (column_none c.args.columns.now c.args.places.now c.loop-place.place-index c.loop-place-test.false) c.loop-place.invariant)
