use Rattle.std.proofs.Common.{◌+◌, drop}
use Rattle.std.proofs.lemmas.Result.{err_from_is_err_and}
use Rattle.change_set.specs.Reading.{cells_at}
use Rattle.change_set.proofs.CellLoop.{next_is, rest_none, cells_go_on, cells_end, cells_done}
use Rattle.change_set.proofs.values.row_of.Goals as goal

pub returns-in_err-cell : goal.returns-in_err-cell
returns-in_err-cell c =
    let p = err_from_is_err_and c.from_residual-in_err-cell.result c.from_residual-in_err-cell.ensures.1 in
    let columns = c.args.columns.now in
    let i = c.loop-column.column-index in
    rw (p.1, p.2) (cells_end c.in_err-cell.field-0.0 c.loop-column.cells.items (drop i columns) c.column-item.result (drop (i + 1) columns) c.loop-column.rest.now (cells_at columns c.args.bytes.now) (next_is columns i c.column-item.result c.loop-column-test.true c.column-item.is) c.in_err-cell.ensures c.loop-column.invariant)

pub loop-column-preserved : goal.loop-column-preserved
loop-column-preserved c =
    let columns = c.args.columns.now in
    let i = c.loop-column.column-index in
    let more = cells_go_on c.loop-column.cells.items (drop i columns) c.column-item.result (drop (i + 1) columns) c.loop-column.rest.now c.in_ok-cell.cell c.in_ok-cell.after.now (cells_at columns c.args.bytes.now) (next_is columns i c.column-item.result c.loop-column-test.true c.column-item.is) c.in_ok-cell.ensures c.loop-column.invariant in
    rw c.in_ok-push.ensures.items more

pub returns : goal.returns
returns c = rw c.of_vec.ensures (cells_done c.loop-column.cells.items (drop c.loop-column.column-index c.args.columns.now) c.loop-column.rest.now (cells_at c.args.columns.now c.args.bytes.now) (rest_none c.args.columns.now c.loop-column.column-index c.loop-column-test.false) c.loop-column.invariant)
