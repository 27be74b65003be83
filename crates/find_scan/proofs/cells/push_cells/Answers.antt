use Rattle.hs_token.proofs.ReplyLemmas.{extends_more, on_err}
use Rattle.find_scan.proofs.cells.push_cells.Goals as goal

pub returns-in_err-push_cell-clause-err : goal.returns-in_err-push_cell-clause-err
returns-in_err-push_cell-clause-err c =
    on_err c.from_residual.result _ (extends_more c.args.out.now.items c.loop-cell.out.items c.push_cell.new.out.items c.loop-cell.invariant.front c.in_err-push_cell.ensures.err)
