use Rattle.table_rows.proofs.GoingBack.{goes_none}
use Rattle.batch_answers.proofs.changes.change_and_count.Goals as goal

pub returns-in_err-slots-clause-back : goal.returns-in_err-slots-clause-back
returns-in_err-slots-clause-back c = goes_none c.args.tables.now c.args.undo.now.entries
