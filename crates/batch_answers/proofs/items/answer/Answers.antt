use Rattle.table_rows.proofs.GoingBack.{goes_none}
use Rattle.batch_answers.proofs.items.answer.Goals as goal

pub returns-in-Ready-clause-back : goal.returns-in-Ready-clause-back
returns-in-Ready-clause-back c = goes_none c.args.tables.now c.args.undo.now.entries

pub returns-in-Hs-Find-clause-back : goal.returns-in-Hs-Find-clause-back
returns-in-Hs-Find-clause-back c = goes_none c.args.tables.now c.args.undo.now.entries
