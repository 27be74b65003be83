use Rattle.std.proofs.Common.{sym, subst}
use Rattle.line_pipeline.specs.declared.outcomes.Outcome.{Outcome}
use Rattle.table_rows.specs.Database.{database_of}
use Rattle.table_rows.specs.Rows.{State}
use Rattle.table_rows.proofs.Alone.{roomier_same}
use Rattle.batch_answers.specs.Outcomes.{Comes}
use Rattle.batch_answers.proofs.tables_alone.TablesAloneRunsBatches.run_batch.Goals.{in-Ok, in-Err}
use Rattle.batch_answers.proofs.tables_alone.TablesAloneRunsBatches.run_batch.Goals as goal

pub returns-clause-comes : goal.returns-clause-comes
returns-clause-comes c =
    let items = c.args.batch.now.items in
    let new = database_of c.run_batch-result.new.tables in
    subst (λ (s : State). Comes c.match-result.result (database_of s) items new) c.self.view_is
    (elim c.match-result.branch [
      | in-Ok w ↦ subst (λ (o : Outcome). Comes o (database_of c.self.inside.tables) items new) (sym w.result-is) (w.in-Ok.ensures.parts, w.in-Ok.ensures.rows)
      | in-Err w ↦ subst (λ (o : Outcome). Comes o (database_of c.self.inside.tables) items new) (sym w.result-is) (roomier_same c.self.inside.tables c.run_batch-result.new.tables w.in-Err.ensures.err)
    ])
