use Rattle.std.proofs.Common.{◌∙◌, ℕ, List, ap, sym, subst}
use Rattle.request_types.specs.declared.batches.Item.{Item}
use Rattle.request_types.specs.Batches.{runs_of}
use Rattle.batch_answers.specs.Batches.{parts_of, after_runs}
use Rattle.table_rows.specs.Undoing.{since, undone_all}
use Rattle.table_rows.specs.Widths.{IsRoomier}
use Rattle.table_rows.specs.Database.{database_of}
use Rattle.batch_answers.proofs.Parts.{after_by_runs, parts_by_runs}
use Rattle.batch_answers.proofs.batches.run_batch.Goals as goal

pub returns-in-Ok-clause-parts : goal.returns-in-Ok-clause-parts
returns-in-Ok-clause-parts c =
    c.in-Ok.ensures.parts ∙ ap (λ (items : List Item). parts_of (database_of c.args.tables.now) (runs_of items)) c.as_slice.ensures
    ∙ sym (parts_by_runs (database_of c.args.tables.now) c.args.batch.now.items c.requires.together)

pub returns-in-Ok-clause-rows : goal.returns-in-Ok-clause-rows
returns-in-Ok-clause-rows c =
    c.in-Ok.ensures.rows ∙ ap (λ (items : List Item). after_runs (database_of c.args.tables.now) (runs_of items)) c.as_slice.ensures
    ∙ sym (after_by_runs (database_of c.args.tables.now) c.args.batch.now.items)

pub returns-in-Err-clause-err : goal.returns-in-Err-clause-err
returns-in-Err-clause-err c =
    let back = c.run_all.ensures.back in
    let is = c.undo_to.ensures.state ∙ ap (λ (mark : ℕ). undone_all (since mark c.run_all.new.undo.entries) c.run_all.new.tables) c.mark-mark.ensures in
    subst (IsRoomier c.args.tables.now) (sym (is ∙ back.noted.back.back)) back.roomier
