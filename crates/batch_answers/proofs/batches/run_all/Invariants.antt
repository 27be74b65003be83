use Rattle.std.proofs.Common.{◌≡◌, ◌++◌, drop}
use Rattle.std.specs.List.{AllByRecursion}
use Rattle.table_rows.specs.Database.{database_of}
use Rattle.request_types.specs.Batches.{runs_of}
use Rattle.request_types.specs.Fits.{ItemFits}
use Rattle.batch_answers.specs.Batches.{parts_of, after_runs}
use Rattle.table_rows.specs.GoingBack.{CanGoBack}
use Rattle.batch_answers.specs.Steps.{first_behind}
use Rattle.batch_answers.proofs.batches.run_all.Given as goal

abbrev pub invariant-loop-place : goal.invariant-loop-place
invariant-loop-place l = record {
  parts : l.parts ++ first_behind l.text.items (parts_of (database_of l.tables) (runs_of (drop l.place l.items)))
      ≡ parts_of (database_of l.fn.tables) (runs_of l.items);
  rows : after_runs (database_of l.tables) (runs_of (drop l.place l.items)) ≡ after_runs (database_of l.fn.tables) (runs_of l.items);
  schema : l.schema ≡ l.tables.schema;
  fits : AllByRecursion (ItemFits l.schema) (drop l.place l.items);
  back : CanGoBack l.fn.tables l.tables l.fn.undo.entries l.undo.entries;
}
