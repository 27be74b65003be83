-- A batch run by run, and the part that each is answered. No public clause cites these.
use Rattle.std.specs.Prelude.{List, [], ◌∷◌}
use Rattle.request_types.specs.declared.connections.ConnId.{ConnId}
pub use Rattle.request_types.specs.Fits.{KindFits, ItemFits}
use Rattle.request_types.specs.declared.batches.ItemKind.{ItemKind}
use Rattle.request_types.specs.declared.batches.Part.{Part}
use Rattle.table_rows.specs.Database.{Database}
use Rattle.batch_answers.specs.Answers.{replies_to, after_all}

-- The part of each run: the replies to its items, on the rows that the run before it left.
abbrev pub parts_of : Database → List (ConnId × List ItemKind) → List Part
parts_of db [] = []
parts_of db (run ∷ runs) = record { conn = run.0; text = replies_to db run.1 } ∷ parts_of (after_all db run.1) runs

-- The rows that all runs leave.
abbrev pub after_runs : Database → List (ConnId × List ItemKind) → Database
after_runs db [] = db
after_runs db (run ∷ runs) = after_runs (after_all db run.1) runs
