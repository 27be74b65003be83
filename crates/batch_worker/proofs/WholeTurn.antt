-- A batch that was run can be settled, and how its turn ended.
use Rattle.std.proofs.Common.{◌≡◌, true, List, refl, ap, ◌∙◌}
use Rattle.std.specs.List.{AllByRecursion, list_all}
use Rattle.request_types.specs.declared.connections.ConnId.{ConnId}
use Rattle.request_types.specs.declared.batches.Batch.{Batch}
use Rattle.request_types.specs.declared.batches.Item.{Item}
use Rattle.request_types.specs.declared.batches.ItemKind.{ItemKind}
use Rattle.request_types.specs.declared.batches.Part.{Part}
use Rattle.request_types.specs.Batches.{runs_of, heads}
use Rattle.request_types.specs.Ids.{is_listed, are_once}
use Rattle.hs_outside.specs.Links.{Peer}
use Rattle.line_pipeline.specs.declared.outcomes.Outcome.{Outcome}
use Rattle.line_pipeline.specs.declared.outcomes.Outcome.TheVariants as outcomes
use Rattle.line_pipeline.specs.declared.conns.Conn.{Conn}
use Rattle.line_pipeline.specs.Gathered.{batch_of}
use Rattle.line_pipeline.specs.Settled.{asked_by, answered_by, parts_of, HasPlace, CanSettle}
use Rattle.line_pipeline.specs.Table.{Table}
use Rattle.line_pipeline.proofs.Runs.{runs_are, heads_asked, heads_once}
use Rattle.table_rows.specs.Database.{Database}
use Rattle.batch_answers.specs.Answers.{parts_for}
use Rattle.batch_answers.specs.Outcomes.{Comes}
use Rattle.batch_answers.proofs.Parts.{answered-heads, parts_by_runs}
use Rattle.batch_worker.specs.Linked.{LinkTable}
use Rattle.batch_worker.specs.Solo.{Runs, Turned, end_of}

-- ---- it can be settled

module _ (table : Table) (cs : List (ConnId × Conn)) (ids : List ConnId) (batch : Batch) (once : are_once ids ≡ true) (items : batch.items ≡ batch_of table.schema table.conns ids) (places : AllByRecursion (HasPlace cs) (asked_by batch)) where
  together : are_once (heads (runs_of batch.items)) ≡ true
  together =
      ap (λ (its : List Item). are_once (heads (runs_of its))) items
      ∙ ap (λ (runs : List (ConnId × List ItemKind)). are_once (heads runs)) (runs_are table.schema table.conns ids once)
      ∙ heads_once table.schema table.conns ids once

  by_parts : (db : Database) (parts : List Part) → parts ≡ parts_for db batch.items → CanSettle cs batch parts
  by_parts db parts is =
      let named : answered_by parts ≡ heads (runs_of batch.items) = ap answered_by (is ∙ parts_by_runs db batch.items together) ∙ answered-heads db (runs_of batch.items) in
      record {
        places = places;
        asked = ap (list_all (is_listed (asked_by batch))) named ∙ heads_asked batch.items;
        once = ap are_once named ∙ together;
      }

  -- whatever it came to
  pub can_settle : (outcome : Outcome) (old new : Database) → Comes outcome old batch.items new → CanSettle cs batch (parts_of outcome)
  can_settle (outcomes.Done replies) old new comes = by_parts old replies.parts comes.0
  can_settle outcomes.DiskFault old new comes = record { places = places; asked = refl; once = refl }
  can_settle outcomes.NoMemory old new comes = record { places = places; asked = refl; once = refl }

-- ---- how the turn ended

module _ {B L : Type 0} (peer : L → Peer) (rows : B → Database) (ran : B → List Item → Outcome → B → Type 0) (ids : List ConnId) (old new : LinkTable L) (book after : B) where
  pub turned_by : (outcome : Outcome) → Runs peer rows ran ids outcome old new book after → Turned peer rows ran (end_of outcome) ids old new book after
  turned_by (outcomes.Done replies) runs = (replies, runs)
  turned_by outcomes.DiskFault runs = runs
  turned_by outcomes.NoMemory runs = runs
