-- One whole turn: what is received, the batch, what came of it, and what is sent.
use Rattle.std.specs.Prelude.{◌≡◌, List}
use Rattle.request_types.specs.declared.connections.ConnId.{ConnId}
use Rattle.request_types.specs.declared.batches.Batch.{Batch}
use Rattle.request_types.specs.declared.batches.Item.{Item}
use Rattle.request_types.specs.declared.batches.Replies.{Replies}
use Rattle.hs_outside.specs.Links.{Peer}
use Rattle.line_pipeline.specs.declared.outcomes.Outcome.{Outcome}
use Rattle.line_pipeline.specs.declared.outcomes.Outcome.TheVariants as outcomes
use Rattle.table_rows.specs.Database.{Database}
use Rattle.batch_answers.specs.Outcomes.{Comes}
use Rattle.batch_worker.specs.declared.ends.TurnEnd.{TurnEnd}
use Rattle.batch_worker.specs.declared.ends.TurnEnd.TheVariants as ends
use Rattle.batch_worker.specs.Linked.{LinkTable, Each}
use Rattle.batch_worker.specs.Sending.{Passes}
use Rattle.batch_worker.specs.Turn.{Gathers, IsRefused, settled_by}

module _ {B L : Type 0} (peer : L → Peer) (rows : B → Database) (ran : B → List Item → Outcome → B → Type 0) where
  -- The listed connections receive, and give their lines to one batch. It is run and comes to this. Each is told, and
  -- sent what waits for it.
  pub record Runs (ids : List ConnId) (outcome : Outcome) (old new : LinkTable L) (book after : B) : Type 0 where
    pub between : LinkTable L
    pub batch : Batch
    pub gathers : Gathers peer ids old between batch
    pub comes : Comes outcome (rows book) batch.items (rows after)
    pub ran_it : ran book batch.items outcome after
    pub passes : Each peer Passes ids (settled_by between batch outcome) new

  -- They receive. Then memory is refused, and nothing is run.
  pub record RunsNone (ids : List ConnId) (old new : LinkTable L) (book after : B) : Type 0 where
    pub between : LinkTable L
    pub refused : IsRefused peer ids old between
    pub passes : Each peer Passes ids between new
    pub stays : after ≡ book

  -- A turn of the listed connections that ended so.
  abbrev pub Turned : TurnEnd → List ConnId → LinkTable L → LinkTable L → B → B → Type 0
  Turned ends.Done ids old new book after = (replies : Replies) × Runs ids (outcomes.Done replies) old new book after
  Turned ends.DiskFault ids old new book after = Runs ids outcomes.DiskFault old new book after
  Turned ends.NoMemory ids old new book after = Runs ids outcomes.NoMemory old new book after
  Turned ends.NoBatch ids old new book after = RunsNone ids old new book after

-- How a turn ended whose batch came to this.
abbrev pub end_of : Outcome → TurnEnd
end_of (outcomes.Done replies) = ends.Done
end_of outcomes.DiskFault = ends.DiskFault
end_of outcomes.NoMemory = ends.NoMemory
