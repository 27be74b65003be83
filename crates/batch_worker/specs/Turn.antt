-- One turn of some connections.
use Rattle.std.specs.Prelude.{◌≡◌, List}
use Rattle.request_types.specs.declared.connections.ConnId.{ConnId}
use Rattle.request_types.specs.declared.batches.Batch.{Batch}
use Rattle.hs_outside.specs.Links.{Peer}
use Rattle.line_pipeline.specs.declared.outcomes.Outcome.{Outcome}
use Rattle.line_pipeline.specs.Conn.{took, refused}
use Rattle.line_pipeline.specs.Table.{Table, all_changed}
use Rattle.line_pipeline.specs.Gathered.{batch_of}
use Rattle.line_pipeline.specs.Settled.{settled}
use Rattle.batch_worker.specs.Linked.{LinkTable, Each}
use Rattle.batch_worker.specs.Receiving.{Receives}

-- The connections of a table changed.
abbrev pub with_table : {L : Type 0} → LinkTable L → Table → LinkTable L
with_table t table = record t { table = table }

-- The listed connections receive, and then give their whole lines to one batch.
pub record Gathers {L : Type 0} (peer : L → Peer) (ids : List ConnId) (old new : LinkTable L) (batch : Batch) : Type 0 where
  pub heard : LinkTable L
  pub receive : Each peer Receives ids old heard
  pub batch_is : batch.items ≡ batch_of heard.table.schema heard.table.conns ids
  pub took_is : new ≡ with_table heard (record heard.table { conns = all_changed ids (took heard.table.schema) heard.table.conns })

-- The listed connections receive. Then memory is refused: those that hold a line feed are closed.
pub record IsRefused {L : Type 0} (peer : L → Peer) (ids : List ConnId) (old new : LinkTable L) : Type 0 where
  pub heard : LinkTable L
  pub receive : Each peer Receives ids old heard
  pub refused_is : new ≡ with_table heard (record heard.table { conns = all_changed ids refused heard.table.conns })

-- The connections after a batch came to its outcome: each has its replies, or those of the batch are closed.
abbrev pub settled_by : {L : Type 0} → LinkTable L → Batch → Outcome → LinkTable L
settled_by t batch outcome = with_table t (record t.table { conns = settled t.table.conns batch outcome })
