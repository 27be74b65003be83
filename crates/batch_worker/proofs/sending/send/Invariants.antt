use Rattle.std.proofs.Common.{ℕ, List, length}
use Rattle.line_pipeline.specs.Conn.{unsent_of}
use Rattle.line_pipeline.specs.Gathered.{conn_of}
use Rattle.batch_worker.specs.Sending.{IsSent}
use Rattle.batch_worker.specs.Steps.{with, Keeps}
use Rattle.batch_worker.proofs.sending.send.Given as goal

abbrev pub invariant-loop-id : goal.invariant-loop-id
invariant-loop-id g l = record {
  keeps : Keeps l.id l.fn.table l.table;
  is_sent : (bytes : List ℕ) × IsSent (with g.L.Link.peer l.fn.table l.id l.fn.link) (with g.L.Link.peer l.table l.id l.link) bytes;
}

abbrev pub decreases-loop-id : goal.decreases-loop-id
decreases-loop-id g l = length (unsent_of (conn_of l.table.conns l.id))
