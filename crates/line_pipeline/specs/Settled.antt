-- What becomes of the connections of a batch.
use Rattle.std.specs.Prelude.{◌≡◌, true, List, [], ◌∷◌, map, IsSomeAnd, if◌then◌else◌}
use Rattle.std.specs.List.{AllByRecursion, list_all}
use Rattle.request_types.specs.declared.connections.ConnId.{ConnId}
use Rattle.request_types.specs.declared.batches.Batch.{Batch}
use Rattle.request_types.specs.declared.batches.Part.{Part}
use Rattle.line_pipeline.specs.declared.outcomes.Outcome.{Outcome}
use Rattle.line_pipeline.specs.declared.outcomes.Outcome.TheVariants as outcomes
use Rattle.line_pipeline.specs.declared.conns.Conn.{Conn}
use Rattle.line_pipeline.specs.declared.reasons.Reason.TheVariants as reasons
use Rattle.line_pipeline.specs.Conn.{answered, place_used, closed, has_place}
use Rattle.request_types.specs.Batches.{conns_of}
use Rattle.request_types.specs.Ids.{same_id, is_listed, are_once}
use Rattle.line_pipeline.specs.Table.{conn_at, all_changed}

-- The connections of a batch's items.
abbrev pub asked_by : Batch → List ConnId
asked_by batch = conns_of batch.items

-- The connections that the parts answer.
abbrev pub answered_by : List Part → List ConnId
answered_by parts = map (λ part. part.conn) parts

-- A connection with the text of its part at the end of its output, if one of the parts is its own.
abbrev pub told : List Part → ConnId × Conn → Conn
told [] c = c.1
told (part ∷ parts) c = if same_id c.0 part.conn then answered part.text c.1 else told parts c

-- The connections with each part at the end of its connection's output.
abbrev pub all_told : List Part → List (ConnId × Conn) → List (ConnId × Conn)
all_told parts cs = map (λ c. (c.0, told parts c)) cs

-- The connections after a batch: each gets its part, or those that asked for something are closed.
abbrev pub settled : List (ConnId × Conn) → Batch → Outcome → List (ConnId × Conn)
settled cs batch (outcomes.Done replies) = all_changed (asked_by batch) place_used (all_told replies.parts cs)
settled cs batch outcomes.DiskFault = all_changed (asked_by batch) (closed reasons.BatchDisk) cs
settled cs batch outcomes.NoMemory = all_changed (asked_by batch) (closed reasons.BatchMemory) cs

-- This connection is held, and a text can join its output.
abbrev pub HasPlace : List (ConnId × Conn) → ConnId → Type 0
HasPlace cs id = IsSomeAnd (conn_at cs id) (λ conn. has_place conn ≡ true)

-- Each connection of the batch has the place that was reserved for it, and the parts answer these connections, each at most once.
pub record CanSettle (cs : List (ConnId × Conn)) (batch : Batch) (parts : List Part) : Type 0 where
  pub places : AllByRecursion (HasPlace cs) (asked_by batch)
  pub asked : list_all (is_listed (asked_by batch)) (answered_by parts) ≡ true
  pub once : are_once (answered_by parts) ≡ true

-- The parts of an outcome.
abbrev pub parts_of : Outcome → List Part
parts_of (outcomes.Done replies) = replies.parts
parts_of _ = []
