-- Connections on tables, and one turn of some of them.
use Rattle.std.specs.Prelude.{◌≡◌, ℕ, List, Result, Ok, Err}
use Rattle.row_types.specs.declared.tables.Schema.{Schema}
use Rattle.request_types.specs.declared.batches.Item.{Item}
use Rattle.request_types.specs.declared.batches.Replies.{Replies}
use Rattle.line_pipeline.specs.declared.outcomes.Outcome.{Outcome}
use Rattle.line_pipeline.specs.declared.outcomes.Outcome.TheVariants as outcomes
use Rattle.line_pipeline.specs.declared.reasons.Reason.TheVariants as reasons
use Rattle.line_pipeline.specs.declared.secrets.Secrets.{Secrets}
use Rattle.line_pipeline.specs.Conn.{refused}
use Rattle.table_rows.specs.Database.{Database}
use Rattle.batch_worker.specs.declared.ends.TurnEnd.{TurnEnd}
use Rattle.batch_worker.specs.declared.ends.TurnEnd.TheVariants as ends
use Rattle.batch_worker.specs.Told.{received, passed}
use Rattle.replay_turns.specs.Linked.{Linked, on_all, with, with_conn}
use Rattle.replay_turns.specs.Replying.{all_replied, failed}
use Rattle.replay_turns.specs.Told.{all_told, all_left}

-- The schema and the secrets that lines are read by, the rows, and the connections that are open, in the order in which they came.
pub record Session : Type 0 where
  pub schema : Schema
  pub secrets : Secrets
  pub database : Database
  pub conns : List Linked

-- The rows, and the connections of these numbers, once their batch has come to its end: they are answered one after
-- another, or those that asked for something are closed and the rows stay.
abbrev pub ended_by : TurnEnd → Schema → List ℕ → Database → List Linked → Database × List Linked
ended_by ends.Done schema numbers db ls = all_replied schema numbers db ls
ended_by ends.DiskFault schema numbers db ls = (db, on_all numbers (with_conn (failed schema reasons.BatchDisk)) ls)
ended_by ends.NoMemory schema numbers db ls = (db, on_all numbers (with_conn (failed schema reasons.BatchMemory)) ls)
ended_by ends.NoBatch schema numbers db ls = (db, on_all numbers (with_conn refused) ls)

-- The connections of these numbers receive, then their batch comes to its end, then they are sent what waits for them.
abbrev pub answered : TurnEnd → Schema → List ℕ → Database → List Linked → Database × List Linked
answered end schema numbers db ls =
    let ended = ended_by end schema numbers db (on_all numbers (with received) ls) in
    (ended.0, on_all numbers (with passed) ended.1)

-- One turn that ends so: what it prints, and what it leaves. Connections that closed are there no more.
abbrev pub turn : TurnEnd → List ℕ → Session → List ℕ × Session
turn end numbers s =
    let after = answered end s.schema numbers s.database s.conns in
    (all_told numbers s.conns after.1, record s { database = after.0; conns = all_left numbers after.1 })

-- ---- on what runs their batches

-- The same with what runs the batches in place of its rows.
pub record SessionOn (B : Type 0) : Type 0 where
  pub schema : Schema
  pub secrets : Secrets
  pub book : B
  pub conns : List Linked

module _ {B : Type 0} where
  -- The session, by the rows.
  abbrev pub session_on : (B → Database) → SessionOn B → Session
  session_on rows s = record { schema = s.schema; secrets = s.secrets; database = rows s.book; conns = s.conns }

  -- What ran the batch of a turn that ended so.
  abbrev pub Ran : (B → List Item → Outcome → B → Type 0) → TurnEnd → B → B → Type 0
  Ran ran ends.Done book after = (items : List Item) × (replies : Replies) × ran book items (outcomes.Done replies) after
  Ran ran ends.DiskFault book after = (items : List Item) × ran book items outcomes.DiskFault after
  Ran ran ends.NoMemory book after = (items : List Item) × ran book items outcomes.NoMemory after
  Ran ran ends.NoBatch book after = after ≡ book

  -- The same, where memory may have run out over something else.
  abbrev pub RanBy : {E : Type 0} → (B → List Item → Outcome → B → Type 0) → Result TurnEnd E → B → B → Type 0
  RanBy ran (Ok end) book after = Ran ran end book after
  RanBy ran (Err _) book after = (end : TurnEnd) × Ran ran end book after
