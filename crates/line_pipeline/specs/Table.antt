-- The connections that are held, each under its id.
use Rattle.std.specs.Prelude.{◌≡◌, ◌≢◌, ℕ, Bool, not, List, [], ◌∷◌, ◌++◌, map, Option, Some, None, is_some, if◌then◌else◌}
use Rattle.std.specs.List.{filter, AllByRecursion}
use Rattle.request_types.specs.Ids.{same_id, is_listed}
use Rattle.request_types.specs.declared.connections.ConnId.{ConnId}
use Rattle.row_types.specs.declared.tables.Schema.{Schema}
use Rattle.line_pipeline.specs.declared.conns.Conn.{Conn}
use Rattle.line_pipeline.specs.declared.secrets.Secrets.{Secrets}

-- The schema and the secrets that lines are read by, how many connections were added so far, how many numbers there are for them, and
-- those that are held.
pub record Table : Type 0 where
  pub schema : Schema
  pub secrets : Secrets
  pub added : ℕ
  pub places : ℕ
  pub conns : List (ConnId × Conn)

-- The connection of this id, if it is held.
abbrev pub conn_at : List (ConnId × Conn) → ConnId → Option Conn
conn_at [] id = None
conn_at (c ∷ cs) id = if same_id c.0 id then Some c.1 else conn_at cs id

-- Whether a connection of this id is held.
abbrev pub is_held : List (ConnId × Conn) → ConnId → Bool
is_held cs id = is_some (conn_at cs id)

-- The connections with that of this id changed.
abbrev pub changed : ConnId → (Conn → Conn) → List (ConnId × Conn) → List (ConnId × Conn)
changed id change cs = map (λ c. if same_id c.0 id then (c.0, change c.1) else c) cs

-- The connections with each of these ids changed.
abbrev pub all_changed : List ConnId → (Conn → Conn) → List (ConnId × Conn) → List (ConnId × Conn)
all_changed ids change cs = map (λ c. if is_listed ids c.0 then (c.0, change c.1) else c) cs

-- The connections without that of this id.
abbrev pub without : ConnId → List (ConnId × Conn) → List (ConnId × Conn)
without id cs = filter (λ c. not (same_id c.0 id)) cs

-- No connection that is held has this number.
abbrev pub IsFree : ℕ → List (ConnId × Conn) → Type 0
IsFree number cs = AllByRecursion (λ c. c.0.number ≢ number) cs

-- One connection more, and the others as they were.
pub record Joins (old new : List (ConnId × Conn)) (id : ConnId) (conn : Conn) : Type 0 where
  pub before : List (ConnId × Conn)
  pub after : List (ConnId × Conn)
  pub was : old ≡ before ++ after
  pub is : new ≡ before ++ (id, conn) ∷ after
