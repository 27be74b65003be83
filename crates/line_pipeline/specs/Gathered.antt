-- What one turn takes of the listed connections.
use Rattle.std.specs.Prelude.{◌≡◌, Bool, false, List, [], ◌∷◌, ◌++◌, Option, Some, None}
use Rattle.std.specs.List.{AllByRecursion}
use Rattle.request_types.specs.declared.connections.ConnId.{ConnId}
use Rattle.row_types.specs.declared.tables.Schema.{Schema}
use Rattle.request_types.specs.declared.batches.Item.{Item}
use Rattle.request_types.specs.declared.batches.ItemKind.{ItemKind}
use Rattle.line_pipeline.specs.declared.conns.Conn.{Conn}
use Rattle.line_pipeline.specs.declared.conns.Conn.TheVariants as conns
use Rattle.line_pipeline.specs.declared.reasons.Reason.TheVariants as reasons
use Rattle.line_pipeline.specs.Live.{kinds_of, taken_lines}
use Rattle.line_pipeline.specs.Conn.{items_of, asks}
use Rattle.line_pipeline.specs.Table.{conn_at}

-- What the lines that are taken of this connection ask for.
abbrev pub items_at : Schema → List (ConnId × Conn) → ConnId → List Item
items_at schema cs id = of_conn (conn_at cs id) where
  of_conn : Option Conn → List Item
  of_conn None = []
  of_conn (Some conn) = items_of schema id conn

-- What the lines that are taken of these connections ask for, in their order.
abbrev pub batch_of : Schema → List (ConnId × Conn) → List ConnId → List Item
batch_of schema cs [] = []
batch_of schema cs (id ∷ ids) = items_at schema cs id ++ batch_of schema cs ids

-- Whether the connection of this id is live and holds a line feed.
abbrev pub is_asking : List (ConnId × Conn) → ConnId → Bool
is_asking cs id = of_conn (conn_at cs id) where
  of_conn : Option Conn → Bool
  of_conn None = false
  of_conn (Some conn) = asks conn

-- Each of these connections is found under its id: no two have one.
abbrev pub AreFound : List (ConnId × Conn) → List (ConnId × Conn) → Type 0
AreFound all cs = AllByRecursion (λ c. conn_at all c.0 ≡ Some c.1) cs

-- A connection, of which there always is one.
abbrev pub conn_or_none : Option Conn → Conn
conn_or_none None = conns.Closed reasons.Ended
conn_or_none (Some conn) = conn

-- The connection of this id; one that isn't held is as one that has ended.
abbrev pub conn_of : List (ConnId × Conn) → ConnId → Conn
conn_of cs id = conn_or_none (conn_at cs id)

-- What the lines that are taken of a connection ask for.
abbrev pub asked : Schema → Conn → List ItemKind
asked schema (conns.Live l) = kinds_of schema l.port l.handles l.auth (taken_lines l)
asked schema (conns.Closed reason) = []
