-- Which connections fit the schema that their lines are read by.
use Rattle.std.specs.Prelude.{⊤, List}
use Rattle.std.specs.List.{AllByRecursion}
use Rattle.request_types.specs.declared.connections.ConnId.{ConnId}
use Rattle.row_types.specs.declared.tables.Schema.{Schema}
use Rattle.open_index.specs.Fits.{HandlesFit}
use Rattle.line_pipeline.specs.declared.conns.Conn.{Conn}
use Rattle.line_pipeline.specs.declared.conns.Conn.TheVariants as conns

-- The open ids of a connection fit the schema. A closed one has none.
abbrev pub ConnFits : Schema → Conn → Type 0
ConnFits schema (conns.Live l) = HandlesFit schema l.handles
ConnFits schema (conns.Closed reason) = ⊤

-- Those of all connections do.
abbrev pub ConnsFit : Schema → List (ConnId × Conn) → Type 0
ConnsFit schema cs = AllByRecursion (λ c. ConnFits schema c.1) cs
