-- What a connection is owed by a turn.
use Rattle.std.specs.Prelude.{◌≡◌, ℕ, List, [], ◌++◌, length}
use Rattle.std.specs.List.{AllByRecursion}
use Rattle.hs_line.specs.Lines.{IsLine, joined}
use Rattle.row_types.specs.declared.tables.Schema.{Schema}
use Rattle.line_pipeline.specs.declared.conns.Conn.{Conn}
use Rattle.line_pipeline.specs.declared.conns.Conn.TheVariants as conns
use Rattle.line_pipeline.specs.Live.{taken_lines}
use Rattle.line_pipeline.specs.Conn.{unsent_of}
use Rattle.table_rows.specs.Database.{Database}
use Rattle.batch_worker.specs.Told.{Told, received, passed}
use Rattle.replay_turns.specs.Replying.{replied}

-- A connection after a turn in which its lines were answered on these rows.
abbrev pub turned : Schema → Database → Told → Told
turned schema db t = let heard = received t in passed (record heard { conn = replied schema db heard.conn })

-- All that a connection was sent, and behind that what waits for it.
abbrev pub owed : Told → List ℕ
owed t = t.sent ++ unsent_of t.conn

-- The lines that a turn takes of a connection.
abbrev pub lines_of : Conn → List (List ℕ)
lines_of (conns.Live l) = taken_lines l
lines_of (conns.Closed reason) = []

-- A line for each of these, each with its line feed, and nothing else.
pub record IsLineForEach (lines : List (List ℕ)) (text : List ℕ) : Type 0 where
  pub replies : List (List ℕ)
  pub each : AllByRecursion IsLine replies
  pub count : length replies ≡ length lines
  pub is : text ≡ joined replies []
