-- What connections are answered in a turn.
use Rattle.std.specs.Prelude.{ℕ, List, [], ◌∷◌, Option, Some, None}
use Rattle.row_types.specs.declared.tables.Schema.{Schema}
use Rattle.request_types.specs.declared.batches.ItemKind.{ItemKind}
use Rattle.line_pipeline.specs.declared.conns.Conn.{Conn}
use Rattle.line_pipeline.specs.declared.reasons.Reason.{Reason}
use Rattle.line_pipeline.specs.Conn.{took, answered, closed}
use Rattle.line_pipeline.specs.Gathered.{asked}
use Rattle.table_rows.specs.Database.{Database}
use Rattle.batch_answers.specs.Answers.{replies_to, after_all}
use Rattle.replay_turns.specs.Linked.{Linked, linked_at, on, with_conn}

-- It without these lines, with the replies to them at the end of its output. One that gives no line stays as it is.
abbrev pub replied : Schema → Database → Conn → Conn
replied schema db conn = by (asked schema conn) where
  by : List ItemKind → Conn
  by [] = conn
  by (kind ∷ kinds) = answered (replies_to db (kind ∷ kinds)) (took schema conn)

-- The same of it and its link.
abbrev pub with_replies : Schema → Database → Linked → Linked
with_replies schema db = with_conn (replied schema db)

-- The rows that the requests of a connection leave, if there is one.
abbrev pub rows_after : Schema → Database → Option Linked → Database
rows_after schema db None = db
rows_after schema db (Some l) = after_all db (asked schema l.told.conn)

-- The rows and the connections once those of these numbers were answered, one after another.
abbrev pub all_replied : Schema → List ℕ → Database → List Linked → Database × List Linked
all_replied schema [] db ls = (db, ls)
all_replied schema (number ∷ numbers) db ls =
    all_replied schema numbers (rows_after schema db (linked_at number ls)) (on number (with_replies schema db) ls)

-- One whose lines were in a batch that failed is closed for that. One that gave no line stays as it is.
abbrev pub failed : Schema → Reason → Conn → Conn
failed schema reason conn = by (asked schema conn) where
  by : List ItemKind → Conn
  by [] = conn
  by (kind ∷ kinds) = closed reason conn
