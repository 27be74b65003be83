-- How connections stand beside their links. No public clause cites this file.
use Rattle.std.specs.Prelude.{◌≡◌, ℕ, ◌+◌, ◌==◌, ◌&&◌, Bool, true, List, [], ◌∷◌, ◌++◌, map, option_to_list, unwrap_or, Option, Some, None, if◌then◌else◌}
use Rattle.std.specs.List.{list_any}
use Rattle.request_types.specs.declared.connections.ConnId.{ConnId}
use Rattle.hs_outside.specs.MemoryLink.{LinkInMemory, fresh_link}
use Rattle.line_pipeline.specs.declared.conns.Conn.{Conn}
use Rattle.line_pipeline.specs.Gathered.{conn_of}
use Rattle.request_types.specs.Ids.{is_listed, are_once}
use Rattle.line_pipeline.specs.Table.{is_held}
use Rattle.batch_worker.specs.Linked.{LinkTable, link_at}
use Rattle.batch_worker.specs.Told.{Told}
use Rattle.replay_turns.specs.declared.entries.Entry.{Entry}
use Rattle.replay_turns.specs.Linked.{Linked}

-- the link of a connection
abbrev pub link_of : List (Option LinkInMemory) → ConnId → LinkInMemory
link_of links id = unwrap_or (link_at links id) fresh_link

-- what is told of a connection on a link
abbrev pub told_of : Conn → LinkInMemory → Told
told_of conn link = record {
  conn = conn;
  sent = link.sent;
  left = link.left;
  peer_ended = link.peer_ended;
  room = link.room;
  fails_next = link.fails_next;
}

-- the entry of a connection on a link
abbrev pub beside : Conn → LinkInMemory → Entry → Linked
beside conn link e = record { number = e.number; port = e.port; told = told_of conn link }

-- the connection of an entry, on its link
abbrev pub linked : List (ConnId × Conn) → List (Option LinkInMemory) → Entry → Linked
linked cs links e = beside (conn_of cs e.id) (link_of links e.id) e

-- the connections of all entries
abbrev pub all_linked : List (ConnId × Conn) → List (Option LinkInMemory) → List Entry → List Linked
all_linked cs links es = map (linked cs links) es

-- the place of the first entry with this number, where the first of them has that place
abbrev pub place_from : ℕ → ℕ → List Entry → Option ℕ
place_from at number [] = None
place_from at number (e ∷ es) = if e.number == number then Some at else place_from (at + 1) number es

-- the id of the first entry with this number
abbrev pub id_at : ℕ → List Entry → Option ConnId
id_at number [] = None
id_at number (e ∷ es) = if e.number == number then Some e.id else id_at number es

-- the ids of the entries with these numbers
abbrev pub ids_at : List Entry → List ℕ → List ConnId
ids_at es [] = []
ids_at es (number ∷ numbers) = option_to_list (id_at number es) ++ ids_at es numbers

-- the ids of the entries
abbrev pub ids_of : List Entry → List ConnId
ids_of es = map (λ (e : Entry). e.id) es

-- no id is there twice, and the connections that are held are those of the entries
pub record AreEntries (cs : List (ConnId × Conn)) (es : List Entry) : Type 0 where
  pub once : are_once (ids_of es) ≡ true
  pub held : (id : ConnId) → is_held cs id ≡ is_listed (ids_of es) id

-- a connection of this id is held, and memory was refused to its link
abbrev pub is_short_at : LinkTable LinkInMemory → ConnId → Bool
is_short_at t id = is_held t.table.conns id && (link_of t.links id).is_short

-- there is one of these
abbrev pub are_short : LinkTable LinkInMemory → List ConnId → Bool
are_short t ids = list_any (is_short_at t) ids
