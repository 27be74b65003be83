-- Connections, each with the link that it stands on.
use Rattle.std.specs.Prelude.{◌≡◌, true, false, List, length, Option, Some, None, get_or, option_map, is_some}
use Rattle.request_types.specs.declared.connections.ConnId.{ConnId}
use Rattle.request_types.specs.Ids.{same_id, is_listed}
use Rattle.hs_outside.specs.Links.{Peer}
use Rattle.line_pipeline.specs.declared.conns.Conn.{Conn}
use Rattle.line_pipeline.specs.Table.{Table, conn_at, is_held}

-- Connections, and at each number the link of the connection that has it.
pub record LinkTable (L : Type 0) : Type 0 where
  pub table : Table
  pub links : List (Option L)

-- A connection, and what is known of its link.
pub record Linked : Type 0 where
  pub conn : Conn
  pub peer : Peer

-- The link at the number of an id.
abbrev pub link_at : {L : Type 0} → List (Option L) → ConnId → Option L
link_at links id = get_or links id.number None

-- A connection beside its link, where there are both.
abbrev pub beside : Option Conn → Option Peer → Option Linked
beside None peer = None
beside (Some conn) None = None
beside (Some conn) (Some peer) = Some (record { conn = conn; peer = peer })

-- The connection of this id, if it is held.
abbrev pub linked_at : {L : Type 0} → (L → Peer) → LinkTable L → ConnId → Option Linked
linked_at peer t id = beside (conn_at t.table.conns id) (option_map peer (link_at t.links id))

-- There is one before and after, and it went over as said.
abbrev pub Went : (Linked → Linked → Type 0) → Option Linked → Option Linked → Type 0
Went Goes None new = ⊥
Went Goes (Some old) None = ⊥
Went Goes (Some old) (Some new) = Goes old new

-- The connections that are held keep their links.
abbrev pub KeepsLinks : {L : Type 0} → List (ConnId × Conn) → List (Option L) → List (Option L) → Type 0
KeepsLinks cs old new = (id : ConnId) → is_held cs id ≡ true → link_at new id ≡ link_at old id

-- The connections of these ids went over as said, those of them that are held. All else stays.
pub record Each {L : Type 0} (peer : L → Peer) (Goes : Linked → Linked → Type 0) (ids : List ConnId) (old new : LinkTable L) : Type 0 where
  pub listed : (id : ConnId) → is_listed ids id ≡ true → is_held old.table.conns id ≡ true → Went Goes (linked_at peer old id) (linked_at peer new id)
  pub conns : (id : ConnId) → is_listed ids id ≡ false → conn_at new.table.conns id ≡ conn_at old.table.conns id
  pub links : (id : ConnId) → is_listed ids id ≡ false → is_held old.table.conns id ≡ true → link_at new.links id ≡ link_at old.links id
  pub held : (id : ConnId) → is_held new.table.conns id ≡ is_held old.table.conns id
  pub rest : new.table ≡ record old.table { conns = new.table.conns }

-- Each connection that is held has a link, and no two have one number.
pub record AreLinked {L : Type 0} (table : Table) (links : List (Option L)) : Type 0 where
  pub places : length links ≡ table.places
  pub each : (id : ConnId) → is_held table.conns id ≡ true → is_some (link_at links id) ≡ true
  pub apart : (a b : ConnId) → is_held table.conns a ≡ true → is_held table.conns b ≡ true → a.number ≡ b.number → same_id a b ≡ true
