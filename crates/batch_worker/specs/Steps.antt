-- One call of a link. No public clause cites this file.
use Rattle.std.specs.Prelude.{◌≡◌, ℕ, ◌<◌, Bool, true, false, List, length}
use Rattle.request_types.specs.declared.connections.ConnId.{ConnId}
use Rattle.request_types.specs.Ids.{same_id}
use Rattle.hs_outside.specs.Links.{Peer}
use Rattle.line_pipeline.specs.Gathered.{conn_of}
use Rattle.line_pipeline.specs.Table.{Table, conn_at, is_held}
use Rattle.batch_worker.specs.Linked.{Linked}
use Rattle.batch_worker.specs.Receiving.{Hears, StopsHearing}
use Rattle.batch_worker.specs.Sending.{IsSent, StopsSending}

-- the connection of this id, with this link
abbrev pub with : {L : Type 0} → (L → Peer) → Table → ConnId → L → Linked
with peer table id link = record { conn = conn_of table.conns id; peer = peer link }

-- only the connection of this id was changed, and what is kept of it holds still
pub record Keeps (id : ConnId) (old new : Table) : Type 0 where
  pub rest : new ≡ record old { conns = new.conns }
  pub others : (other : ConnId) → same_id other id ≡ false → conn_at new.conns other ≡ conn_at old.conns other
  pub held : is_held old.conns id ≡ true → is_held new.conns id ≡ true

-- at least one byte was received, and more may be; or no more is
abbrev pub HearStep : Bool → Linked → Linked → Type 0
HearStep true old new = (bytes : List ℕ) × (0 < length bytes) × Hears old new bytes
HearStep false old new = StopsHearing old new

-- at least one byte was sent, and more may be; or no more is
abbrev pub SendStep : Bool → Linked → Linked → Type 0
SendStep true old new = (bytes : List ℕ) × (0 < length bytes) × IsSent old new bytes
SendStep false old new = StopsSending old new
