-- What a connection receives in a turn.
use Rattle.std.specs.Prelude.{◌≡◌, ◌<◌, ◌≤◌, ◌⊎◌, ℕ, true, false, List, length}
use Rattle.hs_outside.specs.Links.{Received, HasNone, Goes, Waited, Broke}
use Rattle.line_pipeline.specs.declared.reasons.Reason.TheVariants as reasons
use Rattle.line_pipeline.specs.Conn.{room_of, fed, ended, closed}
use Rattle.batch_worker.specs.Linked.{Linked}

-- A call of its link fails: it is closed. This is the only way to be closed for the link.
pub record Fails (old new : Linked) : Type 0 where
  pub link : Broke old.peer new.peer
  pub conn : new.conn ≡ closed reasons.LinkFault old.conn

-- Its link has no byte now.
pub record HearsNothing (old new : Linked) : Type 0 where
  pub none : HasNone old.peer false
  pub link : Waited old.peer new.peer
  pub conn : new.conn ≡ old.conn

-- Its link has no byte any more: it has met its end.
pub record HearsEnd (old new : Linked) : Type 0 where
  pub none : HasNone old.peer true
  pub goes : Goes old.peer
  pub link : new.peer ≡ record old.peer { is_ended = true }
  pub conn : new.conn ≡ ended old.conn

-- It holds as much as it may, or its link gives no more.
abbrev pub StopsHearing : Linked → Linked → Type 0
StopsHearing old new =
    ((room_of old.conn ≡ 0) × (new ≡ old))
    ⊎ ((0 < room_of old.conn) × (Fails old new ⊎ (HearsNothing old new ⊎ HearsEnd old new)))

-- These bytes of its link joined those that it holds.
pub record Hears (old new : Linked) (bytes : List ℕ) : Type 0 where
  pub gave : Received old.peer new.peer bytes
  pub fits : length bytes ≤ room_of old.conn
  pub conn : new.conn ≡ fed bytes old.conn

-- It receives until it holds as much as it may, or its link gives no more.
pub record Receives (old new : Linked) : Type 0 where
  pub bytes : List ℕ
  pub heard : Linked
  pub hears : Hears old heard bytes
  pub stops : StopsHearing heard new
