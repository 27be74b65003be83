-- What a connection is sent in a turn, and whether it closes.
use Rattle.std.specs.Prelude.{◌≡◌, ◌<◌, ◌⊎◌, ℕ, List, [], ◌++◌, length}
use Rattle.hs_outside.specs.Links.{Took, IsFull, Waited}
use Rattle.line_pipeline.specs.Conn.{unsent_of, sent_off, finished}
use Rattle.batch_worker.specs.Linked.{Linked}
use Rattle.batch_worker.specs.Receiving.{Fails}

-- Its link takes no byte now.
pub record IsHeldUp (old new : Linked) : Type 0 where
  pub full : IsFull old.peer
  pub link : Waited old.peer new.peer
  pub conn : new.conn ≡ old.conn

-- Nothing waits for it any more, or its link takes no more.
abbrev pub StopsSending : Linked → Linked → Type 0
StopsSending old new =
    ((unsent_of old.conn ≡ []) × (new ≡ old))
    ⊎ ((0 < length (unsent_of old.conn)) × (Fails old new ⊎ IsHeldUp old new))

-- Its link took these bytes, the first of those that waited.
pub record IsSent (old new : Linked) (bytes : List ℕ) : Type 0 where
  pub took : Took old.peer new.peer bytes
  pub waited : unsent_of old.conn ≡ bytes ++ unsent_of new.conn
  pub conn : new.conn ≡ sent_off (length bytes) old.conn

-- It is sent what waits for it, as much as its link takes.
pub record Sends (old new : Linked) : Type 0 where
  pub bytes : List ℕ
  pub sent : Linked
  pub is_sent : IsSent old sent bytes
  pub stops : StopsSending sent new

-- Then it closes where it has an end of its own.
pub record Passes (old new : Linked) : Type 0 where
  pub after : Linked
  pub sends : Sends old after
  pub is : new ≡ record after { conn = finished after.conn }
