-- What a connection is owed, over its turns.
use Rattle.std.specs.Prelude.{◌≡◌, ℕ, ⊤, List, [], ◌∷◌, ◌++◌, if◌then◌else◌}
use Rattle.std.specs.Io.KnownBytes.{append_known}
use Rattle.request_types.specs.declared.connections.ConnId.{ConnId}
use Rattle.request_types.specs.declared.batches.Part.{Part}
use Rattle.request_types.specs.Ids.{same_id}
use Rattle.line_pipeline.specs.declared.conns.Conn.{Conn}
use Rattle.line_pipeline.specs.declared.conns.Conn.TheVariants as conns
use Rattle.line_pipeline.specs.declared.reasons.Reason.{Reason}
use Rattle.line_pipeline.specs.declared.reasons.Reason.TheVariants as reasons
use Rattle.line_pipeline.specs.Conn.{unsent_of}
use Rattle.batch_worker.specs.Linked.{Linked}
use Rattle.batch_worker.specs.Receiving.{Receives}
use Rattle.batch_worker.specs.Sending.{Passes}

-- It is live, or was closed after all that it was owed.
abbrev pub IsServed : Conn → Type 0
IsServed (conns.Live l) = ⊤
IsServed (conns.Closed reasons.Ended) = ⊤
IsServed (conns.Closed reasons.TooLong) = ⊤
IsServed (conns.Closed reason) = ⊥

-- One turn of a connection in which it is answered by this text: it receives, the text joins its output, and it is sent what waits. One
-- that is closed stays so.
pub record IsAnswered (old new : Linked) (text : List ℕ) : Type 0 where
  pub heard : Linked
  pub receives : Receives old heard
  pub answered : Linked
  pub link : answered.peer ≡ heard.peer
  pub closed : (reason : Reason) → heard.conn ≡ conns.Closed reason → answered.conn ≡ conns.Closed reason
  pub owes : unsent_of answered.conn ≡ unsent_of heard.conn ++ text
  pub passes : Passes answered new

-- What was sent from the one moment to the other and what is queued then are together what was queued before and this text.
pub record IsOwed (old new : Linked) (text : List ℕ) : Type 0 where
  pub sent : List ℕ
  pub grew : new.peer.sent ≡ append_known old.peer.sent sent
  pub together : unsent_of old.conn ++ text ≡ sent ++ unsent_of new.conn

-- Turns of a connection, each answered by its text.
abbrev pub AreAnswered : Linked → Linked → List (List ℕ) → Type 0
AreAnswered old new [] = new ≡ old
AreAnswered old new (text ∷ texts) =
    (mid : Linked) × IsAnswered old mid text × IsServed mid.conn × AreAnswered mid new texts

-- Two connections, each from one moment to another: what was sent and what is queued then are together the same for both.
pub record AreSentAlike (old new other_old other_new : Linked) : Type 0 where
  pub sent : List ℕ
  pub grew : new.peer.sent ≡ append_known old.peer.sent sent
  pub other_sent : List ℕ
  pub other_grew : other_new.peer.sent ≡ append_known other_old.peer.sent other_sent
  pub alike : sent ++ unsent_of new.conn ≡ other_sent ++ unsent_of other_new.conn

-- The text that parts have for a connection. None, where no part is its own.
abbrev pub text_for : List Part → ConnId → List ℕ
text_for [] id = []
text_for (part ∷ parts) id = if same_id id part.conn then part.text else text_for parts id
