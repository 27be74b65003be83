-- Connections, each with the link that it stands on, in the order in which they were opened.
use Rattle.std.specs.Prelude.{ℕ, ◌==◌, Bool, true, false, List, [], ◌∷◌, ◌++◌, Option, Some, None, if◌then◌else◌}
use Rattle.request_types.specs.declared.ports.Port.{Port}
use Rattle.line_pipeline.specs.declared.conns.Conn.{Conn}
use Rattle.line_pipeline.specs.declared.conns.Conn.TheVariants as conns
use Rattle.line_pipeline.specs.declared.secrets.Secrets.{Secrets}
use Rattle.line_pipeline.specs.Live.{fresh}
use Rattle.line_pipeline.specs.Conn.{secret_of}
use Rattle.batch_worker.specs.Told.{Told}

-- A connection by its number, and the port that it came to. It, and what its link tells.
pub record Linked : Type 0 where
  pub number : ℕ
  pub port : Port
  pub told : Told

-- A connection that has come to a port. Its peer has sent nothing, and nothing was sent to it.
abbrev pub opened : Secrets → ℕ → Port → Linked
opened secrets number port = record {
  number = number;
  port = port;
  told = record {
    conn = conns.Live (fresh (secret_of secrets port) port);
    sent = [];
    left = [];
    peer_ended = false;
    room = None;
    fails_next = false;
  };
}

-- The connection of this number, if there is one.
abbrev pub linked_at : ℕ → List Linked → Option Linked
linked_at number [] = None
linked_at number (l ∷ ls) = if l.number == number then Some l else linked_at number ls

-- Whether there is a connection of this number whose peer has ended.
abbrev pub has_ended : ℕ → List Linked → Bool
has_ended number [] = false
has_ended number (l ∷ ls) = if l.number == number then l.told.peer_ended else has_ended number ls

-- The connections with that of this number changed.
abbrev pub on : ℕ → (Linked → Linked) → List Linked → List Linked
on number change [] = []
on number change (l ∷ ls) = if l.number == number then change l ∷ ls else l ∷ on number change ls

-- The connections with those of these numbers changed.
abbrev pub on_all : List ℕ → (Linked → Linked) → List Linked → List Linked
on_all [] change ls = ls
on_all (number ∷ numbers) change ls = on_all numbers change (on number change ls)

-- A connection, of which this was changed.
abbrev pub with : (Told → Told) → Linked → Linked
with change l = record l { told = change l.told }

-- The same, of it alone.
abbrev pub with_conn : (Conn → Conn) → Linked → Linked
with_conn change = with (λ t. record t { conn = change t.conn })

-- Its peer has sent a piece.
abbrev pub peer_sent : List ℕ → Linked → Linked
peer_sent piece = with (λ t. record t { left = t.left ++ piece })

-- Its peer has ended.
abbrev pub peer_ended : Linked → Linked
peer_ended = with (λ t. record t { peer_ended = true })

-- From now on its link takes so many more bytes, whatever was said before.
abbrev pub with_room : ℕ → Linked → Linked
with_room count = with (λ t. record t { room = Some count })

-- The next call of its link fails.
abbrev pub failing_next : Linked → Linked
failing_next = with (λ t. record t { fails_next = true })
