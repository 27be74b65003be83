-- Connections over links that tell all: what a turn makes of them is a function.
use Rattle.std.specs.Prelude.{◌≡◌, ℕ, ◌-◌, ◌==◌, ◌&&◌, Bool, false, List, ◌++◌, length, take, drop, nat_lt, option_map, Option, Some, if◌then◌else◌}
use Rattle.hs_outside.specs.MemoryLink.{room_for}
use Rattle.line_pipeline.specs.declared.conns.Conn.{Conn}
use Rattle.line_pipeline.specs.declared.reasons.Reason.TheVariants as reasons
use Rattle.line_pipeline.specs.Conn.{room_of, unsent_of, fed, ended, sent_off, closed, finished}
use Rattle.batch_worker.specs.Linked.{Linked}

-- A connection. Of its link: the bytes sent so far, the peer's bytes that weren't received, whether the peer has ended, how many bytes it
-- still takes (None: any number), and whether its next call fails.
pub record Told : Type 0 where
  pub conn : Conn
  pub sent : List ℕ
  pub left : List ℕ
  pub peer_ended : Bool
  pub room : Option ℕ
  pub fails_next : Bool

-- The link tells all this.
pub record Tells (l : Linked) (t : Told) : Type 0 where
  pub conn : l.conn ≡ t.conn
  pub sent : l.peer.sent ≡ Some t.sent
  pub left : l.peer.left ≡ Some t.left
  pub peer_ended : l.peer.peer_ended ≡ Some t.peer_ended
  pub room : l.peer.room ≡ Some t.room
  pub fails_next : l.peer.fails_next ≡ Some t.fails_next

-- A call of its link fails: the connection is closed, and the next call doesn't fail.
abbrev pub broken : Told → Told
broken t = record t { conn = closed reasons.LinkFault t.conn; fails_next = false }

-- Whether it receives all that its peer ever sent, and has room left to find that out.
abbrev pub meets_end : Told → Bool
meets_end t = t.peer_ended && nat_lt (length t.left) (room_of t.conn)

-- It with the next bytes, as many as it has room for.
abbrev pub heard : Told → Conn
heard t = fed (take (room_of t.conn) t.left) t.conn

-- One that has room receives, unless a fault stands.
abbrev pub received : Told → Told
received t =
    if room_of t.conn == 0 then t
    else if t.fails_next then broken t
    else record t {
      conn = if meets_end t then ended (heard t) else heard t;
      left = drop (room_of t.conn) t.left;
    }

-- Whether a fault stands while output waits.
abbrev pub breaks : Told → Bool
breaks t = t.fails_next && nat_lt 0 (length (unsent_of t.conn))

-- How many of the bytes that wait its link takes.
abbrev pub count_of : Told → ℕ
count_of t = room_for t.room (length (unsent_of t.conn))

-- They go from its output to the bytes sent, and its link has so much less room.
abbrev pub sends : Told → Told
sends t =
    if breaks t then broken t
    else record t {
      conn = sent_off (count_of t) t.conn;
      sent = t.sent ++ take (count_of t) (unsent_of t.conn);
      room = option_map (λ n. n - count_of t) t.room;
    }

-- Then it closes where it has an end of its own.
abbrev pub passed : Told → Told
passed t = let s = sends t in record s { conn = finished s.conn }
