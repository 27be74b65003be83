-- What contracts see of a link in memory.
use Rattle.std.specs.Prelude.{ℕ, Bool, false, List, [], min, Option, Some, None, if◌then◌else◌}
use Rattle.hs_outside.specs.Links.{Peer}

-- A link in memory: all that a link may tell, and whether the next call is to fail and whether
-- memory was refused.
pub record LinkInMemory : Type 0 where
  pub received : List ℕ
  pub sent : List ℕ
  pub left : List ℕ
  pub peer_ended : Bool
  pub room : Option ℕ
  pub is_ended : Bool
  pub idle : ℕ
  pub faults : ℕ
  pub fails_next : Bool
  pub is_short : Bool

-- A link whose peer has sent nothing yet and has not ended, and which takes any number of bytes.
abbrev pub fresh_link : LinkInMemory
fresh_link = record {
  received = [];
  sent = [];
  left = [];
  peer_ended = false;
  room = None;
  is_ended = false;
  idle = 0;
  faults = 0;
  fails_next = false;
  is_short = false;
}

-- A link in memory tells all, and whether its next call fails as long as memory wasn't refused.
abbrev pub known_link : LinkInMemory → Peer
known_link l = record {
  received = Some l.received;
  sent = Some l.sent;
  left = Some l.left;
  peer_ended = Some l.peer_ended;
  room = Some l.room;
  fails_next = if l.is_short then None else Some l.fails_next;
  is_ended = l.is_ended;
  idle = l.idle;
  faults = l.faults;
}

-- How many of so many bytes fit the room.
abbrev pub room_for : Option ℕ → ℕ → ℕ
room_for None len = len
room_for (Some room) len = min room len
