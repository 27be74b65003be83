-- What is known of a link, and what a call does to it.
use Rattle.std.specs.Prelude.{◌≡◌, ℕ, ◌+◌, ◌<◌, ◌≤◌, ◌⊎◌, Bool, true, false, List, [], length, take, Option, Some, None, option_map, IfSome}
use Rattle.std.specs.Io.KnownBytes.{append_known, prepend_known}
use Rattle.fault_count.specs.Cause.{Rose, next_count}
use Rattle.hs_outside.specs.declared.links.Recv.{Recv}
use Rattle.hs_outside.specs.declared.links.Recv.TheVariants as recvs
use Rattle.hs_outside.specs.declared.links.Sent.{Sent}
use Rattle.hs_outside.specs.declared.links.Sent.TheVariants as sends

-- What is known of a link. Where it tells them: the bytes received and the bytes sent so far, the
-- peer's bytes that are left, whether the peer has ended, how many bytes the link still takes,
-- `Some None` where it sets no bound, and whether its next call fails. And in any case: whether a
-- call has answered the end, how many have answered that nothing can be done yet, and how many
-- failed.
pub record Peer : Type 0 where
  pub received : Option (List ℕ)
  pub sent : Option (List ℕ)
  pub left : Option (List ℕ)
  pub peer_ended : Option Bool
  pub room : Option (Option ℕ)
  pub fails_next : Option Bool
  pub is_ended : Bool
  pub idle : ℕ
  pub faults : ℕ

-- Where the link tells it, the next call doesn't fail.
abbrev pub Goes : Peer → Type 0
Goes peer = IfSome peer.fails_next (λ fails. fails ≡ false)

-- The link gave these bytes, the first of those that were left, and all else stays.
pub record Received (old new : Peer) (bytes : List ℕ) : Type 0 where
  pub goes : 0 < length bytes → Goes old
  pub gave : old.left ≡ prepend_known bytes new.left
  pub rest : new ≡ record old { received = append_known old.received bytes; left = new.left }

-- The link took these bytes, a room that it tells had place for them, and all else stays.
pub record Took (old new : Peer) (bytes : List ℕ) : Type 0 where
  pub goes : 0 < length bytes → Goes old
  pub fits : old.room ≡ option_map (option_map (λ n. n + length bytes)) new.room
  pub rest : new ≡ record old { sent = append_known old.sent bytes; room = new.room }

-- Where the link tells them, none of the peer's bytes is left, and whether the peer has ended is as
-- said.
abbrev pub HasNone : Peer → Bool → Type 0
HasNone peer ended =
    IfSome peer.left (λ left. left ≡ []) × IfSome peer.peer_ended (λ is. is ≡ ended)

-- Where the link tells it, it takes no more bytes.
abbrev pub IsFull : Peer → Type 0
IsFull peer = IfSome peer.room (λ room. room ≡ Some 0)

-- Nothing could be done yet, which is counted, and all else stays.
abbrev pub Waited : Peer → Peer → Type 0
Waited old new = Goes old × (new ≡ record old { idle = next_count old.idle })

-- The call was told to fail, and the next one isn't, unless the link has no word of that any more.
abbrev pub Foretold : Peer → Peer → Type 0
Foretold old new =
    (new.fails_next ≡ None) ⊎ ((old.fails_next ≡ Some true) × (new.fails_next ≡ Some false))

-- The call failed: the count of faults rose, and all else stays.
abbrev pub Broke : Peer → Peer → Type 0
Broke old new = Rose old.faults new.faults × Foretold old new
    × (new ≡ record old { faults = new.faults; fails_next = new.fails_next })

-- A call for the peer's bytes gives some, or finds none yet, or the end, or fails.
abbrev pub RecvDoes : Recv → Peer → Peer → List ℕ → Type 0
RecvDoes (recvs.Got count) old new buffer =
    (0 < count) × (count ≤ length buffer) × Received old new (take count buffer)
RecvDoes recvs.NotYet old new buffer = HasNone old false × Waited old new
RecvDoes recvs.End old new buffer =
    Goes old × HasNone old true × (new ≡ record old { is_ended = true })
RecvDoes recvs.Failed old new buffer = Broke old new

-- A call that hands over bytes has a front of them taken, or none yet, or fails.
abbrev pub SentDoes : Sent → Peer → Peer → List ℕ → Type 0
SentDoes (sends.Took count) old new bytes =
    (0 < count) × (count ≤ length bytes) × Took old new (take count bytes)
SentDoes sends.NotYet old new bytes = IsFull old × Waited old new
SentDoes sends.Failed old new bytes = Broke old new
