-- Over a link that tells all, what a connection is sent is fixed.
use Rattle.std.proofs.Common.{◌≡◌, ℕ, ◌+◌, ◌-◌, ◌<◌, ◌≤◌, Bool, true, false, List, [], ◌++◌, length, take, Option, Some, None, option_map, refl, sym, ap, subst, ◌∙◌, ⊎_elim, arith, length-append}
use Rattle.std.specs.Prelude.{min, IsSome, unwrap_or}
use Rattle.std.proofs.lemmas.Bool.{lt-ltb, both_ways}
use Rattle.std.proofs.lemmas.List.{append-nil}
use Rattle.std.specs.Io.KnownBytes.{append_known}
use Rattle.hs_outside.specs.Links.{Peer}
use Rattle.hs_outside.specs.MemoryLink.{room_for}
use Rattle.line_pipeline.specs.declared.conns.Conn.{Conn}
use Rattle.line_pipeline.specs.declared.reasons.Reason.TheVariants as reasons
use Rattle.line_pipeline.specs.Conn.{unsent_of, sent_off, closed, finished}
use Rattle.batch_worker.specs.Linked.{Linked}
use Rattle.batch_worker.specs.Receiving.{Fails}
use Rattle.batch_worker.specs.Sending.{IsHeldUp, IsSent, Sends, Passes}
use Rattle.batch_worker.specs.Told.{Told, Tells, broken, breaks, count_of, sends, passed}
use Rattle.batch_worker.proofs.Rooms.{off-none}
use Rattle.batch_worker.proofs.TellsReceived.{if_some, goes_is, foretold_is, none_given, take-front}

pub some_room : (a b : Option ℕ) → Some a ≡ Some b → a ≡ b
some_room a b is = ap (λ (o : Option (Option ℕ)). unwrap_or o None) is

-- the room that is left, of a room that was told
rooms : (room : Option ℕ) (count : ℕ) (o : Option (Option ℕ)) → Some room ≡ option_map (option_map (λ n. n + count)) o → (rest : Option ℕ) × (o ≡ Some rest) × (room ≡ option_map (λ n. n + count) rest)
rooms room count None is = absurd (some_none is)
  where
    some_none : ◌≡◌ {A = Option (Option ℕ)} (Some room) None → ⊥
    some_none is = cc
rooms room count (Some rest) is = (rest, refl, some_room _ _ is)

room-back : (room rest : Option ℕ) (count : ℕ) → room ≡ option_map (λ n. n + count) rest → rest ≡ option_map (λ n. n - count) room
room-back room None count is = rw is refl
room-back room (Some n) count is = rw is (ap Some (omega arith))

-- as much as waited
for-all : (room rest : Option ℕ) (count : ℕ) → room ≡ option_map (λ n. n + count) rest → room_for room count ≡ count
for-all room None count is = rw is refl
for-all room (Some n) count is = rw is (omega arith)

-- as much as there was room for
for-full : (room rest : Option ℕ) (count len : ℕ) → room ≡ option_map (λ n. n + count) rest → rest ≡ Some 0 → count ≤ len → room_for room len ≡ count
for-full room rest count len is full most =
    ap (λ (r : Option ℕ). room_for r len) (is ∙ ap (option_map (λ n. n + count)) full) ∙ min_left count len most
  where
    min_left : (count len : ℕ) → count ≤ len → min (0 + count) len ≡ count
    min_left count len most = omega (arith, most)

-- it with so many bytes sent
abbrev pub after : Told → ℕ → Told
after t count = record t {
  conn = sent_off count t.conn;
  sent = t.sent ++ take count (unsent_of t.conn);
  room = option_map (λ n. n - count) t.room;
}

room-none : (room : Option ℕ) → option_map (λ n. n - 0) room ≡ room
room-none None = refl
room-none (Some n) = ap Some (omega arith)

after-none : (t : Told) → after t 0 ≡ t
after-none t =
    ap (λ (conn : Conn). record t { conn = conn; sent = t.sent ++ []; room = option_map (λ n. n - 0) t.room }) (off-none t.conn)
    ∙ ap (λ (sent : List ℕ). record t { sent = sent; room = option_map (λ n. n - 0) t.room }) (append-nil t.sent)
    ∙ ap (λ (room : Option ℕ). record t { room = room }) (room-none t.room)

sends-broken : (t : Told) → breaks t ≡ true → sends t ≡ broken t
sends-broken t is = rw is refl

sends-on : (t : Told) (count : ℕ) → breaks t ≡ false → count_of t ≡ count → sends t ≡ after t count
sends-on t count is counted = rw is (ap (after t) counted)

-- ---- by cases of what is told

module _ (k l m : Linked) (t : Told) (bytes : List ℕ) (told : Tells k t) (later : IsSome m.peer.fails_next) (is : IsSent k l bytes) where
  abbrev rest : Option ℕ
  rest = (rooms t.room (length bytes) l.peer.room (sym told.room ∙ is.took.fits)).0

  room_is : l.peer.room ≡ Some rest
  room_is = (rooms t.room (length bytes) l.peer.room (sym told.room ∙ is.took.fits)).1

  room_was : t.room ≡ option_map (λ n. n + length bytes) rest
  room_was = (rooms t.room (length bytes) l.peer.room (sym told.room ∙ is.took.fits)).2

  waits : unsent_of t.conn ≡ bytes ++ unsent_of l.conn
  waits = ap unsent_of (sym told.conn) ∙ is.waited

  fails_is : l.peer.fails_next ≡ Some t.fails_next
  fails_is = ap (λ (p : Peer). p.fails_next) is.took.rest ∙ told.fails_next

  taken : take (length bytes) (unsent_of t.conn) ≡ bytes
  taken = ap (take (length bytes)) waits ∙ take-front bytes (unsent_of l.conn) (length bytes) refl

  -- so much is told after these bytes
  after_is : Tells l (after t (length bytes))
  after_is = record {
    conn = is.conn ∙ ap (sent_off (length bytes)) told.conn;
    sent = ap (λ (p : Peer). p.sent) is.took.rest
        ∙ ap (λ (o : Option (List ℕ)). append_known o bytes) told.sent
        ∙ ap (λ (bs : List ℕ). Some (t.sent ++ bs)) (sym taken);
    left = ap (λ (p : Peer). p.left) is.took.rest ∙ told.left;
    peer_ended = ap (λ (p : Peer). p.peer_ended) is.took.rest ∙ told.peer_ended;
    room = room_is ∙ ap Some (room-back t.room rest (length bytes) room_was);
    fails_next = fails_is;
  }

  -- the last call didn't fail, and what the link took is known
  if_counted : breaks t ≡ false → count_of t ≡ length bytes → Tells m (after t (length bytes)) → Tells m (sends t)
  if_counted whole counted next = subst (λ (x : Told). Tells m x) (sym (sends-on t (length bytes) whole counted)) next

  -- bytes were sent only where no call was to fail
  none_if : t.fails_next ≡ true → bytes ≡ []
  none_if fails = none_given bytes (λ more. both_ways t.fails_next (goes_is k.peer t.fails_next told.fails_next (is.took.goes more)) fails)

  all_sent : unsent_of l.conn ≡ [] → unsent_of t.conn ≡ bytes
  all_sent none = waits ∙ ap (λ (u : List ℕ). bytes ++ u) none ∙ append-nil bytes

  whole_by : (b : Bool) → t.fails_next ≡ b → unsent_of l.conn ≡ [] → breaks t ≡ false
  whole_by true was none =
      let nothing : unsent_of t.conn ≡ [] = all_sent none ∙ none_if was in
      rw (was, nothing) refl
  whole_by false was none = rw was refl

  if_empty : unsent_of l.conn ≡ [] → m ≡ l → Tells m (sends t)
  if_empty none same =
      let counted : count_of t ≡ length bytes = ap (λ (u : List ℕ). room_for t.room (length u)) (all_sent none) ∙ for-all t.room rest (length bytes) room_was in
      if_counted (whole_by t.fails_next refl none) counted (subst (λ (x : Linked). Tells x (after t (length bytes))) (sym same) after_is)

  if_held : IsHeldUp l m → Tells m (sends t)
  if_held held =
      let full : rest ≡ Some 0 = if_some (λ (r : Option ℕ). r ≡ Some 0) l.peer.room rest room_is held.full in
      let goes : t.fails_next ≡ false = goes_is l.peer t.fails_next fails_is held.link.0 in
      let whole : breaks t ≡ false = rw goes refl in
      let most : length bytes ≤ length (unsent_of t.conn) = omega (arith, ap length waits, length-append bytes (unsent_of l.conn)) in
      let counted : count_of t ≡ length bytes = for-full t.room rest (length bytes) (length (unsent_of t.conn)) room_was full most in
      let same = held.link.1 in
      if_counted whole counted (record {
        conn = held.conn ∙ after_is.conn;
        sent = ap (λ (p : Peer). p.sent) same ∙ after_is.sent;
        left = ap (λ (p : Peer). p.left) same ∙ after_is.left;
        peer_ended = ap (λ (p : Peer). p.peer_ended) same ∙ after_is.peer_ended;
        room = ap (λ (p : Peer). p.room) same ∙ after_is.room;
        fails_next = ap (λ (p : Peer). p.fails_next) same ∙ fails_is;
      })

  if_fails : 0 < length (unsent_of l.conn) → Fails l m → Tells m (sends t)
  if_fails some fails =
      let fore = foretold_is l.peer m.peer t.fails_next fails_is later fails.link.1 in
      let none : bytes ≡ [] = none_if fore.0 in
      let more : 0 < length (unsent_of t.conn) = omega (arith, some, ap length waits, length-append bytes (unsent_of l.conn)) in
      let breaks_is : breaks t ≡ true = rw fore.0 (lt-ltb 0 (length (unsent_of t.conn)) more) in
      let before : Tells l t = subst (λ (x : Told). Tells l x) (ap (λ (bs : List ℕ). after t (length bs)) none ∙ after-none t) after_is in
      let same = fails.link.2 in
      subst (λ (x : Told). Tells m x) (sym (sends-broken t breaks_is)) (record {
        conn = fails.conn ∙ ap (closed reasons.LinkFault) before.conn;
        sent = ap (λ (p : Peer). p.sent) same ∙ before.sent;
        left = ap (λ (p : Peer). p.left) same ∙ before.left;
        peer_ended = ap (λ (p : Peer). p.peer_ended) same ∙ before.peer_ended;
        room = ap (λ (p : Peer). p.room) same ∙ before.room;
        fails_next = fore.1;
      })

pub sends-told : (k m : Linked) (t : Told) → Tells k t → IsSome m.peer.fails_next → Sends k m → Tells m (sends t)
sends-told k m t told later s =
    ⊎_elim
    (λ none. if_empty k s.sent m t s.bytes told later s.is_sent none.0 none.1)
    (λ some.
    ⊎_elim
    (λ fails. if_fails k s.sent m t s.bytes told later s.is_sent some.0 fails)
    (λ held. if_held k s.sent m t s.bytes told later s.is_sent held)
    some.1)
    s.stops

pub passes-told : (k m : Linked) (t : Told) → Tells k t → IsSome m.peer.fails_next → Passes k m → Tells m (passed t)
passes-told k m t told later p =
    let same : m.peer ≡ p.after.peer = ap (λ (x : Linked). x.peer) p.is in
    let sent = sends-told k p.after t told (subst (λ (x : Peer). IsSome x.fails_next) same later) p.sends in
    record {
      conn = ap (λ (x : Linked). x.conn) p.is ∙ ap finished sent.conn;
      sent = ap (λ (x : Peer). x.sent) same ∙ sent.sent;
      left = ap (λ (x : Peer). x.left) same ∙ sent.left;
      peer_ended = ap (λ (x : Peer). x.peer_ended) same ∙ sent.peer_ended;
      room = ap (λ (x : Peer). x.room) same ∙ sent.room;
      fails_next = ap (λ (x : Peer). x.fails_next) same ∙ sent.fails_next;
    }
