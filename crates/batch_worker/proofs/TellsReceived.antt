-- Over a link that tells all, what a connection receives is fixed.
use Rattle.std.proofs.Common.{◌≡◌, ℕ, ◌-◌, ◌<◌, ◌≤◌, Bool, true, false, ◌&&◌, eqb, List, [], ◌∷◌, ◌++◌, length, take, drop, Option, Some, None, IfSome, refl, sym, ap, subst, ◌∙◌, ⊎_elim, arith, length-append}
use Rattle.std.specs.Prelude.{if◌then◌else◌, nat_lt, IsSome, unwrap_or}
use Rattle.std.proofs.lemmas.Bool.{cases_Bool, eqb-false, eqb-true, eq-eqb, ne_eqb, lt-ltb, le-ltb, and_right, both_ways}
use Rattle.std.proofs.lemmas.List.{take_all, drop_all, append-nil}
use Rattle.std.specs.Io.KnownBytes.{prepend_known}
use Rattle.hs_outside.specs.Links.{Peer, Goes, Foretold}
use Rattle.line_pipeline.specs.declared.conns.Conn.{Conn}
use Rattle.line_pipeline.specs.declared.reasons.Reason.TheVariants as reasons
use Rattle.line_pipeline.specs.Conn.{room_of, fed, ended, closed}
use Rattle.batch_worker.specs.Linked.{Linked}
use Rattle.batch_worker.specs.Receiving.{Hears, Fails, HearsNothing, HearsEnd, Receives}
use Rattle.batch_worker.specs.Told.{Told, Tells, broken, meets_end, heard, received}
use Rattle.batch_worker.proofs.Rooms.{room-fed, fed-nothing}

pub some_list : (a b : List ℕ) → Some a ≡ Some b → a ≡ b
some_list a b is = ap (λ (o : Option (List ℕ)). unwrap_or o []) is

pub some_bool : (a b : Bool) → Some a ≡ Some b → a ≡ b
some_bool a b is = ap (λ (o : Option Bool). unwrap_or o false) is

-- what is said of something that is told
pub if_some : {X : Type 0} (P : X → Type 0) (o : Option X) (x : X) → o ≡ Some x → IfSome o P → P x
if_some {X} P o x is holds = subst (λ (p : Option X). IfSome p P) is holds

pub goes_is : (p : Peer) (fails : Bool) → p.fails_next ≡ Some fails → Goes p → fails ≡ false
goes_is p fails is goes = if_some (λ (f : Bool). f ≡ false) p.fails_next fails is goes

-- a link that fails and still tells was told to
pub foretold_is : (p q : Peer) (fails : Bool) → p.fails_next ≡ Some fails → IsSome q.fails_next → Foretold p q → (fails ≡ true) × (q.fails_next ≡ Some false)
foretold_is p q fails is told fore =
    ⊎_elim
    (λ none. absurd (both_ways false refl (subst (λ (o : Option Bool). IsSome o) none told)))
    (λ both. (some_bool fails true (sym is ∙ both.0), both.1))
    fore

-- bytes that were given, of those that were left
split : (left bytes : List ℕ) (o : Option (List ℕ)) → Some left ≡ prepend_known bytes o → (rest : List ℕ) × (o ≡ Some rest) × (left ≡ bytes ++ rest)
split left bytes None is = absurd (some_none is)
  where
    some_none : ◌≡◌ {A = Option (List ℕ)} (Some left) None → ⊥
    some_none is = cc
split left bytes (Some rest) is = (rest, refl, some_list left (bytes ++ rest) is)

pub take-front : (front rest : List ℕ) (n : ℕ) → n ≡ length front → take n (front ++ rest) ≡ front
take-front [] rest n is = ap (λ (k : ℕ). take k rest) is
take-front (b ∷ front) rest n is =
    ap (λ (k : ℕ). take k (b ∷ (front ++ rest))) is ∙ ap (λ (t : List ℕ). b ∷ t) (take-front front rest (length front) refl)

drop-front : (front rest : List ℕ) (n : ℕ) → n ≡ length front → drop n (front ++ rest) ≡ rest
drop-front [] rest n is = ap (λ (k : ℕ). drop k rest) is
drop-front (b ∷ front) rest n is =
    ap (λ (k : ℕ). drop k (b ∷ (front ++ rest))) is ∙ drop-front front rest (length front) refl

pub none_given : (bytes : List ℕ) → (0 < length bytes → ⊥) → bytes ≡ []
none_given [] none = refl
none_given (b ∷ bytes) none = absurd (none (omega arith))

-- ---- by cases of what is told

received-full : (t : Told) → room_of t.conn ≡ 0 → received t ≡ t
received-full t full = rw (eq-eqb (room_of t.conn) 0 full) refl

received-broken : (t : Told) → 0 < room_of t.conn → t.fails_next ≡ true → received t ≡ broken t
received-broken t some fails = rw (ne_eqb (room_of t.conn) 0 (λ is. omega (arith, some, is)), fails) refl

and_true : (b : Bool) → (b && true) ≡ b
and_true true = refl
and_true false = refl

received-on : (t : Told) (b : Bool) → 0 < room_of t.conn → t.fails_next ≡ false → meets_end t ≡ b → received t ≡ record t { conn = if b then ended (heard t) else heard t; left = drop (room_of t.conn) t.left }
received-on t b some goes meets = rw (ne_eqb (room_of t.conn) 0 (λ is. omega (arith, some, is)), goes, meets) refl

module _ (k l m : Linked) (t : Told) (bytes : List ℕ) (told : Tells k t) (later : IsSome m.peer.fails_next) (hears : Hears k l bytes) where
  abbrev rest : List ℕ
  rest = (split t.left bytes l.peer.left (sym told.left ∙ hears.gave.gave)).0

  left_is : l.peer.left ≡ Some rest
  left_is = (split t.left bytes l.peer.left (sym told.left ∙ hears.gave.gave)).1

  parts : t.left ≡ bytes ++ rest
  parts = (split t.left bytes l.peer.left (sym told.left ∙ hears.gave.gave)).2

  sent_is : l.peer.sent ≡ Some t.sent
  sent_is = ap (λ (p : Peer). p.sent) hears.gave.rest ∙ told.sent

  ended_is : l.peer.peer_ended ≡ Some t.peer_ended
  ended_is = ap (λ (p : Peer). p.peer_ended) hears.gave.rest ∙ told.peer_ended

  room_is : l.peer.room ≡ Some t.room
  room_is = ap (λ (p : Peer). p.room) hears.gave.rest ∙ told.room

  fails_is : l.peer.fails_next ≡ Some t.fails_next
  fails_is = ap (λ (p : Peer). p.fails_next) hears.gave.rest ∙ told.fails_next

  conn_is : l.conn ≡ fed bytes t.conn
  conn_is = hears.conn ∙ ap (fed bytes) told.conn

  few : length bytes ≤ room_of t.conn
  few = omega (arith, hears.fits, ap room_of told.conn)

  room_left : room_of l.conn ≡ room_of t.conn - length bytes
  room_left = ap room_of conn_is ∙ room-fed bytes t.conn

  -- no byte was given
  nothing : bytes ≡ [] → Tells l t
  nothing none = record {
    conn = conn_is ∙ ap (λ (bs : List ℕ). fed bs t.conn) none ∙ fed-nothing t.conn;
    sent = sent_is;
    left = left_is ∙ ap Some (sym (parts ∙ ap (λ (bs : List ℕ). bs ++ rest) none));
    peer_ended = ended_is;
    room = room_is;
    fails_next = fails_is;
  }

  if_full : room_of t.conn ≡ 0 → m ≡ l → Tells m (received t)
  if_full full same =
      let none : bytes ≡ [] = none_given bytes (λ more. omega (arith, more, few, full)) in
      subst (λ (x : Told). Tells m x) (sym (received-full t full)) (subst (λ (x : Linked). Tells x t) (sym same) (nothing none))

  if_failed : 0 < room_of t.conn → Fails l m → Tells m (received t)
  if_failed some fails =
      let fore = foretold_is l.peer m.peer t.fails_next fails_is later fails.link.1 in
      let none : bytes ≡ [] = none_given bytes (λ more. both_ways t.fails_next (goes_is k.peer t.fails_next told.fails_next (hears.gave.goes more)) fore.0) in
      let before = nothing none in
      subst (λ (x : Told). Tells m x) (sym (received-broken t some fore.0)) (record {
        conn = fails.conn ∙ ap (closed reasons.LinkFault) before.conn;
        sent = ap (λ (p : Peer). p.sent) fails.link.2 ∙ sent_is;
        left = ap (λ (p : Peer). p.left) fails.link.2 ∙ before.left;
        peer_ended = ap (λ (p : Peer). p.peer_ended) fails.link.2 ∙ ended_is;
        room = ap (λ (p : Peer). p.room) fails.link.2 ∙ room_is;
        fails_next = fore.1;
      })

  -- as many bytes as there is room for
  if_filled : 0 < room_of t.conn → room_of l.conn ≡ 0 → m ≡ l → Tells m (received t)
  if_filled some full same =
      let len : room_of t.conn ≡ length bytes = omega (arith, full, room_left, few) in
      let goes : t.fails_next ≡ false = goes_is k.peer t.fails_next told.fails_next (hears.gave.goes (omega (arith, some, len))) in
      let much : room_of t.conn ≤ length t.left = omega (arith, len, ap length parts, length-append bytes rest) in
      let meets : meets_end t ≡ false = and_right t.peer_ended (nat_lt (length t.left) (room_of t.conn)) (le-ltb (length t.left) (room_of t.conn) much) in
      let taken : take (room_of t.conn) t.left ≡ bytes = ap (take (room_of t.conn)) parts ∙ take-front bytes rest (room_of t.conn) len in
      let over : drop (room_of t.conn) t.left ≡ rest = ap (drop (room_of t.conn)) parts ∙ drop-front bytes rest (room_of t.conn) len in
      subst (λ (x : Told). Tells m x) (sym (received-on t false some goes meets))
      (subst (λ (x : Linked). Tells x (record t { conn = heard t; left = drop (room_of t.conn) t.left })) (sym same) (record {
        conn = conn_is ∙ ap (λ (bs : List ℕ). fed bs t.conn) (sym taken);
        sent = sent_is;
        left = left_is ∙ ap Some (sym over);
        peer_ended = ended_is;
        room = room_is;
        fails_next = fails_is;
      }))

  -- all bytes that were left
  if_all : (b : Bool) → 0 < room_of l.conn → t.fails_next ≡ false → rest ≡ [] → t.peer_ended ≡ b → m.conn ≡ (if b then ended l.conn else l.conn) → m.peer.left ≡ l.peer.left → m.peer.peer_ended ≡ l.peer.peer_ended → m.peer.room ≡ l.peer.room → m.peer.fails_next ≡ l.peer.fails_next → m.peer.sent ≡ l.peer.sent → Tells m (received t)
  if_all b some goes none over conn e f g h i =
      let all : t.left ≡ bytes = parts ∙ ap (λ (bs : List ℕ). bytes ++ bs) none ∙ append-nil bytes in
      let less : length t.left < room_of t.conn = omega (arith, some, room_left, few, ap length all) in
      let room : 0 < room_of t.conn = omega (arith, less) in
      let meets : meets_end t ≡ b = rw (over, lt-ltb (length t.left) (room_of t.conn) less) (and_true b) in
      let taken : take (room_of t.conn) t.left ≡ bytes = take_all (room_of t.conn) t.left (omega (arith, less)) ∙ all in
      let gone : drop (room_of t.conn) t.left ≡ rest = drop_all (room_of t.conn) t.left (omega (arith, less)) ∙ sym none in
      subst (λ (x : Told). Tells m x) (sym (received-on t b room goes meets)) (record {
        conn = conn ∙ ap (λ (c : Conn). if b then ended c else c) (conn_is ∙ ap (λ (bs : List ℕ). fed bs t.conn) (sym taken));
        sent = i ∙ sent_is;
        left = e ∙ left_is ∙ ap Some (sym gone);
        peer_ended = f ∙ ended_is;
        room = g ∙ room_is;
        fails_next = h ∙ fails_is;
      })

  if_nothing : HearsNothing l m → 0 < room_of l.conn → Tells m (received t)
  if_nothing hears some =
      let none : rest ≡ [] = if_some (λ (left : List ℕ). left ≡ []) l.peer.left rest left_is hears.none.0 in
      let over : t.peer_ended ≡ false = if_some (λ (is : Bool). is ≡ false) l.peer.peer_ended t.peer_ended ended_is hears.none.1 in
      let same = hears.link.1 in
      if_all false some (goes_is l.peer t.fails_next fails_is hears.link.0) none over hears.conn
      (ap (λ (p : Peer). p.left) same) (ap (λ (p : Peer). p.peer_ended) same) (ap (λ (p : Peer). p.room) same) (ap (λ (p : Peer). p.fails_next) same) (ap (λ (p : Peer). p.sent) same)

  if_end : HearsEnd l m → 0 < room_of l.conn → Tells m (received t)
  if_end hears some =
      let none : rest ≡ [] = if_some (λ (left : List ℕ). left ≡ []) l.peer.left rest left_is hears.none.0 in
      let over : t.peer_ended ≡ true = if_some (λ (is : Bool). is ≡ true) l.peer.peer_ended t.peer_ended ended_is hears.none.1 in
      let same = hears.link in
      if_all true some (goes_is l.peer t.fails_next fails_is hears.goes) none over hears.conn
      (ap (λ (p : Peer). p.left) same) (ap (λ (p : Peer). p.peer_ended) same) (ap (λ (p : Peer). p.room) same) (ap (λ (p : Peer). p.fails_next) same) (ap (λ (p : Peer). p.sent) same)

pub receives-told : (k m : Linked) (t : Told) → Tells k t → IsSome m.peer.fails_next → Receives k m → Tells m (received t)
receives-told k m t told later r =
    let l = r.heard in
    let room : room_of l.conn ≡ room_of t.conn - length r.bytes = room_left k l m t r.bytes told later r.hears in
    ⊎_elim
    (λ full.
    ⊎_elim
    (λ was_full. if_full k l m t r.bytes told later r.hears (eqb-true (room_of t.conn) 0 was_full) full.1)
    (λ some. if_filled k l m t r.bytes told later r.hears (some_room (room_of t.conn) some) full.0 full.1)
    (cases_Bool (eqb (room_of t.conn) 0)))
    (λ on.
    ⊎_elim
    (λ fails. if_failed k l m t r.bytes told later r.hears (omega (arith, on.0, room)) fails)
    (λ goes.
    ⊎_elim
    (λ nothing. if_nothing k l m t r.bytes told later r.hears nothing on.0)
    (λ end. if_end k l m t r.bytes told later r.hears end on.0)
    goes)
    on.1)
    r.stops
  where
    some_room : (n : ℕ) → eqb n 0 ≡ false → 0 < n
    some_room n some = omega (arith, eqb-false n 0 some)
