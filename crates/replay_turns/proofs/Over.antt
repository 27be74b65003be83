-- What a turn makes of connections over links in memory.
use Rattle.std.proofs.Common.{◌≡◌, ℕ, Bool, true, false, List, Option, Some, None, is_some, option_map, refl, ap, ◌∙◌}
use Rattle.std.specs.Prelude.{if◌then◌else◌, IsSome, unwrap_or}
use Rattle.std.proofs.lemmas.Bool.{both_ways}
use Rattle.request_types.specs.declared.connections.ConnId.{ConnId}
use Rattle.request_types.specs.Ids.{is_listed}
use Rattle.hs_outside.specs.MemoryLink.{LinkInMemory, known_link, fresh_link}
use Rattle.line_pipeline.specs.declared.conns.Conn.{Conn}
use Rattle.line_pipeline.specs.Gathered.{conn_or_none, conn_of}
use Rattle.line_pipeline.specs.Table.{conn_at, is_held}
use Rattle.batch_worker.specs.Linked.{LinkTable, Linked, beside, linked_at, link_at, Went, Each}
use Rattle.batch_worker.specs.Receiving.{Receives}
use Rattle.batch_worker.specs.Sending.{Passes}
use Rattle.batch_worker.specs.Told.{Told, Tells, received, passed}
use Rattle.batch_worker.proofs.TellsReceived.{receives-told, some_list, some_bool}
use Rattle.batch_worker.proofs.TellsSent.{passes-told, some_room}
use Rattle.batch_worker.proofs.Before.{receives-before, passes-before}
use Rattle.replay_turns.specs.Entries.{link_of, told_of}

-- a connection beside its link
abbrev pub at : LinkTable LinkInMemory → ConnId → Linked
at t x = record { conn = conn_of t.table.conns x; peer = known_link (link_of t.links x) }

-- what is told of it
abbrev pub told_at : LinkTable LinkInMemory → ConnId → Told
told_at t x = told_of (conn_of t.table.conns x) (link_of t.links x)

went-by : (R : Linked → Linked → Type 0) (o p : Option Conn) (l m : Option LinkInMemory) → Went R (beside o (option_map known_link l)) (beside p (option_map known_link m)) → R (record { conn = conn_or_none o; peer = known_link (unwrap_or l fresh_link) }) (record { conn = conn_or_none p; peer = known_link (unwrap_or m fresh_link) })
went-by R None p l m went = absurd went
went-by R (Some c) p None m went = absurd went
went-by R (Some c) None (Some k) m went = absurd went
went-by R (Some c) (Some d) (Some k) None went = absurd went
went-by R (Some c) (Some d) (Some k) (Some n) went = went

pub went-is : (R : Linked → Linked → Type 0) (t u : LinkTable LinkInMemory) (x : ConnId) → Went R (linked_at known_link t x) (linked_at known_link u x) → R (at t x) (at u x)
went-is R t u x went = went-by R (conn_at t.table.conns x) (conn_at u.table.conns x) (link_at t.links x) (link_at u.links x) went

-- ---- a link to which no memory was refused tells all

told-by : (b f : Bool) → b ≡ false → (if b then None else Some f) ≡ Some f
told-by b f is = rw is refl

pub tells-own : (t : LinkTable LinkInMemory) (x : ConnId) → (link_of t.links x).is_short ≡ false → Tells (at t x) (told_at t x)
tells-own t x long = record {
  conn = refl;
  sent = refl;
  left = refl;
  peer_ended = refl;
  room = refl;
  fails_next = told-by (link_of t.links x).is_short (link_of t.links x).fails_next long;
}

pub is-told : (l : LinkInMemory) → l.is_short ≡ false → IsSome (known_link l).fails_next
is-told l long = ap (λ (o : Option Bool). is_some o) (told-by l.is_short l.fails_next long)

long-by : (b f : Bool) → IsSome (if b then None else Some f) → b ≡ false
long-by true f told = absurd (both_ways false refl told)
long-by false f told = refl

pub is-long : (l : LinkInMemory) → IsSome (known_link l).fails_next → l.is_short ≡ false
is-long l told = long-by l.is_short l.fails_next told

fails-by : (b f g : Bool) → (if b then None else Some f) ≡ Some g → f ≡ g
fails-by true f g is = absurd (none_some is)
  where
    none_some : ◌≡◌ {A = Option Bool} None (Some g) → ⊥
    none_some is = cc
fails-by false f g is = some_bool f g is

pub told-is : (u : LinkTable LinkInMemory) (x : ConnId) (t : Told) → Tells (at u x) t → told_at u x ≡ t
told-is u x t tells =
    let conn = conn_of u.table.conns x in
    let l = link_of u.links x in
    ap (λ (c : Conn). record { conn = c; sent = l.sent; left = l.left; peer_ended = l.peer_ended; room = l.room; fails_next = l.fails_next }) tells.conn
    ∙ ap (λ (s : List ℕ). record t { sent = s; left = l.left; peer_ended = l.peer_ended; room = l.room; fails_next = l.fails_next }) (some_list l.sent t.sent tells.sent)
    ∙ ap (λ (s : List ℕ). record t { left = s; peer_ended = l.peer_ended; room = l.room; fails_next = l.fails_next }) (some_list l.left t.left tells.left)
    ∙ ap (λ (b : Bool). record t { peer_ended = b; room = l.room; fails_next = l.fails_next }) (some_bool l.peer_ended t.peer_ended tells.peer_ended)
    ∙ ap (λ (r : Option ℕ). record t { room = r; fails_next = l.fails_next }) (some_room l.room t.room tells.room)
    ∙ ap (λ (b : Bool). record t { fails_next = b }) (fails-by l.is_short l.fails_next t.fails_next tells.fails_next)

-- ---- each of the listed

module _ (ids : List ConnId) (t u : LinkTable LinkInMemory) where
  pub received-is : Each known_link Receives ids t u → (x : ConnId) → is_held t.table.conns x ≡ true → is_listed ids x ≡ true → (link_of u.links x).is_short ≡ false → told_at u x ≡ received (told_at t x)
  received-is each x held listed long =
      let went = went-is Receives t u x (each.listed x listed held) in
      let later = is-told (link_of u.links x) long in
      let before = is-long (link_of t.links x) (receives-before (at t x) (at u x) later went) in
      told-is u x (received (told_at t x)) (receives-told (at t x) (at u x) (told_at t x) (tells-own t x before) later went)

  pub passed-is : Each known_link Passes ids t u → (x : ConnId) → is_held t.table.conns x ≡ true → is_listed ids x ≡ true → (link_of u.links x).is_short ≡ false → told_at u x ≡ passed (told_at t x)
  passed-is each x held listed long =
      let went = went-is Passes t u x (each.listed x listed held) in
      let later = is-told (link_of u.links x) long in
      let before = is-long (link_of t.links x) (passes-before (at t x) (at u x) later went) in
      told-is u x (passed (told_at t x)) (passes-told (at t x) (at u x) (told_at t x) (tells-own t x before) later went)

  pub passed-long : Each known_link Passes ids t u → (x : ConnId) → is_held t.table.conns x ≡ true → is_listed ids x ≡ true → (link_of u.links x).is_short ≡ false → (link_of t.links x).is_short ≡ false
  passed-long each x held listed long =
      is-long (link_of t.links x) (passes-before (at t x) (at u x) (is-told (link_of u.links x) long) (went-is Passes t u x (each.listed x listed held)))

  pub same-is : (R : Linked → Linked → Type 0) → Each known_link R ids t u → (x : ConnId) → is_held t.table.conns x ≡ true → is_listed ids x ≡ false → told_at u x ≡ told_at t x
  same-is R each x held other =
      ap (λ (o : Option Conn). told_of (conn_or_none o) (link_of u.links x)) (each.conns x other)
      ∙ ap (λ (o : Option LinkInMemory). told_of (conn_of t.table.conns x) (unwrap_or o fresh_link)) (each.links x other held)
