-- What a change of one connection makes of all.
use Rattle.std.proofs.Common.{◌≡◌, ℕ, zero, suc, ◌<◌, Bool, true, false, ◌||◌, List, [], ◌∷◌, length, get_or, Option, Some, is_some, refl, sym, ap, subst, ◌∙◌, ⊎_elim, arith}
use Rattle.std.specs.Prelude.{if◌then◌else◌, unwrap_or}
use Rattle.std.specs.List.{AllByRecursion, remove}
use Rattle.std.proofs.lemmas.Bool.{cases_Bool, or_parts, both_ways}
use Rattle.request_types.specs.declared.connections.ConnId.{ConnId}
use Rattle.request_types.specs.Ids.{same_id, is_listed, are_once}
use Rattle.request_types.proofs.Ids.{same_id-refl, same_id-is, same_id-other, once-head, once-tail}
use Rattle.hs_outside.specs.MemoryLink.{LinkInMemory, fresh_link}
use Rattle.line_pipeline.specs.declared.conns.Conn.{Conn}
use Rattle.line_pipeline.specs.declared.conns.Conn.TheVariants as conns
use Rattle.line_pipeline.specs.declared.reasons.Reason.{Reason}
use Rattle.line_pipeline.specs.declared.reasons.ConnState.{ConnState}
use Rattle.line_pipeline.specs.declared.reasons.ConnState.TheVariants as states
use Rattle.line_pipeline.specs.Live.{Live}
use Rattle.line_pipeline.specs.Conn.{state_of}
use Rattle.line_pipeline.specs.Gathered.{conn_of, conn_or_none}
use Rattle.line_pipeline.specs.Table.{Table, conn_at, is_held, without}
use Rattle.batch_worker.specs.Linked.{LinkTable, link_at}
use Rattle.replay_turns.specs.declared.entries.Entry.{Entry}
use Rattle.replay_turns.specs.Connected.{Connected}
use Rattle.replay_turns.specs.Linked.{Linked, on}
use Rattle.replay_turns.specs.Told.{left_by}
use Rattle.replay_turns.specs.Sayings.{said, link_said}
use Rattle.replay_turns.specs.declared.sayings.Saying.{Saying}
use Rattle.replay_turns.specs.declared.sayings.Saying.TheVariants as sayings
use Rattle.replay_turns.specs.Entries.{beside, link_of, linked, all_linked, ids_of, AreEntries}
use Rattle.replay_turns.proofs.Lookups.{Found, below}

-- the connections that are held, but for this one, are as they were
pub record IsSame (id : ConnId) (cs : List (ConnId × Conn)) (links : List (Option LinkInMemory)) (cs2 : List (ConnId × Conn)) (links2 : List (Option LinkInMemory)) : Type 0 where
  pub conn : (x : ConnId) → is_held cs x ≡ true → same_id x id ≡ false → conn_at cs2 x ≡ conn_at cs x
  pub link : (x : ConnId) → is_held cs x ≡ true → same_id x id ≡ false → link_of links2 x ≡ link_of links x

-- the connections of these entries are held
abbrev pub AreHeld : List (ConnId × Conn) → List Entry → Type 0
AreHeld cs es = AllByRecursion (λ (e : Entry). is_held cs e.id ≡ true) es

held_all : (cs : List (ConnId × Conn)) (es : List Entry) → ((x : ConnId) → is_listed (ids_of es) x ≡ true → is_held cs x ≡ true) → AreHeld cs es
held_all cs [] held = tt
held_all cs (e ∷ es) held = (held e.id (rw (same_id-refl e.id) refl), held_all cs es (λ x listed. held x (more x listed)))
  where
    more : (x : ConnId) → is_listed (ids_of es) x ≡ true → is_listed (ids_of (e ∷ es)) x ≡ true
    more x listed = ⊎_elim (λ same. rw same refl) (λ other. rw other listed) (cases_Bool (same_id x e.id))

pub held_of : (cs : List (ConnId × Conn)) (es : List Entry) → AreEntries cs es → AreHeld cs es
held_of cs es are = held_all cs es (λ x listed. are.held x ∙ listed)

pub id-listed : (es : List Entry) (at : ℕ) (d : Entry) → at < length es → is_listed (ids_of es) (get_or es at d).id ≡ true
id-listed [] at d under = absurd (omega (arith, under))
id-listed (e ∷ es) zero d under = rw (same_id-refl e.id) refl
id-listed (e ∷ es) (suc at) d under =
    ⊎_elim
    (λ same. rw same refl)
    (λ other. rw other (id-listed es at d (omega (arith, under))))
    (cases_Bool (same_id (get_or es at d).id e.id))

-- the connection of an entry is held
pub held-found : (cs : List (ConnId × Conn)) (es : List Entry) (at : ℕ) (e : Entry) → at < length es → e ≡ get_or es at e → AreEntries cs es → is_held cs e.id ≡ true
held-found cs es at e under is are = ap (λ (f : Entry). is_held cs f.id) is ∙ are.held (get_or es at e).id ∙ id-listed es at e under

-- an id that is listed is none that isn't
pub apart : (ids : List ConnId) (id other : ConnId) → is_listed ids id ≡ true → is_listed ids other ≡ false → same_id other id ≡ false
apart ids id other is none =
    ⊎_elim
    (λ same. absurd (both_ways (is_listed ids other) none (subst (λ (x : ConnId). is_listed ids x ≡ true) (sym (same_id-is other id same)) is)))
    (λ different. different)
    (cases_Bool (same_id other id))

module _ (id : ConnId) (cs : List (ConnId × Conn)) (links : List (Option LinkInMemory)) (cs2 : List (ConnId × Conn)) (links2 : List (Option LinkInMemory)) (same : IsSame id cs links cs2 links2) where
  linked-other : (e : Entry) → is_held cs e.id ≡ true → same_id e.id id ≡ false → linked cs2 links2 e ≡ linked cs links e
  linked-other e held other =
      ap (λ (o : Option Conn). beside (conn_or_none o) (link_of links2 e.id) e) (same.conn e.id held other)
      ∙ ap (λ (link : LinkInMemory). beside (conn_of cs e.id) link e) (same.link e.id held other)

  pub all_linked-other : (es : List Entry) → AreHeld cs es → is_listed (ids_of es) id ≡ false → all_linked cs2 links2 es ≡ all_linked cs links es
  all_linked-other [] held none = refl
  all_linked-other (e ∷ es) held none =
      let parts = or_parts (same_id id e.id) (is_listed (ids_of es) id) none in
      rw (linked-other e held.0 (same_id-other id e.id parts.0), all_linked-other es held.1 parts.1) refl

  pub on_at : (number : ℕ) (g : Linked → Linked) (es : List Entry) (at : ℕ) (d : Entry) → Found number es at → are_once (ids_of es) ≡ true → AreHeld cs es → (get_or es at d).id ≡ id → linked cs2 links2 (get_or es at d) ≡ g (linked cs links (get_or es at d)) → all_linked cs2 links2 es ≡ on number g (all_linked cs links es)
  on_at number g [] at d is once held own goes = absurd is
  on_at number g (e ∷ es) zero d is once held own goes =
      let none : is_listed (ids_of es) id ≡ false = subst (λ (x : ConnId). is_listed (ids_of es) x ≡ false) own (once-head e.id (ids_of es) once) in
      rw (is, goes, all_linked-other es held.1 none) refl
  on_at number g (e ∷ es) (suc at) d is once held own goes =
      let there : is_listed (ids_of es) id ≡ true = subst (λ (x : ConnId). is_listed (ids_of es) x ≡ true) own (id-listed es at d (below number es at is.1)) in
      let other : same_id e.id id ≡ false = apart (ids_of es) id e.id there (once-head e.id (ids_of es) once) in
      rw (is.0, linked-other e held.0 other, on_at number g es at d is.1 (once-tail e.id (ids_of es) once) held.1 own goes) refl

  -- it goes
  pub gone_at : (number : ℕ) (es : List Entry) (at : ℕ) (d : Entry) (reason : Reason) → Found number es at → are_once (ids_of es) ≡ true → AreHeld cs es → (get_or es at d).id ≡ id → conn_of cs id ≡ conns.Closed reason → all_linked cs2 links2 (remove es at) ≡ left_by number (all_linked cs links es)
  gone_at number [] at d reason is once held own over = absurd is
  gone_at number (e ∷ es) zero d reason is once held own over =
      let none : is_listed (ids_of es) id ≡ false = subst (λ (x : ConnId). is_listed (ids_of es) x ≡ false) own (once-head e.id (ids_of es) once) in
      let closed : conn_of cs e.id ≡ conns.Closed reason = ap (conn_of cs) own ∙ over in
      rw is (rw closed (all_linked-other es held.1 none))
  gone_at number (e ∷ es) (suc at) d reason is once held own over =
      let there : is_listed (ids_of es) id ≡ true = subst (λ (x : ConnId). is_listed (ids_of es) x ≡ true) own (id-listed es at d (below number es at is.1)) in
      let other : same_id e.id id ≡ false = apart (ids_of es) id e.id there (once-head e.id (ids_of es) once) in
      rw (is.0, linked-other e held.0 other, gone_at number es at d reason is.1 (once-tail e.id (ids_of es) once) held.1 own over) refl

-- it stays
pub stays_at : (cs : List (ConnId × Conn)) (links : List (Option LinkInMemory)) (number : ℕ) (es : List Entry) (at : ℕ) (d : Entry) (l : Live) → Found number es at → conn_of cs (get_or es at d).id ≡ conns.Live l → all_linked cs links es ≡ left_by number (all_linked cs links es)
stays_at cs links number [] at d l is live = absurd is
stays_at cs links number (e ∷ es) zero d l is live = rw is (rw live refl)
stays_at cs links number (e ∷ es) (suc at) d l is live = rw is.0 (ap (λ (ls : List Linked). linked cs links e ∷ ls) (stays_at cs links number es at d l is.1 live))

-- ---- what is kept of entries

pub are-still : (cs cs2 : List (ConnId × Conn)) (es : List Entry) → ((x : ConnId) → is_held cs2 x ≡ is_held cs x) → AreEntries cs es → AreEntries cs2 es
are-still cs cs2 es held are = record { once = are.once; held = λ x. held x ∙ are.held x }

-- one link was replaced by another, and that by a third
module _ (t m u : LinkTable LinkInMemory) (id : ConnId) (first : m.table ≡ t.table) (kept : (x : ConnId) → is_held t.table.conns x ≡ true → same_id x id ≡ false → link_at m.links x ≡ link_at t.links x) (second : u.table ≡ m.table) (again : (x : ConnId) → is_held m.table.conns x ≡ true → same_id x id ≡ false → link_at u.links x ≡ link_at m.links x) where
  pub replaced-same : IsSame id t.table.conns t.links u.table.conns u.links
  replaced-same = record {
    conn = λ x held other. ap (λ (k : Table). conn_at k.conns x) (second ∙ first);
    link = λ x held other. ap (λ (o : Option LinkInMemory). unwrap_or o fresh_link) (again x (ap (λ (k : Table). is_held k.conns x) first ∙ held) other ∙ kept x held other);
  }

  pub replaced-are : (es : List Entry) → AreEntries t.table.conns es → AreEntries u.table.conns es
  replaced-are es are = subst (λ (k : Table). AreEntries k.conns es) (sym (second ∙ first)) are

-- ---- what contracts see

abbrev pub seen : Table → List Linked → Connected
seen t ls = record { schema = t.schema; secrets = t.secrets; conns = ls }

pub view_on : (t u : Table) (ls later : List Linked) (v : Connected) (F : List Linked → List Linked) → u ≡ record t { conns = u.conns } → later ≡ F ls → seen t ls ≡ v → seen u later ≡ record v { conns = F v.conns }
view_on t u ls later v F rest is view =
    subst (λ (w : Connected). seen u later ≡ record w { conns = F w.conns }) view
    (ap (λ (x : Table). seen x later) rest ∙ ap (seen t) is)

-- nothing of a table was changed
pub rest-same : (t u : Table) → u ≡ t → u ≡ record t { conns = u.conns }
rest-same t u is = is ∙ ap (λ (k : Table). record t { conns = k.conns }) (sym is)

-- the connection of an entry, by what it and its link are now
pub linked-now : (cs : List (ConnId × Conn)) (links : List (Option LinkInMemory)) (f : Entry) (conn : Conn) (link : LinkInMemory) → conn_of cs f.id ≡ conn → link_of links f.id ≡ link → linked cs links f ≡ beside conn link f
linked-now cs links f conn link first second =
    ap (λ (c : Conn). beside c (link_of links f.id) f) first ∙ ap (λ (l : LinkInMemory). beside conn l f) second

pub said-is : (s : Saying) (conn : Conn) (link : LinkInMemory) (f : Entry) → beside conn (link_said s link) f ≡ said s (beside conn link f)
said-is sayings.PeerEnds conn link f = refl
said-is (sayings.Room count) conn link f = refl
said-is sayings.FailsNext conn link f = refl

-- ---- an entry goes

unlisted-gone : (es : List Entry) (at : ℕ) (id : ConnId) → is_listed (ids_of es) id ≡ false → is_listed (ids_of (remove es at)) id ≡ false
unlisted-gone [] zero id none = refl
unlisted-gone [] (suc at) id none = refl
unlisted-gone (e ∷ es) zero id none = (or_parts (same_id id e.id) (is_listed (ids_of es) id) none).1
unlisted-gone (e ∷ es) (suc at) id none =
    let parts = or_parts (same_id id e.id) (is_listed (ids_of es) id) none in
    rw parts.0 (unlisted-gone es at id parts.1)

once-gone : (es : List Entry) (at : ℕ) → are_once (ids_of es) ≡ true → are_once (ids_of (remove es at)) ≡ true
once-gone [] zero once = refl
once-gone [] (suc at) once = refl
once-gone (e ∷ es) zero once = once-tail e.id (ids_of es) once
once-gone (e ∷ es) (suc at) once =
    rw (unlisted-gone es at e.id (once-head e.id (ids_of es) once)) (once-gone es at (once-tail e.id (ids_of es) once))

gone-other : (d : Entry) (es : List Entry) (at : ℕ) (x : ConnId) → at < length es → same_id x (get_or es at d).id ≡ false → is_listed (ids_of (remove es at)) x ≡ is_listed (ids_of es) x
gone-other d [] at x under other = absurd (omega (arith, under))
gone-other d (e ∷ es) zero x under other = rw other refl
gone-other d (e ∷ es) (suc at) x under other = ap (λ (b : Bool). same_id x e.id || b) (gone-other d es at x (omega (arith, under)) other)

gone-own : (d : Entry) (es : List Entry) (at : ℕ) → at < length es → are_once (ids_of es) ≡ true → is_listed (ids_of (remove es at)) (get_or es at d).id ≡ false
gone-own d [] at under once = absurd (omega (arith, under))
gone-own d (e ∷ es) zero under once = once-head e.id (ids_of es) once
gone-own d (e ∷ es) (suc at) under once =
    let id = (get_or es at d).id in
    let other : same_id e.id id ≡ false = apart (ids_of es) id e.id (id-listed es at d (omega (arith, under))) (once-head e.id (ids_of es) once) in
    rw (same_id-other e.id id other) (gone-own d es at (omega (arith, under)) (once-tail e.id (ids_of es) once))

pub without-others : (id : ConnId) (cs : List (ConnId × Conn)) (x : ConnId) → same_id x id ≡ false → conn_at (without id cs) x ≡ conn_at cs x
without-others id [] x different = refl
without-others id (c ∷ cs) x different =
    ⊎_elim
    (λ same.
    let here : same_id c.0 x ≡ false = subst (λ (y : ConnId). same_id y x ≡ false) (sym (same_id-is c.0 id same)) (same_id-other x id different) in
    rw same (rw here (without-others id cs x different)))
    (λ kept. rw kept (ap (λ (o : Option Conn). if same_id c.0 x then Some c.1 else o) (without-others id cs x different)))
    (cases_Bool (same_id c.0 id))

pub without-own : (id : ConnId) (cs : List (ConnId × Conn)) → is_held (without id cs) id ≡ false
without-own id [] = refl
without-own id (c ∷ cs) =
    ⊎_elim
    (λ same. rw same (without-own id cs))
    (λ kept. rw kept (rw kept (without-own id cs)))
    (cases_Bool (same_id c.0 id))

pub are-gone : (cs cs2 : List (ConnId × Conn)) (d : Entry) (es : List Entry) (at : ℕ) → at < length es → cs2 ≡ without (get_or es at d).id cs → AreEntries cs es → AreEntries cs2 (remove es at)
are-gone cs cs2 d es at under is are =
    let id = (get_or es at d).id in
    record {
      once = once-gone es at are.once;
      held = λ x.
          ap (λ (k : List (ConnId × Conn)). is_held k x) is
          ∙ ⊎_elim
          (λ own. ap (is_held (without id cs)) (same_id-is x id own) ∙ without-own id cs ∙ sym (gone-own d es at under are.once) ∙ ap (is_listed (ids_of (remove es at))) (sym (same_id-is x id own)))
          (λ other. ap (λ (o : Option Conn). is_some o) (without-others id cs x other) ∙ are.held x ∙ sym (gone-other d es at x under other))
          (cases_Bool (same_id x id));
    }

pub same-gone : (id : ConnId) (cs cs2 : List (ConnId × Conn)) (links links2 : List (Option LinkInMemory)) → cs2 ≡ without id cs → ((x : ConnId) → is_held cs2 x ≡ true → link_at links2 x ≡ link_at links x) → IsSame id cs links cs2 links2
same-gone id cs cs2 links links2 is kept =
    let others : (x : ConnId) → same_id x id ≡ false → conn_at cs2 x ≡ conn_at cs x = λ x other. ap (λ (k : List (ConnId × Conn)). conn_at k x) is ∙ without-others id cs x other in
    record {
      conn = λ x held other. others x other;
      link = λ x held other. ap (λ (o : Option LinkInMemory). unwrap_or o fresh_link) (kept x (ap (λ (o : Option Conn). is_some o) (others x other) ∙ held));
    }

-- ---- whether it is closed

pub closed-is : (conn : Conn) (state : ConnState) (reason : Reason) → state_of conn ≡ state → state ≡ states.Closed reason → conn ≡ conns.Closed reason
closed-is (conns.Live l) state reason is over = cc
closed-is (conns.Closed first) state reason is over = ap conns.Closed (same first reason (is ∙ over)) where
  same : (a b : Reason) → ◌≡◌ {A = ConnState} (states.Closed a) (states.Closed b) → a ≡ b
  same a b is = cc

pub live-is : (conn : Conn) (state : ConnState) → state_of conn ≡ state → ((reason : Reason) → state ≡ states.Closed reason → ⊥) → (l : Live) × (conn ≡ conns.Live l)
live-is (conns.Live l) state is not = (l, refl)
live-is (conns.Closed reason) state is not = absurd (not reason (sym is))

pub lives-is : (conn : Conn) (state : ConnState) → state_of conn ≡ state → state ≡ states.Live → (l : Live) × (conn ≡ conns.Live l)
lives-is conn state is lives = live-is conn state is (λ reason over. differ reason (sym lives ∙ over)) where
  differ : (reason : Reason) → states.Live ≡ states.Closed reason → ⊥
  differ reason same = cc
