-- A turn, seen from one of the connections that it lists.
use Rattle.std.proofs.Common.{◌≡◌, ℕ, Bool, true, false, List, [], ◌∷◌, ◌++◌, map, Option, Some, None, is_some, option_map, refl, sym, ap, subst, ◌∙◌, ⊎_elim}
use Rattle.std.specs.Prelude.{if◌then◌else◌}
use Rattle.std.specs.List.{list_all}
use Rattle.std.proofs.lemmas.Bool.{cases_Bool, or_parts, and_parts, both_ways}
use Rattle.std.proofs.lemmas.List.{append-nil}
use Rattle.row_types.specs.declared.tables.Schema.{Schema}
use Rattle.request_types.specs.declared.connections.ConnId.{ConnId}
use Rattle.request_types.specs.declared.batches.Batch.{Batch}
use Rattle.request_types.specs.declared.batches.Item.{Item}
use Rattle.request_types.specs.declared.batches.ItemKind.{ItemKind}
use Rattle.request_types.specs.declared.batches.Part.{Part}
use Rattle.request_types.specs.declared.batches.Replies.{Replies}
use Rattle.request_types.specs.Batches.{conns_of}
use Rattle.request_types.specs.Ids.{same_id, is_listed}
use Rattle.request_types.proofs.Ids.{same_id-is}
use Rattle.hs_outside.specs.Links.{Peer}
use Rattle.line_pipeline.specs.declared.outcomes.Outcome.TheVariants as outcomes
use Rattle.line_pipeline.specs.declared.conns.Conn.{Conn}
use Rattle.line_pipeline.specs.declared.conns.Conn.TheVariants as conns
use Rattle.line_pipeline.specs.declared.reasons.Reason.{Reason}
use Rattle.line_pipeline.specs.Live.{Live, item_of}
use Rattle.line_pipeline.specs.Live as live
use Rattle.line_pipeline.specs.Conn.{unsent_of, took, place_used, closed}
use Rattle.line_pipeline.specs.Gathered.{batch_of, conn_or_none, conn_of, asked}
use Rattle.line_pipeline.specs.Settled.{asked_by, answered_by, told, CanSettle}
use Rattle.line_pipeline.specs.Table.{conn_at, is_held, all_changed}
use Rattle.line_pipeline.proofs.Runs.{kinds_at, items_are, unlisted}
use Rattle.batch_worker.specs.Linked.{LinkTable, Linked, beside, linked_at, link_at, Went, Each}
use Rattle.batch_worker.specs.Receiving.{Receives}
use Rattle.batch_worker.specs.Sending.{Passes}
use Rattle.batch_worker.specs.Turn.{Gathers, with_table, settled_by}
use Rattle.batch_worker.specs.Owed.{IsAnswered, text_for}
use Rattle.batch_worker.proofs.Served.{passes-closed}
use Rattle.batch_worker.proofs.Gathered.{where_listed, conn_at-all, all-held, settled-held, done_conn, two_maps, settled_at}

-- ---- one that asks for nothing has no part

pub other_items : (id x : ConnId) (kinds : List ItemKind) (items : List Item) → same_id x id ≡ false → is_listed (conns_of (map (item_of id) kinds ++ items)) x ≡ is_listed (conns_of items) x
other_items id x [] items apart = refl
other_items id x (kind ∷ kinds) items apart = rw apart (other_items id x kinds items apart)

pub asks_nothing : (schema : Schema) (cs : List (ConnId × Conn)) (ids : List ConnId) (x : ConnId) → asked schema (conn_of cs x) ≡ [] → is_listed (conns_of (batch_of schema cs ids)) x ≡ false
asks_nothing schema cs [] x none = refl
asks_nothing schema cs (id ∷ ids) x none =
    let rest = batch_of schema cs ids in
    ap (λ (items : List Item). is_listed (conns_of (items ++ rest)) x) (items_are schema cs id)
    ∙ ⊎_elim
    (λ same. ap (λ (kinds : List ItemKind). is_listed (conns_of (map (item_of id) kinds ++ rest)) x) (ap (λ (i : ConnId). asked schema (conn_of cs i)) (sym (same_id-is x id same)) ∙ none))
    (λ apart. other_items id x (kinds_at schema cs id) rest apart)
    (cases_Bool (same_id x id))
    ∙ asks_nothing schema cs ids x none

none_for : (parts : List Part) (x : ConnId) → is_listed (answered_by parts) x ≡ false → text_for parts x ≡ []
none_for [] x none = refl
none_for (part ∷ parts) x none =
    let apart = or_parts (same_id x part.conn) (is_listed (answered_by parts) x) none in
    rw apart.0 (none_for parts x apart.1)

not_among : (all ids : List ConnId) (x : ConnId) → list_all (is_listed all) ids ≡ true → is_listed all x ≡ false → is_listed ids x ≡ false
not_among all [] x within none = refl
not_among all (id ∷ ids) x within none =
    let parts = and_parts (is_listed all id) (list_all (is_listed all) ids) within in
    ⊎_elim
    (λ same. absurd (both_ways (is_listed all x) none (ap (is_listed all) (same_id-is x id same) ∙ parts.0)))
    (λ apart. rw apart (not_among all ids x parts.1 none))
    (cases_Bool (same_id x id))

-- ---- what becomes of it

module _ (schema : Schema) (ids : List ConnId) (batch : Batch) (parts : List Part) (x : ConnId) where
  -- its lines are taken, and its part joins its output
  abbrev pub goes : Conn → Conn
  goes conn = done_conn batch parts x (where_listed ids (took schema) x conn)

  took_closed : (b : Bool) (r : Reason) → (if b then took schema (conns.Closed r) else conns.Closed r) ≡ conns.Closed r
  took_closed true r = refl
  took_closed false r = refl

  told_closed : (ps : List Part) (r : Reason) → told ps (x, conns.Closed r) ≡ conns.Closed r
  told_closed [] r = refl
  told_closed (part ∷ ps) r =
      ⊎_elim (λ same. rw same refl) (λ apart. rw apart (told_closed ps r)) (cases_Bool (same_id x part.conn))

  used_closed : (b : Bool) (r : Reason) → (if b then place_used (conns.Closed r) else conns.Closed r) ≡ conns.Closed r
  used_closed true r = refl
  used_closed false r = refl

  goes_closed : (r : Reason) → goes (conns.Closed r) ≡ conns.Closed r
  goes_closed r =
      ap (done_conn batch parts x) (took_closed (is_listed ids x) r)
      ∙ ap (where_listed (asked_by batch) place_used x) (told_closed parts r)
      ∙ used_closed (is_listed (asked_by batch) x) r

  took_live : (b : Bool) (l : Live) → (m : Live) × ((if b then took schema (conns.Live l) else conns.Live l) ≡ conns.Live m) × (m.unsent ≡ l.unsent)
  took_live true l = (live.took schema l, refl, refl)
  took_live false l = (l, refl, refl)

  told_live : (ps : List Part) (m : Live) → unsent_of (told ps (x, conns.Live m)) ≡ m.unsent ++ text_for ps x
  told_live [] m = sym (append-nil m.unsent)
  told_live (part ∷ ps) m =
      ⊎_elim (λ same. rw same refl) (λ apart. rw apart (told_live ps m)) (cases_Bool (same_id x part.conn))

  used_unsent : (b : Bool) (conn : Conn) → unsent_of (if b then place_used conn else conn) ≡ unsent_of conn
  used_unsent true (conns.Live l) = refl
  used_unsent true (conns.Closed r) = refl
  used_unsent false conn = refl

  owes : (conn : Conn) → ((r : Reason) → conn ≡ conns.Closed r → text_for parts x ≡ []) → unsent_of (goes conn) ≡ unsent_of conn ++ text_for parts x
  owes (conns.Live l) none =
      let t = took_live (is_listed ids x) l in
      used_unsent (is_listed (asked_by batch) x) (told parts (x, where_listed ids (took schema) x (conns.Live l)))
      ∙ ap (λ (conn : Conn). unsent_of (told parts (x, conn))) t.1
      ∙ told_live parts t.0
      ∙ ap (λ (u : List ℕ). u ++ text_for parts x) t.2
  owes (conns.Closed r) none = ap unsent_of (goes_closed r) ∙ sym (none r refl)

  pub answers : (o p q : Option Conn) (k m n : Option Peer) → ((conn : Conn) → p ≡ Some conn → (r : Reason) → conn ≡ conns.Closed r → text_for parts x ≡ []) → Went Receives (beside o k) (beside p m) → Went Passes (beside (option_map goes p) m) (beside q n) → Went (λ old new. IsAnswered old new (text_for parts x)) (beside o k) (beside q n)
  answers None p q k m n none receive pass = absurd receive
  answers (Some a) p q None m n none receive pass = absurd receive
  answers (Some a) None q (Some k) m n none receive pass = absurd receive
  answers (Some a) (Some b) q (Some k) None n none receive pass = absurd receive
  answers (Some a) (Some b) None (Some k) (Some m) n none receive pass = absurd pass
  answers (Some a) (Some b) (Some c) (Some k) (Some m) None none receive pass = absurd pass
  answers (Some a) (Some b) (Some c) (Some k) (Some m) (Some n) none receive pass = record {
    heard = record { conn = b; peer = m };
    receives = receive;
    answered = record { conn = goes b; peer = m };
    link = refl;
    closed = λ r is. ap goes is ∙ goes_closed r;
    owes = owes b (none b refl);
    passes = pass;
  }

-- ---- a turn

module _ {L : Type 0} (peer : L → Peer) (ids : List ConnId) (t u v : LinkTable L) (batch : Batch) (replies : Replies) (x : ConnId) where
  pub answers_each : Gathers peer ids t u batch → CanSettle u.table.conns batch replies.parts → Each peer Passes ids (settled_by u batch (outcomes.Done replies)) v → is_listed ids x ≡ true → is_held t.table.conns x ≡ true → Went (λ old new. IsAnswered old new (text_for replies.parts x)) (linked_at peer t x) (linked_at peer v x)
  answers_each g can passes listed held =
      let h = g.heard in
      let schema = h.table.schema in
      let s = settled_by u batch (outcomes.Done replies) in
      let f = where_listed ids (took schema) x in
      let taken : conn_at u.table.conns x ≡ option_map f (conn_at h.table.conns x) = ap (λ (k : LinkTable L). conn_at k.table.conns x) g.took_is ∙ conn_at-all (took schema) ids h.table.conns x in
      let conn : conn_at s.table.conns x ≡ option_map (goes schema ids batch replies.parts x) (conn_at h.table.conns x) =
      settled_at u.table.conns batch replies x ∙ ap (option_map (done_conn batch replies.parts x)) taken ∙ two_maps (done_conn batch replies.parts x) f (conn_at h.table.conns x) in
      let link : link_at u.links x ≡ link_at h.links x = ap (λ (k : LinkTable L). link_at k.links x) g.took_is in
      let at : linked_at peer s x ≡ beside (option_map (goes schema ids batch replies.parts x) (conn_at h.table.conns x)) (option_map peer (link_at h.links x)) =
      ap (λ (o : Option Conn). beside o (option_map peer (link_at u.links x))) conn
      ∙ ap (λ (l : Option L). beside (option_map (goes schema ids batch replies.parts x) (conn_at h.table.conns x)) (option_map peer l)) link in
      let held_s : is_held s.table.conns x ≡ true =
      settled-held u.table.conns batch (outcomes.Done replies) x
      ∙ ap (λ (k : LinkTable L). is_held k.table.conns x) g.took_is
      ∙ all-held (took schema) ids h.table.conns x
      ∙ g.receive.held x ∙ held in
      let nothing : (b : Conn) → conn_at h.table.conns x ≡ Some b → (r : Reason) → b ≡ conns.Closed r → text_for replies.parts x ≡ [] = λ b is r over.
      none_for replies.parts x
      (not_among (asked_by batch) (answered_by replies.parts) x can.asked
      (ap (λ (items : List Item). is_listed (conns_of items) x) g.batch_is
      ∙ asks_nothing schema h.table.conns ids x (ap (λ (o : Option Conn). asked schema (conn_or_none o)) is ∙ ap (asked schema) over))) in
      answers schema ids batch replies.parts x (conn_at t.table.conns x) (conn_at h.table.conns x) (conn_at v.table.conns x)
      (option_map peer (link_at t.links x)) (option_map peer (link_at h.links x)) (option_map peer (link_at v.links x)) nothing
      (g.receive.listed x listed held)
      (subst (λ (o : Option Linked). Went Passes o (linked_at peer v x)) at (passes.listed x listed held_s))

-- ---- a turn whose batch failed

some_conn : (a b : Conn) → Some a ≡ Some b → a ≡ b
some_conn a b is = cc

stays-closed : (r : Reason) (o q : Option Conn) (k n : Option Peer) → Went Passes (beside o k) (beside q n) → o ≡ Some (conns.Closed r) → q ≡ Some (conns.Closed r)
stays-closed r None q k n pass is = absurd pass
stays-closed r (Some a) q None n pass is = absurd pass
stays-closed r (Some a) None (Some k) n pass is = absurd pass
stays-closed r (Some a) (Some c) (Some k) None pass is = absurd pass
stays-closed r (Some a) (Some c) (Some k) (Some n) pass is =
    ap Some (passes-closed (record { conn = a; peer = k }) (record { conn = c; peer = n }) r (some_conn a (conns.Closed r) is) pass)

-- one that asked for something is live, and was listed
module _ (schema : Schema) (cs : List (ConnId × Conn)) (ids : List ConnId) (batch : Batch) (x : ConnId) (batch_is : batch.items ≡ batch_of schema cs ids) (asks : is_listed (asked_by batch) x ≡ true) where
  asked_in : is_listed (conns_of (batch_of schema cs ids)) x ≡ true
  asked_in = ap (λ (items : List Item). is_listed (conns_of items) x) (sym batch_is) ∙ asks

  was_listed : is_listed ids x ≡ true
  was_listed =
      ⊎_elim
      (λ is. is)
      (λ none. absurd (both_ways (is_listed (conns_of (batch_of schema cs ids)) x) (unlisted schema cs ids x none) asked_in))
      (cases_Bool (is_listed ids x))

  quiet : asked schema (conn_of cs x) ≡ [] → ⊥
  quiet none = both_ways (is_listed (conns_of (batch_of schema cs ids)) x) (asks_nothing schema cs ids x none) asked_in

  lives : (o : Option Conn) → conn_at cs x ≡ o → (l : Live) × (conn_at cs x ≡ Some (conns.Live l))
  lives None is = absurd (quiet (ap (λ (c : Option Conn). asked schema (conn_or_none c)) is))
  lives (Some (conns.Closed q)) is = absurd (quiet (ap (λ (c : Option Conn). asked schema (conn_or_none c)) is))
  lives (Some (conns.Live l)) is = (l, is)

closed_by : (schema : Schema) (r : Reason) (b : Bool) (l : Live) → closed r (if b then took schema (conns.Live l) else conns.Live l) ≡ conns.Closed r
closed_by schema r true l = refl
closed_by schema r false l = refl

module _ {L : Type 0} (peer : L → Peer) (ids : List ConnId) (t u s v : LinkTable L) (batch : Batch) (r : Reason) (x : ConnId) where
  -- who asked for something is closed for this
  pub closes : Gathers peer ids t u batch → s ≡ with_table u (record u.table { conns = all_changed (asked_by batch) (closed r) u.table.conns }) → Each peer Passes ids s v → is_listed (asked_by batch) x ≡ true → conn_at v.table.conns x ≡ Some (conns.Closed r)
  closes g closed_is passes asks =
      let schema = g.heard.table.schema in
      let cs = g.heard.table.conns in
      let l = lives schema cs ids batch x g.batch_is asks (conn_at cs x) refl in
      let f = where_listed ids (took schema) x in
      let taken : conn_at u.table.conns x ≡ Some (f (conns.Live l.0)) =
      ap (λ (k : LinkTable L). conn_at k.table.conns x) g.took_is ∙ conn_at-all (took schema) ids cs x ∙ ap (option_map f) l.1 in
      let gone : conn_at s.table.conns x ≡ Some (conns.Closed r) =
      ap (λ (k : LinkTable L). conn_at k.table.conns x) closed_is
      ∙ conn_at-all (closed r) (asked_by batch) u.table.conns x
      ∙ ap (option_map (where_listed (asked_by batch) (closed r) x)) taken
      ∙ ap (λ (b : Bool). Some (if b then closed r (f (conns.Live l.0)) else f (conns.Live l.0))) asks
      ∙ ap Some (closed_by schema r (is_listed ids x) l.0) in
      stays-closed r (conn_at s.table.conns x) (conn_at v.table.conns x) (option_map peer (link_at s.links x)) (option_map peer (link_at v.links x))
      (passes.listed x (was_listed schema cs ids batch x g.batch_is asks) (ap (λ (o : Option Conn). is_some o) gone)) gone
