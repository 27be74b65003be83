-- What a turn leaves of what a connection is owed.
use Rattle.std.proofs.Common.{◌≡◌, ℕ, zero, suc, Bool, true, false, List, [], ◌∷◌, ◌++◌, take, drop, refl, sym, ap, ◌∙◌, append_assoc}
use Rattle.std.specs.Prelude.{◌-◌, ◌==◌, if◌then◌else◌, option_map}
use Rattle.std.proofs.lemmas.List.{append-nil, take-append-drop}
use Rattle.row_types.specs.declared.tables.Schema.{Schema}
use Rattle.request_types.specs.declared.ports.Port.{Port}
use Rattle.request_types.specs.declared.batches.ItemKind.{ItemKind}
use Rattle.open_index.specs.Line.{reads}
use Rattle.line_pipeline.specs.declared.conns.Conn.{Conn}
use Rattle.line_pipeline.specs.declared.conns.Conn.TheVariants as conns
use Rattle.line_pipeline.specs.declared.reasons.Reason.TheVariants as reasons
use Rattle.line_pipeline.specs.Live.{Live, taken_lines, kind_of, kinds_of}
use Rattle.line_pipeline.specs.Conn.{room_of, unsent_of, ended, sent_off, closed, finished}
use Rattle.line_pipeline.specs.Gathered.{asked}
use Rattle.table_rows.specs.Database.{Database}
use Rattle.batch_answers.specs.Answers.{answered, replies_to}
use Rattle.batch_answers.proofs.ReplyLines.{answered_line}
use Rattle.batch_worker.specs.Owed.{IsServed}
use Rattle.batch_worker.specs.Told.{Told, broken, meets_end, heard, received, breaks, count_of, sends, passed}
use Rattle.batch_worker.proofs.Served.{unsent-fed, unsent-ended, unsent-finished}
use Rattle.replay_turns.specs.Replying.{replied}
use Rattle.replay_turns.specs.Owed.{turned, owed, lines_of, IsLineForEach}

-- ---- a line for each

module _ (schema : Schema) (port : Port) where
  each-by : (lines : List (List ℕ)) (l : Live) (db : Database) → IsLineForEach lines (replies_to db (kinds_of schema port l.handles l.auth lines))
  each-by [] l db = record { replies = []; each = tt; count = refl; is = refl }
  each-by (line ∷ lines) l db =
      let r = reads schema port l.handles l.auth line in
      let one = answered_line db (kind_of r.0) in
      let next = (answered db (kind_of r.0)).1 in
      let more = each-by lines (record l { handles = r.1; auth = r.2 }) next in
      let rest = replies_to next (kinds_of schema port r.1 r.2 lines) in
      record {
        replies = one.0 ∷ more.replies;
        each = (one.1, more.each);
        count = ap suc more.count;
        is = ap (λ (t : List ℕ). t ++ rest) one.2 ∙ append_assoc one.0 (10 ∷ []) rest ∙ ap (λ (t : List ℕ). one.0 ++ 10 ∷ t) more.is;
      }

pub one-for-each : (schema : Schema) (db : Database) (conn : Conn) → IsLineForEach (lines_of conn) (replies_to db (asked schema conn))
one-for-each schema db (conns.Live l) = each-by schema l.port (taken_lines l) l db
one-for-each schema db (conns.Closed reason) = record { replies = []; each = tt; count = refl; is = refl }

-- ---- one that is served in the end was served before

served-closed : (conn : Conn) → IsServed (closed reasons.LinkFault conn) → IsServed conn
served-closed (conns.Live l) served = absurd served
served-closed (conns.Closed reason) served = served

served-finished : (conn : Conn) → IsServed (finished conn) → IsServed conn
served-finished (conns.Live l) served = tt
served-finished (conns.Closed reason) served = served

served-sent : (n : ℕ) (conn : Conn) → IsServed (sent_off n conn) → IsServed conn
served-sent n (conns.Live l) served = tt
served-sent n (conns.Closed reason) served = served

served-replied : (schema : Schema) (db : Database) (conn : Conn) → IsServed (replied schema db conn) → IsServed conn
served-replied schema db (conns.Live l) served = tt
served-replied schema db (conns.Closed reason) served = served

-- ---- what waits

unsent-closed : (conn : Conn) → IsServed (closed reasons.LinkFault conn) → unsent_of (closed reasons.LinkFault conn) ≡ unsent_of conn
unsent-closed (conns.Live l) served = absurd served
unsent-closed (conns.Closed reason) served = refl

drop-none : (n : ℕ) → ◌≡◌ {A = List ℕ} (drop n []) []
drop-none zero = refl
drop-none (suc n) = refl

unsent-sent : (n : ℕ) (conn : Conn) → unsent_of (sent_off n conn) ≡ drop n (unsent_of conn)
unsent-sent n (conns.Live l) = refl
unsent-sent n (conns.Closed reason) = sym (drop-none n)

unsent-replied : (schema : Schema) (db : Database) (conn : Conn) → unsent_of (replied schema db conn) ≡ unsent_of conn ++ replies_to db (asked schema conn)
unsent-replied schema db (conns.Closed reason) = refl
unsent-replied schema db (conns.Live l) = by (asked schema (conns.Live l)) refl where
  by : (kinds : List ItemKind) → asked schema (conns.Live l) ≡ kinds → unsent_of (replied schema db (conns.Live l)) ≡ l.unsent ++ replies_to db (asked schema (conns.Live l))
  by [] is = rw is (sym (append-nil l.unsent))
  by (kind ∷ kinds) is = rw is refl

-- ---- the steps of a turn

-- it receives the next bytes
abbrev hears : Told → Told
hears t = record t {
  conn = if meets_end t then ended (heard t) else heard t;
  left = drop (room_of t.conn) t.left;
}

unsent-heard : (t : Told) (b : Bool) → unsent_of (if b then ended (heard t) else heard t) ≡ unsent_of t.conn
unsent-heard t true = unsent-ended (heard t) ∙ unsent-fed (take (room_of t.conn) t.left) t.conn
unsent-heard t false = unsent-fed (take (room_of t.conn) t.left) t.conn

owed-broken : (t : Told) → IsServed (broken t).conn → owed (broken t) ≡ owed t
owed-broken t served = ap (λ (u : List ℕ). t.sent ++ u) (unsent-closed t.conn served)

owed-received : (t : Told) (is_full fails : Bool) → IsServed (if is_full then t else if fails then broken t else hears t).conn → owed (if is_full then t else if fails then broken t else hears t) ≡ owed t
owed-received t true fails served = refl
owed-received t false true served = owed-broken t served
owed-received t false false served = ap (λ (u : List ℕ). t.sent ++ u) (unsent-heard t (meets_end t))

-- it is sent as much as its link takes
abbrev sends_on : Told → Told
sends_on t = record t {
  conn = sent_off (count_of t) t.conn;
  sent = t.sent ++ take (count_of t) (unsent_of t.conn);
  room = option_map (λ n. n - count_of t) t.room;
}

owed-sent : (t : Told) (fails : Bool) → IsServed (if fails then broken t else sends_on t).conn → owed (if fails then broken t else sends_on t) ≡ owed t
owed-sent t true served = owed-broken t served
owed-sent t false served =
    let first = take (count_of t) (unsent_of t.conn) in
    append_assoc t.sent first (unsent_of (sent_off (count_of t) t.conn))
    ∙ ap (λ (u : List ℕ). t.sent ++ (first ++ u)) (unsent-sent (count_of t) t.conn)
    ∙ ap (λ (u : List ℕ). t.sent ++ u) (take-append-drop (count_of t) (unsent_of t.conn))

served-sends : (t : Told) (fails : Bool) → IsServed (if fails then broken t else sends_on t).conn → IsServed t.conn
served-sends t true served = served-closed t.conn served
served-sends t false served = served-sent (count_of t) t.conn served

owed-passed : (t : Told) → IsServed (passed t).conn → owed (passed t) ≡ owed t
owed-passed t served =
    ap (λ (u : List ℕ). (sends t).sent ++ u) (unsent-finished (sends t).conn)
    ∙ owed-sent t (breaks t) (served-finished (sends t).conn served)

pub owed-turned : (schema : Schema) (db : Database) (t : Told) → IsServed (turned schema db t).conn → owed (turned schema db t) ≡ owed t ++ replies_to db (asked schema (received t).conn)
owed-turned schema db t served =
    let h = received t in
    let a : Told = record h { conn = replied schema db h.conn } in
    let text = replies_to db (asked schema h.conn) in
    let was = served-replied schema db h.conn (served-sends a (breaks a) (served-finished (sends a).conn served)) in
    owed-passed a served
    ∙ ap (λ (u : List ℕ). h.sent ++ u) (unsent-replied schema db h.conn)
    ∙ sym (append_assoc h.sent (unsent_of h.conn) text)
    ∙ ap (λ (u : List ℕ). u ++ text) (owed-received t (room_of t.conn == 0) t.fails_next was)
