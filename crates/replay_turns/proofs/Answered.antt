-- A turn of connections over links in memory, from its two halves.
use Rattle.std.proofs.Common.{◌≡◌, ℕ, Bool, true, false, ◌&&◌, List, [], ◌∷◌, Option, refl, sym, ap, ◌∙◌, ⊎_elim}
use Rattle.std.specs.Prelude.{nat_eq}
use Rattle.std.proofs.lemmas.Bool.{cases_Bool, or_parts, both_ways}
use Rattle.request_types.specs.declared.connections.ConnId.{ConnId}
use Rattle.request_types.specs.declared.batches.Batch.{Batch}
use Rattle.request_types.specs.declared.batches.Item.{Item}
use Rattle.request_types.specs.Ids.{same_id, is_listed, are_once}
use Rattle.request_types.proofs.Ids.{same_id-is}
use Rattle.row_types.specs.declared.tables.Schema.{Schema}
use Rattle.row_types.specs.Valid.{are_distinct}
use Rattle.hs_outside.specs.MemoryLink.{LinkInMemory, known_link}
use Rattle.line_pipeline.specs.declared.outcomes.Outcome.{Outcome}
use Rattle.line_pipeline.specs.declared.outcomes.Outcome.TheVariants as outcomes
use Rattle.line_pipeline.specs.declared.conns.Conn.{Conn}
use Rattle.line_pipeline.specs.declared.reasons.Reason.{Reason}
use Rattle.line_pipeline.specs.declared.reasons.Reason.TheVariants as reasons
use Rattle.line_pipeline.specs.Conn.{took, refused, closed}
use Rattle.line_pipeline.specs.Settled.{asked_by}
use Rattle.line_pipeline.specs.Table.{Table, is_held, all_changed}
use Rattle.table_rows.specs.Database.{Database}
use Rattle.batch_worker.specs.Linked.{LinkTable, Each}
use Rattle.batch_worker.specs.Receiving.{Receives}
use Rattle.batch_worker.specs.Sending.{Passes}
use Rattle.batch_worker.specs.Told.{received, passed}
use Rattle.batch_worker.specs.Turn.{settled_by}
use Rattle.batch_worker.specs.Solo.{Runs, Turned}
use Rattle.batch_worker.specs.declared.ends.TurnEnd.{TurnEnd}
use Rattle.batch_worker.specs.declared.ends.TurnEnd.TheVariants as ends
use Rattle.replay_turns.specs.declared.entries.Entry.{Entry}
use Rattle.replay_turns.specs.Linked.{Linked, on_all, with, with_conn}
use Rattle.replay_turns.specs.Session.{ended_by, answered}
use Rattle.replay_turns.specs.Replying.{failed}
use Rattle.replay_turns.specs.Entries.{link_of, all_linked, ids_at, ids_of, is_short_at, are_short, AreEntries}
use Rattle.replay_turns.proofs.Numbers.{ids_once}
use Rattle.replay_turns.proofs.Bridge.{on_all-is}
use Rattle.batch_worker.proofs.Gathered.{all-held, settled-held}
use Rattle.replay_turns.proofs.Over.{told_at, received-is, passed-is, passed-long, same-is}
use Rattle.replay_turns.proofs.Batched.{done, fails, refuses}

-- ---- no link was short

and_held : (b c : Bool) → b ≡ true → (b && c) ≡ false → c ≡ false
and_held true c held none = none
and_held false c held none = absurd (both_ways false refl held)

pub none_short : (t : LinkTable LinkInMemory) (ids : List ConnId) (x : ConnId) → are_short t ids ≡ false → is_listed ids x ≡ true → is_held t.table.conns x ≡ true → (link_of t.links x).is_short ≡ false
none_short t [] x none listed held = absurd (both_ways false refl listed)
none_short t (id ∷ ids) x none listed held =
    let parts = or_parts (is_short_at t id) (are_short t ids) none in
    ⊎_elim
    (λ same. and_held (is_held t.table.conns x) (link_of t.links x).is_short held (ap (is_short_at t) (same_id-is x id same) ∙ parts.0))
    (λ other. none_short t ids x parts.1 (sym (later other) ∙ listed) held)
    (cases_Bool (same_id x id))
  where
    later : same_id x id ≡ false → is_listed (id ∷ ids) x ≡ is_listed ids x
    later other = rw other refl

-- ---- who is held

module _ (ids : List ConnId) (t h u : LinkTable LinkInMemory) (f : Conn → Conn) (receive : Each known_link Receives ids t h) (changed_is : u.table ≡ record h.table { conns = all_changed ids f h.table.conns }) where
  pub heard_held : (x : ConnId) → is_held u.table.conns x ≡ is_held t.table.conns x
  heard_held x =
      ap (λ (table : Table). is_held table.conns x) changed_is
      ∙ all-held f ids h.table.conns x
      ∙ receive.held x

pub settled_held : (u : LinkTable LinkInMemory) (batch : Batch) (outcome : Outcome) (x : ConnId) → is_held (settled_by u batch outcome).table.conns x ≡ is_held u.table.conns x
settled_held u batch outcome x = settled-held u.table.conns batch outcome x

-- who is held stays so in a whole turn
module _ {B : Type 0} (rows : B → Database) (ran : B → List Item → Outcome → B → Type 0) (ids : List ConnId) (t v : LinkTable LinkInMemory) (book after : B) where
  runs_held : (outcome : Outcome) → Runs known_link rows ran ids outcome t v book after → (x : ConnId) → is_held v.table.conns x ≡ is_held t.table.conns x
  runs_held outcome r x =
      let g = r.gathers in
      r.passes.held x
      ∙ settled_held r.between r.batch outcome x
      ∙ heard_held ids t g.heard r.between (took g.heard.table.schema) g.receive (ap (λ (k : LinkTable LinkInMemory). k.table) g.took_is) x

  pub turned_held : (end : TurnEnd) → Turned known_link rows ran end ids t v book after → (x : ConnId) → is_held v.table.conns x ≡ is_held t.table.conns x
  turned_held ends.Done turned x = runs_held (outcomes.Done turned.0) turned.1 x
  turned_held ends.DiskFault turned x = runs_held outcomes.DiskFault turned x
  turned_held ends.NoMemory turned x = runs_held outcomes.NoMemory turned x
  turned_held ends.NoBatch turned x =
      turned.passes.held x
      ∙ heard_held ids t turned.refused.heard turned.between refused turned.refused.receive (ap (λ (k : LinkTable LinkInMemory). k.table) turned.refused.refused_is) x

-- ---- the whole turn

module _ (t h s v : LinkTable LinkInMemory) (es : List Entry) (are : AreEntries t.table.conns es) (listed : List ℕ) (distinct : are_distinct nat_eq listed ≡ true) (end : TurnEnd) (db new : Database) where
  abbrev ids : List ConnId
  ids = ids_at es listed

  once : are_once ids ≡ true
  once = ids_once listed es are.once distinct

  module _ (receive : Each known_link Receives ids t h) (links_are : s.links ≡ h.links) (s_held : (x : ConnId) → is_held s.table.conns x ≡ is_held t.table.conns x) (ended : ended_by end h.table.schema listed db (all_linked h.table.conns h.links es) ≡ (new, all_linked s.table.conns h.links es)) (passes : Each known_link Passes ids s v) (long : (x : ConnId) → is_listed ids x ≡ true → is_held v.table.conns x ≡ true → (link_of v.links x).is_short ≡ false) where
    held_in : (x : ConnId) → is_listed (ids_of es) x ≡ true → is_held t.table.conns x ≡ true
    held_in x is = are.held x ∙ is

    v_long : (x : ConnId) → is_held t.table.conns x ≡ true → is_listed ids x ≡ true → (link_of v.links x).is_short ≡ false
    v_long x held is = long x is (passes.held x ∙ s_held x ∙ held)

    h_long : (x : ConnId) → is_held t.table.conns x ≡ true → is_listed ids x ≡ true → (link_of h.links x).is_short ≡ false
    h_long x held is =
        ap (λ (links : List (Option LinkInMemory)). (link_of links x).is_short) (sym links_are)
        ∙ passed-long ids s v passes x (s_held x ∙ held) is (v_long x held is)

    heard : all_linked h.table.conns h.links es ≡ on_all listed (with received) (all_linked t.table.conns t.links es)
    heard = on_all-is received es are.once listed (told_at t) (told_at h) once (record {
      listed = λ x is in_ids. received-is ids t h receive x (held_in x is) in_ids (h_long x (held_in x is) in_ids);
      others = λ x is out. same-is ids t h Receives receive x (held_in x is) out;
    })

    sent : all_linked v.table.conns v.links es ≡ on_all listed (with passed) (all_linked s.table.conns s.links es)
    sent = on_all-is passed es are.once listed (told_at s) (told_at v) once (record {
      listed = λ x is in_ids. passed-is ids s v passes x (s_held x ∙ held_in x is) in_ids (v_long x (held_in x is) in_ids);
      others = λ x is out. same-is ids s v Passes passes x (s_held x ∙ held_in x is) out;
    })

    schema_is : h.table.schema ≡ t.table.schema
    schema_is = ap (λ (table : Table). table.schema) receive.rest

    abbrev finish : Database × List Linked → Database × List Linked
    finish r = (r.0, on_all listed (with passed) r.1)

    pub answered-is : answered end t.table.schema listed db (all_linked t.table.conns t.links es) ≡ (new, all_linked v.table.conns v.links es)
    answered-is =
        ap (λ (schema : Schema). answered end schema listed db (all_linked t.table.conns t.links es)) (sym schema_is)
        ∙ ap (λ (ls : List Linked). finish (ended_by end h.table.schema listed db ls)) (sym heard)
        ∙ ap finish ended
        ∙ ap (λ (links : List (Option LinkInMemory)). (new, on_all listed (with passed) (all_linked s.table.conns links es))) (sym links_are)
        ∙ ap (λ (ls : List Linked). (new, ls)) (sym sent)

-- the same, from what a turn says of itself
module _ {B : Type 0} (rows : B → Database) (ran : B → List Item → Outcome → B → Type 0) (t v : LinkTable LinkInMemory) (es : List Entry) (are : AreEntries t.table.conns es) (listed : List ℕ) (distinct : are_distinct nat_eq listed ≡ true) (book after : B) (none : are_short v (ids_at es listed) ≡ false) where
  abbrev those : List ConnId
  those = ids_at es listed

  long : (x : ConnId) → is_listed those x ≡ true → is_held v.table.conns x ≡ true → (link_of v.links x).is_short ≡ false
  long x = none_short v those x none

  from_runs : (end : TurnEnd) (outcome : Outcome) (r : Runs known_link rows ran those outcome t v book after) → ended_by end r.gathers.heard.table.schema listed (rows book) (all_linked r.gathers.heard.table.conns r.gathers.heard.links es) ≡ (rows after, all_linked (settled_by r.between r.batch outcome).table.conns r.gathers.heard.links es) → answered end t.table.schema listed (rows book) (all_linked t.table.conns t.links es) ≡ (rows after, all_linked v.table.conns v.links es)
  from_runs end outcome r ended =
      let g = r.gathers in
      let took_it : r.between.table ≡ record g.heard.table { conns = all_changed those (took g.heard.table.schema) g.heard.table.conns } = ap (λ (k : LinkTable LinkInMemory). k.table) g.took_is in
      answered-is t g.heard (settled_by r.between r.batch outcome) v es are listed distinct end (rows book) (rows after) g.receive
      (ap (λ (k : LinkTable LinkInMemory). k.links) g.took_is)
      (λ x. settled_held r.between r.batch outcome x ∙ heard_held those t g.heard r.between (took g.heard.table.schema) g.receive took_it x)
      ended r.passes long

  from_failed : (reason : Reason) (end : TurnEnd) (outcome : Outcome) (r : Runs known_link rows ran those outcome t v book after) → rows after ≡ rows book → (settled_by r.between r.batch outcome).table.conns ≡ all_changed (asked_by r.batch) (closed reason) r.between.table.conns → ((schema : Schema) (db : Database) (ls : List Linked) → ended_by end schema listed db ls ≡ (db, on_all listed (with_conn (failed schema reason)) ls)) → answered end t.table.schema listed (rows book) (all_linked t.table.conns t.links es) ≡ (rows after, all_linked v.table.conns v.links es)
  from_failed reason end outcome r stays gone_is ends_so =
      let g = r.gathers in
      let gone = (settled_by r.between r.batch outcome).table.conns in
      let took_it : r.between.table ≡ record g.heard.table { conns = all_changed those (took g.heard.table.schema) g.heard.table.conns } = ap (λ (k : LinkTable LinkInMemory). k.table) g.took_is in
      from_runs end outcome r
      (ends_so g.heard.table.schema (rows book) (all_linked g.heard.table.conns g.heard.links es)
      ∙ ap (λ (ls : List Linked). (rows book, ls)) (sym (fails t g.heard r.between es are listed distinct g.receive r.batch g.batch_is took_it reason gone gone_is))
      ∙ ap (λ (d : Database). (d, all_linked gone g.heard.links es)) (sym stays))

  pub turn-is : (end : TurnEnd) → Turned known_link rows ran end those t v book after → answered end t.table.schema listed (rows book) (all_linked t.table.conns t.links es) ≡ (rows after, all_linked v.table.conns v.links es)
  turn-is ends.Done turned =
      let r = turned.1 in
      let g = r.gathers in
      from_runs ends.Done (outcomes.Done turned.0) r
      (done t g.heard r.between es are listed distinct g.receive r.batch g.batch_is (ap (λ (k : LinkTable LinkInMemory). k.table) g.took_is) turned.0 (rows book) (rows after) r.comes.0 r.comes.1)
  turn-is ends.DiskFault turned = from_failed reasons.BatchDisk ends.DiskFault outcomes.DiskFault turned turned.comes refl (λ schema db ls. refl)
  turn-is ends.NoMemory turned = from_failed reasons.BatchMemory ends.NoMemory outcomes.NoMemory turned turned.comes refl (λ schema db ls. refl)
  turn-is ends.NoBatch turned =
      let r = turned.refused in
      let refused_is : turned.between.table ≡ record r.heard.table { conns = all_changed those refused r.heard.table.conns } = ap (λ (k : LinkTable LinkInMemory). k.table) r.refused_is in
      answered-is t r.heard turned.between v es are listed distinct ends.NoBatch (rows book) (rows after) r.receive
      (ap (λ (k : LinkTable LinkInMemory). k.links) r.refused_is)
      (λ x. heard_held those t r.heard turned.between refused r.receive refused_is x)
      (ap (λ (ls : List Linked). (rows book, ls)) (sym (refuses t r.heard turned.between es are listed distinct r.receive turned.between.table.conns (ap (λ (k : Table). k.conns) refused_is)))
      ∙ ap (λ (b : B). (rows b, all_linked turned.between.table.conns r.heard.links es)) (sym turned.stays))
      turned.passes long
