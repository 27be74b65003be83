-- A batch that failed makes of the connections of a turn what failing them one after another does.
use Rattle.std.proofs.Common.{◌≡◌, Bool, true, false, List, [], ◌∷◌, ◌++◌, map, refl, sym, ap, ◌∙◌, ⊎_elim}
use Rattle.std.specs.Prelude.{if◌then◌else◌}
use Rattle.std.proofs.lemmas.Bool.{cases_Bool}
use Rattle.row_types.specs.declared.tables.Schema.{Schema}
use Rattle.request_types.specs.declared.batches.Batch.{Batch}
use Rattle.request_types.specs.declared.batches.Item.{Item}
use Rattle.request_types.specs.declared.batches.ItemKind.{ItemKind}
use Rattle.request_types.specs.declared.connections.ConnId.{ConnId}
use Rattle.request_types.specs.Batches.{conns_of}
use Rattle.request_types.specs.Ids.{same_id, is_listed}
use Rattle.request_types.proofs.Ids.{same_id-is}
use Rattle.line_pipeline.specs.declared.conns.Conn.{Conn}
use Rattle.line_pipeline.specs.declared.conns.Conn.TheVariants as conns
use Rattle.line_pipeline.specs.declared.reasons.Reason.{Reason}
use Rattle.line_pipeline.specs.Live.{item_of}
use Rattle.line_pipeline.specs.Conn.{took, closed}
use Rattle.line_pipeline.specs.Gathered.{batch_of, conn_of, asked}
use Rattle.line_pipeline.specs.Settled.{asked_by}
use Rattle.line_pipeline.proofs.Runs.{kinds_at, items_are, unlisted}
use Rattle.batch_worker.proofs.Gathered.{where_listed}
use Rattle.batch_worker.proofs.Turned.{other_items, asks_nothing}
use Rattle.replay_turns.specs.Replying.{failed}
use Rattle.replay_turns.proofs.Settling.{took_nothing, listed_own}

-- one that is listed and asks for something is among those that asked
asks_something : (schema : Schema) (cs : List (ConnId × Conn)) (ids : List ConnId) (x : ConnId) (kind : ItemKind) (kinds : List ItemKind) → is_listed ids x ≡ true → kinds_at schema cs x ≡ kind ∷ kinds → is_listed (conns_of (batch_of schema cs ids)) x ≡ true
asks_something schema cs [] x kind kinds listed asks = cc
asks_something schema cs (id ∷ ids) x kind kinds listed asks =
    let rest = batch_of schema cs ids in
    ap (λ (items : List Item). is_listed (conns_of (items ++ rest)) x) (items_are schema cs id)
    ∙ ⊎_elim
    (λ same.
    let here : x ≡ id = same_id-is x id same in
    ap (λ (ks : List ItemKind). is_listed (conns_of (map (item_of id) ks ++ rest)) x) (ap (kinds_at schema cs) (sym here) ∙ asks)
    ∙ ap (λ (i : ConnId). is_listed (conns_of (map (item_of i) (kind ∷ kinds) ++ rest)) x) (sym here)
    ∙ listed_own x kind kinds rest)
    (λ apart.
    let later : is_listed (id ∷ ids) x ≡ is_listed ids x = rw apart refl in
    other_items id x (kinds_at schema cs id) rest apart ∙ asks_something schema cs ids x kind kinds (sym later ∙ listed) asks)
    (cases_Bool (same_id x id))

closed_took : (schema : Schema) (r : Reason) (conn : Conn) → closed r (took schema conn) ≡ closed r conn
closed_took schema r (conns.Live l) = refl
closed_took schema r (conns.Closed q) = refl

module _ (schema : Schema) (cs : List (ConnId × Conn)) (ids : List ConnId) (batch : Batch) (batch_is : batch.items ≡ batch_of schema cs ids) (r : Reason) (x : ConnId) where
  -- what the batch makes of the connection of an id
  abbrev pub failed_conn : Conn → Conn
  failed_conn conn = where_listed (asked_by batch) (closed r) x (where_listed ids (took schema) x conn)

  asked_is : is_listed (asked_by batch) x ≡ is_listed (conns_of (batch_of schema cs ids)) x
  asked_is = ap (λ (items : List Item). is_listed (conns_of items) x) batch_is

  abbrev by : Bool → Bool → Conn → Conn
  by asks listed conn =
      if asks then closed r (if listed then took schema conn else conn) else if listed then took schema conn else conn

  kinds_by : (conn : Conn) (kinds : List ItemKind) → asked schema conn ≡ kinds → conn ≡ conn_of cs x → is_listed ids x ≡ true → failed_conn conn ≡ failed schema r conn
  kinds_by conn [] is found listed =
      ap (λ (b : Bool). by b (is_listed ids x) conn) (asked_is ∙ asks_nothing schema cs ids x (ap (asked schema) (sym found) ∙ is))
      ∙ ap (λ (b : Bool). by false b conn) listed
      ∙ took_nothing schema conn is
      ∙ sym (rw is refl)
  kinds_by conn (kind ∷ kinds) is found listed =
      ap (λ (b : Bool). by b (is_listed ids x) conn) (asked_is ∙ asks_something schema cs ids x kind kinds listed (ap (asked schema) (sym found) ∙ is))
      ∙ ap (λ (b : Bool). by true b conn) listed
      ∙ closed_took schema r conn
      ∙ sym (rw is refl)

  pub failed_listed : (conn : Conn) → conn ≡ conn_of cs x → is_listed ids x ≡ true → failed_conn conn ≡ failed schema r conn
  failed_listed conn found listed = kinds_by conn (asked schema conn) refl found listed

  pub failed_other : (conn : Conn) → is_listed ids x ≡ false → failed_conn conn ≡ conn
  failed_other conn none =
      ap (λ (b : Bool). by b (is_listed ids x) conn) (asked_is ∙ unlisted schema cs ids x none)
      ∙ ap (λ (b : Bool). by false b conn) none
