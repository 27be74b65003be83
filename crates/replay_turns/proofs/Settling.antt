-- What a batch makes of the connections of a turn is what answering them one after another does.
use Rattle.std.proofs.Common.{◌≡◌, ℕ, Bool, true, false, ◌||◌, List, [], ◌∷◌, ◌++◌, length, map, refl, sym, ap, subst, ◌∙◌, ⊎_elim}
use Rattle.std.specs.Prelude.{if◌then◌else◌, nat_lt}
use Rattle.std.proofs.lemmas.Bool.{cases_Bool, or_parts}
use Rattle.request_types.specs.declared.connections.ConnId.{ConnId}
use Rattle.row_types.specs.declared.tables.Schema.{Schema}
use Rattle.request_types.specs.declared.batches.Item.{Item}
use Rattle.request_types.specs.declared.batches.ItemKind.{ItemKind}
use Rattle.request_types.specs.declared.batches.Part.{Part}
use Rattle.line_pipeline.specs.declared.conns.Conn.{Conn}
use Rattle.line_pipeline.specs.declared.conns.Conn.TheVariants as conns
use Rattle.line_pipeline.specs.Live.{Live, taken_lines, kinds_of, left_by, behind, item_of}
use Rattle.line_pipeline.specs.Conn.{took, answered, place_used}
use Rattle.request_types.specs.Ids.{same_id, is_listed, are_once}
use Rattle.line_pipeline.specs.Settled.{told, answered_by}
use Rattle.request_types.proofs.Ids.{same_id-refl, same_id-is, once-head, once-tail}
use Rattle.table_rows.specs.Database.{Database}
use Rattle.batch_answers.specs.Answers.{replies_to, after_all}
use Rattle.batch_answers.specs.Batches.{parts_of}
use Rattle.line_pipeline.specs.Gathered.{batch_of, conn_of, asked}
use Rattle.batch_worker.proofs.Gathered.{where_listed}
use Rattle.batch_worker.proofs.Turned.{other_items}
use Rattle.replay_turns.specs.Replying.{replied}
use Rattle.request_types.specs.Batches.{conns_of}
use Rattle.batch_answers.proofs.Parts.{answered-heads}
use Rattle.line_pipeline.proofs.Runs.{kinds_at, groups, with_group, items_are, heads_unlisted, unlisted}

-- ---- what becomes of one connection

or_none : (b : Bool) → (b || false) ≡ b
or_none true = refl
or_none false = refl

-- it asks for nothing, so nothing is taken
abbrev took_by : Schema → Live → List (List ℕ) → Live
took_by schema l lines = record l {
  held = behind lines l.held;
  handles = (left_by schema l.port l.handles l.auth lines).0;
  auth = (left_by schema l.port l.handles l.auth lines).1;
  has_place = l.has_place || nat_lt 0 (length lines);
}

took_lines : (schema : Schema) (l : Live) (lines : List (List ℕ)) → taken_lines l ≡ lines → kinds_of schema l.port l.handles l.auth lines ≡ [] → took schema (conns.Live l) ≡ conns.Live l
took_lines schema l [] is none =
    ap (λ (lines : List (List ℕ)). conns.Live (took_by schema l lines)) is
    ∙ ap (λ (b : Bool). conns.Live (record l { has_place = b })) (or_none l.has_place)
took_lines schema l (line ∷ lines) is none = cc

pub took_nothing : (schema : Schema) (conn : Conn) → asked schema conn ≡ [] → took schema conn ≡ conn
took_nothing schema (conns.Live l) none =
    took_lines schema l (taken_lines l) refl none
took_nothing schema (conns.Closed reason) none = refl

used_after : (text : List ℕ) (conn : Conn) → place_used (answered text conn) ≡ answered text conn
used_after text (conns.Live l) = refl
used_after text (conns.Closed reason) = refl

-- what the batch makes of the connection of an id
abbrev pub settled_conn : Schema → List (ConnId × Conn) → Database → List ConnId → ConnId → Conn → Conn
settled_conn schema cs db ids x conn =
    where_listed (conns_of (batch_of schema cs ids)) place_used x
    (told (parts_of db (groups schema cs ids)) (x, where_listed ids (took schema) x conn))

-- what answering one after another does
abbrev pub replied_conn : Schema → List (ConnId × Conn) → Database → List ConnId → ConnId → Conn → Conn
replied_conn schema cs db [] x conn = conn
replied_conn schema cs db (id ∷ ids) x conn =
    if same_id x id then replied schema db conn else replied_conn schema cs (after_all db (kinds_at schema cs id)) ids x conn

told_other : (db : Database) (id x : ConnId) (kinds : List ItemKind) (runs : List (ConnId × List ItemKind)) (conn : Conn) → same_id x id ≡ false → told (parts_of db (with_group id kinds runs)) (x, conn) ≡ told (parts_of (after_all db kinds) runs) (x, conn)
told_other db id x [] runs conn apart = refl
told_other db id x (kind ∷ kinds) runs conn apart = rw apart refl

told_none : (parts : List Part) (x : ConnId) (conn : Conn) → is_listed (answered_by parts) x ≡ false → told parts (x, conn) ≡ conn
told_none [] x conn none = refl
told_none (part ∷ parts) x conn none =
    let apart = or_parts (same_id x part.conn) (is_listed (answered_by parts) x) none in
    rw apart.0 (told_none parts x conn apart.1)

pub listed_own : (x : ConnId) (kind : ItemKind) (kinds : List ItemKind) (items : List Item) → is_listed (conns_of (map (item_of x) (kind ∷ kinds) ++ items)) x ≡ true
listed_own x kind kinds items = rw (same_id-refl x) refl

module _ (schema : Schema) (cs : List (ConnId × Conn)) where
  -- another connection
  step_other : (db : Database) (id : ConnId) (ids : List ConnId) (x : ConnId) (conn : Conn) → same_id x id ≡ false → settled_conn schema cs db (id ∷ ids) x conn ≡ settled_conn schema cs (after_all db (kinds_at schema cs id)) ids x conn
  step_other db id ids x conn apart =
      let kinds = kinds_at schema cs id in
      let listed : is_listed (conns_of (batch_of schema cs (id ∷ ids))) x ≡ is_listed (conns_of (batch_of schema cs ids)) x = ap (λ (items : List Item). is_listed (conns_of (items ++ batch_of schema cs ids)) x) (items_are schema cs id) ∙ other_items id x kinds (batch_of schema cs ids) apart in
      let took_it : where_listed (id ∷ ids) (took schema) x conn ≡ where_listed ids (took schema) x conn = rw apart refl in
      let told_it = told_other db id x kinds (groups schema cs ids) (where_listed ids (took schema) x conn) apart in
      ap (λ (b : Bool). if b then place_used (told (parts_of db (groups schema cs (id ∷ ids))) (x, where_listed (id ∷ ids) (took schema) x conn)) else told (parts_of db (groups schema cs (id ∷ ids))) (x, where_listed (id ∷ ids) (took schema) x conn)) listed
      ∙ ap (λ (c : Conn). where_listed (conns_of (batch_of schema cs ids)) place_used x (told (parts_of db (groups schema cs (id ∷ ids))) (x, c))) took_it
      ∙ ap (λ (c : Conn). where_listed (conns_of (batch_of schema cs ids)) place_used x c) told_it

  -- the one at hand, which asks for this
  own_by : (db : Database) (ids : List ConnId) (x : ConnId) (conn : Conn) (kinds : List ItemKind) → is_listed ids x ≡ false → conn ≡ conn_of cs x → kinds_at schema cs x ≡ kinds → settled_conn schema cs db (x ∷ ids) x conn ≡ replied schema db conn
  own_by db ids x conn [] none found is =
      let asks_nothing : asked schema conn ≡ [] = ap (asked schema) found ∙ is in
      let listed : is_listed (conns_of (batch_of schema cs (x ∷ ids))) x ≡ false = ap (λ (items : List Item). is_listed (conns_of (items ++ batch_of schema cs ids)) x) (items_are schema cs x) ∙ ap (λ (ks : List ItemKind). is_listed (conns_of (map (item_of x) ks ++ batch_of schema cs ids)) x) is ∙ unlisted schema cs ids x none in
      let runs : groups schema cs (x ∷ ids) ≡ groups schema cs ids = ap (λ (ks : List ItemKind). with_group x ks (groups schema cs ids)) is in
      let took_it : where_listed (x ∷ ids) (took schema) x conn ≡ conn = rw (same_id-refl x) (took_nothing schema conn asks_nothing) in
      let no_part : is_listed (answered_by (parts_of db (groups schema cs ids))) x ≡ false = ap (λ (i : List ConnId). is_listed i x) (answered-heads db (groups schema cs ids)) ∙ heads_unlisted schema cs ids x none in
      ap (λ (b : Bool). if b then place_used (told (parts_of db (groups schema cs (x ∷ ids))) (x, where_listed (x ∷ ids) (took schema) x conn)) else told (parts_of db (groups schema cs (x ∷ ids))) (x, where_listed (x ∷ ids) (took schema) x conn)) listed
      ∙ ap (λ (c : Conn). told (parts_of db (groups schema cs (x ∷ ids))) (x, c)) took_it
      ∙ ap (λ (r : List (ConnId × List ItemKind)). told (parts_of db r) (x, conn)) runs
      ∙ told_none (parts_of db (groups schema cs ids)) x conn no_part
      ∙ sym (rw asks_nothing refl)
  own_by db ids x conn (kind ∷ kinds) none found is =
      let asks : asked schema conn ≡ kind ∷ kinds = ap (asked schema) found ∙ is in
      let listed : is_listed (conns_of (batch_of schema cs (x ∷ ids))) x ≡ true = ap (λ (items : List Item). is_listed (conns_of (items ++ batch_of schema cs ids)) x) (items_are schema cs x) ∙ ap (λ (ks : List ItemKind). is_listed (conns_of (map (item_of x) ks ++ batch_of schema cs ids)) x) is ∙ listed_own x kind kinds (batch_of schema cs ids) in
      let runs : groups schema cs (x ∷ ids) ≡ (x, kind ∷ kinds) ∷ groups schema cs ids = ap (λ (ks : List ItemKind). with_group x ks (groups schema cs ids)) is in
      let took_it : where_listed (x ∷ ids) (took schema) x conn ≡ took schema conn = rw (same_id-refl x) refl in
      let text = replies_to db (kind ∷ kinds) in
      let told_it : told (parts_of db ((x, kind ∷ kinds) ∷ groups schema cs ids)) (x, took schema conn) ≡ answered text (took schema conn) = rw (same_id-refl x) refl in
      ap (λ (b : Bool). if b then place_used (told (parts_of db (groups schema cs (x ∷ ids))) (x, where_listed (x ∷ ids) (took schema) x conn)) else told (parts_of db (groups schema cs (x ∷ ids))) (x, where_listed (x ∷ ids) (took schema) x conn)) listed
      ∙ ap (λ (c : Conn). place_used (told (parts_of db (groups schema cs (x ∷ ids))) (x, c))) took_it
      ∙ ap (λ (r : List (ConnId × List ItemKind)). place_used (told (parts_of db r) (x, took schema conn))) runs
      ∙ ap place_used told_it
      ∙ used_after text (took schema conn)
      ∙ sym (rw asks refl)

  replied_here : (db : Database) (id : ConnId) (ids : List ConnId) (x : ConnId) (conn : Conn) → same_id x id ≡ true → replied_conn schema cs db (id ∷ ids) x conn ≡ replied schema db conn
  replied_here db id ids x conn same = rw same refl

  replied_later : (db : Database) (id : ConnId) (ids : List ConnId) (x : ConnId) (conn : Conn) → same_id x id ≡ false → replied_conn schema cs db (id ∷ ids) x conn ≡ replied_conn schema cs (after_all db (kinds_at schema cs id)) ids x conn
  replied_later db id ids x conn other = rw other refl

  pub settled_is : (db : Database) (ids : List ConnId) (x : ConnId) (conn : Conn) → are_once ids ≡ true → conn ≡ conn_of cs x → settled_conn schema cs db ids x conn ≡ replied_conn schema cs db ids x conn
  settled_is db [] x conn once found = refl
  settled_is db (id ∷ ids) x conn once found =
      ⊎_elim
      (λ same.
      let here : x ≡ id = same_id-is x id same in
      let none : is_listed ids x ≡ false = subst (λ (i : ConnId). is_listed ids i ≡ false) (sym here) (once-head id ids once) in
      ap (λ (i : ConnId). settled_conn schema cs db (i ∷ ids) x conn) (sym here) ∙ own_by db ids x conn (kinds_at schema cs x) none found refl ∙ sym (replied_here db id ids x conn same))
      (λ other. step_other db id ids x conn other ∙ settled_is (after_all db (kinds_at schema cs id)) ids x conn (once-tail id ids once) found ∙ sym (replied_later db id ids x conn other))
      (cases_Bool (same_id x id))
