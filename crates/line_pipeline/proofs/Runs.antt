-- The batch of a turn, by its connections.
use Rattle.std.proofs.Common.{◌≡◌, true, false, List, [], ◌∷◌, ◌++◌, map, Option, Some, None, refl, ap, ◌∙◌, ⊎_elim}
use Rattle.std.specs.List.{list_all}
use Rattle.std.proofs.lemmas.Bool.{cases_Bool, or_parts, or_left, or_right, and_from, and_parts}
use Rattle.request_types.specs.declared.connections.ConnId.{ConnId}
use Rattle.row_types.specs.declared.tables.Schema.{Schema}
use Rattle.request_types.specs.declared.batches.Item.{Item}
use Rattle.request_types.specs.declared.batches.ItemKind.{ItemKind}
use Rattle.line_pipeline.specs.declared.conns.Conn.{Conn}
use Rattle.line_pipeline.specs.declared.conns.Conn.TheVariants as conns
use Rattle.line_pipeline.specs.Live.{item_of}
use Rattle.line_pipeline.specs.Conn.{items_of}
use Rattle.request_types.specs.Ids.{same_id, is_listed, are_once}
use Rattle.line_pipeline.specs.Table.{conn_at}
use Rattle.request_types.proofs.Ids.{same_id-refl, once-head, once-tail}
use Rattle.request_types.specs.Batches.{conns_of, with_item, runs_of, heads}
use Rattle.line_pipeline.specs.Gathered.{items_at, batch_of, conn_or_none, conn_of, asked}

-- a run before the others, if it has an item
abbrev pub with_group : ConnId → List ItemKind → List (ConnId × List ItemKind) → List (ConnId × List ItemKind)
with_group id [] runs = runs
with_group id (kind ∷ kinds) runs = (id, kind ∷ kinds) ∷ runs

-- what the connection of this id asks for
abbrev pub kinds_at : Schema → List (ConnId × Conn) → ConnId → List ItemKind
kinds_at schema cs id = asked schema (conn_of cs id)

-- the runs of these connections
abbrev pub groups : Schema → List (ConnId × Conn) → List ConnId → List (ConnId × List ItemKind)
groups schema cs [] = []
groups schema cs (id ∷ ids) = with_group id (kinds_at schema cs id) (groups schema cs ids)

-- ---- the items of a connection

items_asked : (schema : Schema) (id : ConnId) (conn : Conn) → items_of schema id conn ≡ map (item_of id) (asked schema conn)
items_asked schema id (conns.Live l) = refl
items_asked schema id (conns.Closed reason) = refl

items_by : (schema : Schema) (cs : List (ConnId × Conn)) (id : ConnId) (o : Option Conn) → conn_at cs id ≡ o → items_at schema cs id ≡ map (item_of id) (asked schema (conn_or_none o))
items_by schema cs id None is = rw is refl
items_by schema cs id (Some conn) is = rw is (items_asked schema id conn)

pub items_are : (schema : Schema) (cs : List (ConnId × Conn)) (id : ConnId) → items_at schema cs id ≡ map (item_of id) (kinds_at schema cs id)
items_are schema cs id = items_by schema cs id (conn_at cs id) refl

-- ---- items of which the first are of one connection

first_is : (item : Item) (runs : List (ConnId × List ItemKind)) → (kinds : List ItemKind) × (rest : List (ConnId × List ItemKind)) × (with_item item runs ≡ (item.conn, kinds) ∷ rest)
first_is item [] = (item.kind ∷ [], [], refl)
first_is item (run ∷ runs) =
    ⊎_elim
    (λ same. (item.kind ∷ run.1, runs, rw same refl))
    (λ other. (item.kind ∷ [], run ∷ runs, rw other refl))
    (cases_Bool (same_id item.conn run.0))

alone : (item : Item) (items : List Item) → is_listed (conns_of items) item.conn ≡ false → with_item item (runs_of items) ≡ (item.conn, item.kind ∷ []) ∷ runs_of items
alone item [] none = refl
alone item (next ∷ items) none =
    let f = first_is next (runs_of items) in
    let apart : same_id item.conn next.conn ≡ false = (or_parts (same_id item.conn next.conn) (is_listed (conns_of items) item.conn) none).0 in
    rw (f.2, apart) refl

pub run_group : (id : ConnId) (kinds : List ItemKind) (items : List Item) → is_listed (conns_of items) id ≡ false → runs_of (map (item_of id) kinds ++ items) ≡ with_group id kinds (runs_of items)
run_group id [] items none = refl
run_group id (kind ∷ []) items none = alone (item_of id kind) items none
run_group id (kind ∷ next ∷ kinds) items none =
    let later : runs_of (map (item_of id) (next ∷ kinds) ++ items) ≡ with_group id (next ∷ kinds) (runs_of items) = run_group id (next ∷ kinds) items none in
    ap (with_item (item_of id kind)) later ∙ rw (same_id-refl id) refl

-- ---- which connections the items name

listed-items : (id other : ConnId) (kinds : List ItemKind) (items : List Item) → same_id other id ≡ false → is_listed (conns_of (map (item_of id) kinds ++ items)) other ≡ is_listed (conns_of items) other
listed-items id other [] items apart = refl
listed-items id other (kind ∷ kinds) items apart = rw apart (listed-items id other kinds items apart)

-- an id that isn't listed is named by no item
module _ (schema : Schema) (cs : List (ConnId × Conn)) where
  pub unlisted : (ids : List ConnId) (other : ConnId) → is_listed ids other ≡ false → is_listed (conns_of (batch_of schema cs ids)) other ≡ false
  unlisted [] other none = refl
  unlisted (id ∷ ids) other none =
      let apart = or_parts (same_id other id) (is_listed ids other) none in
      ap (λ (items : List Item). is_listed (conns_of (items ++ batch_of schema cs ids)) other) (items_are schema cs id)
      ∙ listed-items id other (kinds_at schema cs id) (batch_of schema cs ids) apart.0
      ∙ unlisted ids other apart.1

  pub runs_are : (ids : List ConnId) → are_once ids ≡ true → runs_of (batch_of schema cs ids) ≡ groups schema cs ids
  runs_are [] once = refl
  runs_are (id ∷ ids) once =
      ap (λ (items : List Item). runs_of (items ++ batch_of schema cs ids)) (items_are schema cs id)
      ∙ run_group id (kinds_at schema cs id) (batch_of schema cs ids) (unlisted ids id (once-head id ids once))
      ∙ ap (with_group id (kinds_at schema cs id)) (runs_are ids (once-tail id ids once))

-- ---- the parts name connections of the items, each once

all_more : (first : ConnId) (all ids : List ConnId) → list_all (is_listed all) ids ≡ true → list_all (is_listed (first ∷ all)) ids ≡ true
all_more first all [] is = refl
all_more first all (id ∷ ids) is =
    let parts = and_parts (is_listed all id) (list_all (is_listed all) ids) is in
    and_from (is_listed (first ∷ all) id) (list_all (is_listed (first ∷ all)) ids) (or_right (same_id id first) (is_listed all id) parts.0) (all_more first all ids parts.1)

heads_step : (item : Item) (all : List ConnId) (runs : List (ConnId × List ItemKind)) → list_all (is_listed all) (heads runs) ≡ true → list_all (is_listed (item.conn ∷ all)) (heads (with_item item runs)) ≡ true
heads_step item all [] is = and_from (is_listed (item.conn ∷ all) item.conn) true (or_left (same_id item.conn item.conn) (is_listed all item.conn) (same_id-refl item.conn)) refl
heads_step item all (run ∷ runs) is =
    let here : is_listed (item.conn ∷ all) item.conn ≡ true = or_left (same_id item.conn item.conn) (is_listed all item.conn) (same_id-refl item.conn) in
    let more = all_more item.conn all (heads (run ∷ runs)) is in
    ⊎_elim
    (λ same. rw same (and_from (is_listed (item.conn ∷ all) item.conn) (list_all (is_listed (item.conn ∷ all)) (heads runs)) here (and_parts (is_listed (item.conn ∷ all) run.0) (list_all (is_listed (item.conn ∷ all)) (heads runs)) more).1))
    (λ other. rw other (and_from (is_listed (item.conn ∷ all) item.conn) (list_all (is_listed (item.conn ∷ all)) (heads (run ∷ runs))) here more))
    (cases_Bool (same_id item.conn run.0))

pub heads_asked : (items : List Item) → list_all (is_listed (conns_of items)) (heads (runs_of items)) ≡ true
heads_asked [] = refl
heads_asked (item ∷ items) = heads_step item (conns_of items) (runs_of items) (heads_asked items)

head_apart : (id other : ConnId) (kinds : List ItemKind) (runs : List (ConnId × List ItemKind)) → same_id other id ≡ false → is_listed (heads runs) other ≡ false → is_listed (heads (with_group id kinds runs)) other ≡ false
head_apart id other [] runs apart none = none
head_apart id other (kind ∷ kinds) runs apart none = rw apart none

once_with : (id : ConnId) (kinds : List ItemKind) (runs : List (ConnId × List ItemKind)) → is_listed (heads runs) id ≡ false → are_once (heads runs) ≡ true → are_once (heads (with_group id kinds runs)) ≡ true
once_with id [] runs none once = once
once_with id (kind ∷ kinds) runs none once = rw none once

module _ (schema : Schema) (cs : List (ConnId × Conn)) where
  pub heads_unlisted : (ids : List ConnId) (other : ConnId) → is_listed ids other ≡ false → is_listed (heads (groups schema cs ids)) other ≡ false
  heads_unlisted [] other none = refl
  heads_unlisted (id ∷ ids) other none =
      let apart = or_parts (same_id other id) (is_listed ids other) none in
      head_apart id other (kinds_at schema cs id) (groups schema cs ids) apart.0 (heads_unlisted ids other apart.1)

  pub heads_once : (ids : List ConnId) → are_once ids ≡ true → are_once (heads (groups schema cs ids)) ≡ true
  heads_once [] once = refl
  heads_once (id ∷ ids) once =
      once_with id (kinds_at schema cs id) (groups schema cs ids) (heads_unlisted ids id (once-head id ids once)) (heads_once ids (once-tail id ids once))

-- the items of each connection stand together
pub together : (schema : Schema) (cs : List (ConnId × Conn)) (ids : List ConnId) → are_once ids ≡ true → are_once (heads (runs_of (batch_of schema cs ids))) ≡ true
together schema cs ids once = ap (λ (runs : List (ConnId × List ItemKind)). are_once (heads runs)) (runs_are schema cs ids once) ∙ heads_once schema cs ids once
