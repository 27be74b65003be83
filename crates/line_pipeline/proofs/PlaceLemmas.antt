-- Each connection that gave a line has a place for its replies.
use Rattle.std.proofs.Common.{◌≡◌, ℕ, Bool, true, false, ◌||◌, List, [], ◌∷◌, ◌++◌, map, length, Option, Some, None, option_map, refl, sym, ap, subst, ◌∙◌, ⊎_elim, arith}
use Rattle.std.specs.Prelude.{nat_lt, IsSomeAnd}
use Rattle.std.specs.List.{AllByRecursion}
use Rattle.std.proofs.lemmas.Bool.{cases_Bool, lt-ltb, or_left, or_right}
use Rattle.request_types.specs.declared.connections.ConnId.{ConnId}
use Rattle.row_types.specs.declared.tables.Schema.{Schema}
use Rattle.request_types.specs.declared.batches.Item.{Item}
use Rattle.request_types.specs.declared.batches.ItemKind.{ItemKind}
use Rattle.line_pipeline.specs.declared.conns.Conn.{Conn}
use Rattle.line_pipeline.specs.declared.conns.Conn.TheVariants as conns
use Rattle.line_pipeline.specs.Live.{Live, taken_lines, kinds_of, item_of}
use Rattle.line_pipeline.specs.Conn.{took, items_of, has_place}
use Rattle.request_types.specs.Ids.{same_id, is_listed}
use Rattle.line_pipeline.specs.Table.{conn_at, all_changed}
use Rattle.line_pipeline.specs.Gathered.{items_at, batch_of}
use Rattle.line_pipeline.specs.Settled.{HasPlace}
use Rattle.request_types.specs.Batches.{conns_of}
use Rattle.request_types.proofs.Ids.{same_id-refl, same_id-is}
use Rattle.line_pipeline.proofs.GatherLemmas.{items_at-found, items_at-missing}

-- another connection stands before
head_apart : (f : Conn → Conn) (ids : List ConnId) (c : ConnId × Conn) (cs : List (ConnId × Conn)) (id : ConnId) → same_id c.0 id ≡ false → conn_at (all_changed ids f cs) id ≡ option_map f (conn_at cs id) → (b : Bool) → is_listed ids c.0 ≡ b → conn_at (all_changed ids f (c ∷ cs)) id ≡ option_map f (conn_at (c ∷ cs) id)
head_apart f ids c cs id other later true is = rw is (rw other later)
head_apart f ids c cs id other later false is = rw is (rw other later)

-- a listed connection is changed
pub conn_at-all_changed : (f : Conn → Conn) (ids : List ConnId) (cs : List (ConnId × Conn)) (id : ConnId) → is_listed ids id ≡ true → conn_at (all_changed ids f cs) id ≡ option_map f (conn_at cs id)
conn_at-all_changed f ids [] id listed = refl
conn_at-all_changed f ids (c ∷ cs) id listed =
    ⊎_elim
    (λ same.
    let here : is_listed ids c.0 ≡ true = subst (λ (x : ConnId). is_listed ids x ≡ true) (sym (same_id-is c.0 id same)) listed in
    rw here (rw same refl))
    (λ other. head_apart f ids c cs id other (conn_at-all_changed f ids cs id listed) (is_listed ids c.0) refl)
    (cases_Bool (same_id c.0 id))

-- the items of a connection name it, and it has a place if there are some
each_named : (cs : List (ConnId × Conn)) (id : ConnId) (kinds : List ItemKind) → HasPlace cs id → AllByRecursion (HasPlace cs) (conns_of (map (item_of id) kinds))
each_named cs id [] place = tt
each_named cs id (kind ∷ kinds) place = (place, each_named cs id kinds place)

by_lines : (schema : Schema) (cs : List (ConnId × Conn)) (id : ConnId) (l : Live) (lines : List (List ℕ)) → taken_lines l ≡ lines → conn_at cs id ≡ Some (took schema (conns.Live l)) → AllByRecursion (HasPlace cs) (conns_of (map (item_of id) (kinds_of schema l.port l.handles l.auth lines)))
by_lines schema cs id l [] is there = tt
by_lines schema cs id l (line ∷ lines) is there =
    let some : nat_lt 0 (length (line ∷ lines)) ≡ true = lt-ltb 0 (length (line ∷ lines)) (omega arith) in
    let reserved : (l.has_place || nat_lt 0 (length (taken_lines l))) ≡ true = ap (λ (t : List (List ℕ)). l.has_place || nat_lt 0 (length t)) is ∙ or_right l.has_place (nat_lt 0 (length (line ∷ lines))) some in
    each_named cs id (kinds_of schema l.port l.handles l.auth (line ∷ lines)) (subst (λ (held : Option Conn). IsSomeAnd held (λ conn. has_place conn ≡ true)) (sym there) reserved)

items_placed : (schema : Schema) (cs : List (ConnId × Conn)) (id : ConnId) (conn : Conn) → conn_at cs id ≡ Some (took schema conn) → AllByRecursion (HasPlace cs) (conns_of (items_of schema id conn))
items_placed schema cs id (conns.Closed reason) there = tt
items_placed schema cs id (conns.Live l) there = by_lines schema cs id l (taken_lines l) refl there

module _ (schema : Schema) (cs : List (ConnId × Conn)) (ready : List ConnId) where
  abbrev after : List (ConnId × Conn)
  after = all_changed ready (took schema) cs

  at_placed : (id : ConnId) (held : Option Conn) → is_listed ready id ≡ true → conn_at cs id ≡ held → AllByRecursion (HasPlace after) (conns_of (items_at schema cs id))
  at_placed id None listed is = subst (λ (items : List Item). AllByRecursion (HasPlace after) (conns_of items)) (sym (items_at-missing schema cs id is)) tt
  at_placed id (Some conn) listed is =
      let there : conn_at after id ≡ Some (took schema conn) = conn_at-all_changed (took schema) ready cs id listed ∙ ap (option_map (took schema)) is in
      subst (λ (items : List Item). AllByRecursion (HasPlace after) (conns_of items)) (sym (items_at-found schema cs id conn is)) (items_placed schema after id conn there)

  all_append : (xs ys : List Item) → AllByRecursion (HasPlace after) (conns_of xs) → AllByRecursion (HasPlace after) (conns_of ys) → AllByRecursion (HasPlace after) (conns_of (xs ++ ys))
  all_append [] ys first second = second
  all_append (x ∷ xs) ys first second = (first.0, all_append xs ys first.1 second)

  placed : (ids : List ConnId) → AllByRecursion (λ id. is_listed ready id ≡ true) ids → AllByRecursion (HasPlace after) (conns_of (batch_of schema cs ids))
  placed [] listed = tt
  placed (id ∷ ids) listed =
      all_append (items_at schema cs id) (batch_of schema cs ids) (at_placed id (conn_at cs id) listed.0 refl) (placed ids listed.1)

listed_more : (id : ConnId) (all ids : List ConnId) → AllByRecursion (λ i. is_listed all i ≡ true) ids → AllByRecursion (λ i. is_listed (id ∷ all) i ≡ true) ids
listed_more id all [] listed = tt
listed_more id all (first ∷ ids) listed = (or_right (same_id first id) (is_listed all first) listed.0, listed_more id all ids listed.1)

listed_self : (ids : List ConnId) → AllByRecursion (λ i. is_listed ids i ≡ true) ids
listed_self [] = tt
listed_self (id ∷ ids) = (or_left (same_id id id) (is_listed ids id) (same_id-refl id), listed_more id ids ids (listed_self ids))

pub batch_placed : (schema : Schema) (cs : List (ConnId × Conn)) (ready : List ConnId) → AllByRecursion (HasPlace (all_changed ready (took schema) cs)) (conns_of (batch_of schema cs ready))
batch_placed schema cs ready = placed schema cs ready ready (listed_self ready)
