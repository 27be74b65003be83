-- One more connection.
use Rattle.std.proofs.Common.{◌≡◌, Bool, true, false, ◌||◌, List, [], ◌∷◌, ◌++◌, Option, Some, is_some, refl, sym, ap, ◌∙◌, ⊎_elim}
use Rattle.std.specs.Prelude.{if◌then◌else◌}
use Rattle.std.proofs.lemmas.Bool.{cases_Bool, or_parts, both_ways}
use Rattle.std.proofs.lemmas.List.{map-append}
use Rattle.request_types.specs.declared.connections.ConnId.{ConnId}
use Rattle.line_pipeline.specs.declared.conns.Conn.{Conn}
use Rattle.request_types.specs.Ids.{same_id, is_listed, are_once}
use Rattle.line_pipeline.specs.Table.{conn_at, is_held, Joins}
use Rattle.batch_worker.proofs.Lists.{listed-behind}
use Rattle.batch_worker.proofs.Lookups.{or_none}
use Rattle.request_types.proofs.Ids.{same_id-refl, same_id-is, same_id-other, once-head, once-tail}
use Rattle.replay_turns.specs.declared.entries.Entry.{Entry}
use Rattle.replay_turns.specs.Linked.{Linked}
use Rattle.line_pipeline.specs.Gathered.{conn_or_none}
use Rattle.hs_outside.specs.MemoryLink.{LinkInMemory}
use Rattle.replay_turns.specs.Entries.{beside, link_of, linked, all_linked, ids_of, AreEntries}
use Rattle.replay_turns.proofs.Places.{IsSame, held_of, all_linked-other}

module _ (id : ConnId) (conn : Conn) (after : List (ConnId × Conn)) where
  other_in : (before : List (ConnId × Conn)) → ((other : ConnId) → same_id other id ≡ false → conn_at (before ++ (id, conn) ∷ after) other ≡ conn_at (before ++ after) other)
  other_in [] other different = let apart : same_id id other ≡ false = same_id-other other id different in rw apart refl
  other_in (c ∷ before) other different = ap (λ (o : Option Conn). if same_id c.0 other then Some c.1 else o) (other_in before other different)

  own_in : (before : List (ConnId × Conn)) → is_held (before ++ after) id ≡ false → conn_at (before ++ (id, conn) ∷ after) id ≡ Some conn
  own_in [] none = let here : same_id id id ≡ true = same_id-refl id in rw here refl
  own_in (c ∷ before) none =
      ⊎_elim
      (λ same. let held : is_held (c ∷ before ++ after) id ≡ true = rw same refl in absurd (both_ways (is_held (c ∷ before ++ after) id) none held))
      (λ other.
      let later : is_held (c ∷ before ++ after) id ≡ is_held (before ++ after) id = rw other refl in
      let step : conn_at (c ∷ before ++ (id, conn) ∷ after) id ≡ conn_at (before ++ (id, conn) ∷ after) id = rw other refl in
      step ∙ own_in before (sym later ∙ none))
      (cases_Bool (same_id c.0 id))

pub joined-others : (old new : List (ConnId × Conn)) (id : ConnId) (conn : Conn) → Joins old new id conn → (other : ConnId) → same_id other id ≡ false → conn_at new other ≡ conn_at old other
joined-others old new id conn joins other different =
    ap (λ (cs : List (ConnId × Conn)). conn_at cs other) joins.is ∙ other_in id conn joins.after joins.before other different ∙ ap (λ (cs : List (ConnId × Conn)). conn_at cs other) (sym joins.was)

pub joined-own : (old new : List (ConnId × Conn)) (id : ConnId) (conn : Conn) → Joins old new id conn → is_held old id ≡ false → conn_at new id ≡ Some conn
joined-own old new id conn joins none =
    ap (λ (cs : List (ConnId × Conn)). conn_at cs id) joins.is ∙ own_in id conn joins.after joins.before (ap (λ (cs : List (ConnId × Conn)). is_held cs id) (sym joins.was) ∙ none)

listed_end : (es : List Entry) (f : Entry) (id : ConnId) → is_listed (ids_of es) id ≡ false → same_id id f.id ≡ false → is_listed (ids_of (es ++ f ∷ [])) id ≡ false
listed_end [] f id none different = rw different refl
listed_end (e ∷ es) f id none different =
    let parts = or_parts (same_id id e.id) (is_listed (ids_of es) id) none in
    rw parts.0 (listed_end es f id parts.1 different)

once_end : (es : List Entry) (f : Entry) → is_listed (ids_of es) f.id ≡ false → are_once (ids_of es) ≡ true → are_once (ids_of (es ++ f ∷ [])) ≡ true
once_end [] f none once = refl
once_end (e ∷ es) f none once =
    let parts = or_parts (same_id f.id e.id) (is_listed (ids_of es) f.id) none in
    let apart : is_listed (ids_of (es ++ f ∷ [])) e.id ≡ false = listed_end es f e.id (once-head e.id (ids_of es) once) (same_id-other f.id e.id parts.0) in
    rw apart (once_end es f parts.1 (once-tail e.id (ids_of es) once))

ids_end : (es : List Entry) (f : Entry) (x : ConnId) → is_listed (ids_of (es ++ f ∷ [])) x ≡ (is_listed (ids_of es) x || same_id x f.id)
ids_end es f x = ap (λ (ids : List ConnId). is_listed ids x) (map-append (λ (e : Entry). e.id) es (f ∷ [])) ∙ listed-behind (ids_of es) f.id x

or_true : (b : Bool) → (b || true) ≡ true
or_true true = refl
or_true false = refl

module _ (old new : List (ConnId × Conn)) (links links2 : List (Option LinkInMemory)) (f : Entry) (conn : Conn) (link : LinkInMemory) (joins : Joins old new f.id conn) (none : is_held old f.id ≡ false) (there : link_of links2 f.id ≡ link) (kept : (id : ConnId) → is_held old id ≡ true → link_of links2 id ≡ link_of links id) (es : List Entry) (are : AreEntries old es) where
  others : (id : ConnId) → same_id id f.id ≡ false → conn_at new id ≡ conn_at old id
  others = joined-others old new f.id conn joins

  same : IsSame f.id old links new links2
  same = record { conn = λ x held other. others x other; link = λ x held other. kept x held }

  apart_from : is_listed (ids_of es) f.id ≡ false
  apart_from = sym (are.held f.id) ∙ none

  at : conn_at new f.id ≡ Some conn
  at = joined-own old new f.id conn joins none

  own_held : (x : ConnId) → same_id x f.id ≡ true → is_held new x ≡ true
  own_held x own = ap (is_held new) (same_id-is x f.id own) ∙ ap (λ (o : Option Conn). is_some o) at

  pub entries_joined : AreEntries new (es ++ f ∷ [])
  entries_joined = record {
    once = once_end es f apart_from are.once;
    held = λ x.
        ⊎_elim
        (λ own. own_held x own ∙ sym (or_true (is_listed (ids_of es) x)) ∙ ap (λ (b : Bool). is_listed (ids_of es) x || b) (sym own))
        (λ other. ap (λ (o : Option Conn). is_some o) (others x other) ∙ are.held x ∙ sym (or_none (is_listed (ids_of es) x)) ∙ ap (λ (b : Bool). is_listed (ids_of es) x || b) (sym other))
        (cases_Bool (same_id x f.id))
        ∙ sym (ids_end es f x);
  }

  pub linked_joined : all_linked new links2 (es ++ f ∷ []) ≡ all_linked old links es ++ beside conn link f ∷ []
  linked_joined =
      map-append (linked new links2) es (f ∷ [])
      ∙ ap (λ (ls : List Linked). ls ++ linked new links2 f ∷ []) (all_linked-other f.id old links new links2 same es (held_of old es are) apart_from)
      ∙ ap (λ (o : Option Conn). all_linked old links es ++ beside (conn_or_none o) (link_of links2 f.id) f ∷ []) at
      ∙ ap (λ (l : LinkInMemory). all_linked old links es ++ beside conn l f ∷ []) there
