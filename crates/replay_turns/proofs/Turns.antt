-- A batch answers the connections of the listed numbers one after another.
use Rattle.std.proofs.Common.{◌≡◌, ℕ, true, false, eqb, List, [], ◌∷◌, ◌++◌, Option, Some, None, is_some, refl, sym, ap, subst, ◌∙◌, ⊎_elim}
use Rattle.std.specs.Prelude.{option_to_list}
use Rattle.std.proofs.lemmas.Bool.{cases_Bool, or_parts}
use Rattle.request_types.specs.declared.connections.ConnId.{ConnId}
use Rattle.row_types.specs.declared.tables.Schema.{Schema}
use Rattle.request_types.specs.declared.batches.ItemKind.{ItemKind}
use Rattle.hs_outside.specs.MemoryLink.{LinkInMemory}
use Rattle.line_pipeline.specs.declared.conns.Conn.{Conn}
use Rattle.request_types.specs.Ids.{same_id, is_listed, are_once}
use Rattle.line_pipeline.specs.Table.{Table, conn_at, is_held, changed}
use Rattle.line_pipeline.specs.Gathered.{asked, conn_or_none, conn_of}
use Rattle.request_types.proofs.Ids.{same_id-is, same_id-other, once-head, once-tail}
use Rattle.line_pipeline.proofs.TableLemmas.{conn_at-changed}
use Rattle.line_pipeline.proofs.Runs.{kinds_at, groups, with_group}
use Rattle.table_rows.specs.Database.{Database}
use Rattle.batch_answers.specs.Answers.{after_all}
use Rattle.batch_answers.specs.Batches.{after_runs}
use Rattle.batch_worker.proofs.Lookups.{conn_at-own, conn_of-own, held-map}
use Rattle.replay_turns.specs.declared.entries.Entry.{Entry}
use Rattle.replay_turns.specs.Linked.{Linked, linked_at, on, with}
use Rattle.replay_turns.specs.Replying.{replied, with_replies, rows_after, all_replied}
use Rattle.replay_turns.specs.Entries.{beside, link_of, linked, all_linked, id_at, ids_at, ids_of}
use Rattle.replay_turns.proofs.Lookups.{linked_at-missing, on-missing}
use Rattle.replay_turns.proofs.Places.{AreHeld, all_linked-other, apart}
use Rattle.replay_turns.proofs.Numbers.{some_id, none_id, id_here, id_more, missing_id, id_listed}
use Rattle.replay_turns.proofs.Settling.{replied_conn}

module _ (links : List (Option LinkInMemory)) where
  linked_here : (cs : List (ConnId × Conn)) (number : ℕ) (e : Entry) (es : List Entry) → eqb e.number number ≡ true → linked_at number (all_linked cs links (e ∷ es)) ≡ Some (linked cs links e)
  linked_here cs number e es is = rw is refl

  linked_more : (cs : List (ConnId × Conn)) (number : ℕ) (e : Entry) (es : List Entry) → eqb e.number number ≡ false → linked_at number (all_linked cs links (e ∷ es)) ≡ linked_at number (all_linked cs links es)
  linked_more cs number e es is = rw is refl

  linked_by : (cs : List (ConnId × Conn)) (number : ℕ) (es : List Entry) (id : ConnId) → id_at number es ≡ Some id → (e : Entry) × (linked_at number (all_linked cs links es) ≡ Some (linked cs links e)) × (e.id ≡ id)
  linked_by cs number [] id is = absurd (none_id id is)
  linked_by cs number (e ∷ es) id is =
      ⊎_elim
      (λ here. (e, linked_here cs number e es here, some_id e.id id (sym (id_here number e es here) ∙ is)))
      (λ other.
      let later = linked_by cs number es id (sym (id_more number e es other) ∙ is) in
      (later.0, linked_more cs number e es other ∙ later.1, later.2))
      (cases_Bool (eqb e.number number))

  -- ---- one connection was answered

  on-changed : (t : Table) (cs : List (ConnId × Conn)) (f : Conn → Conn) (number : ℕ) (id : ConnId) (es : List Entry) → are_once (ids_of es) ≡ true → id_at number es ≡ Some id → is_held cs id ≡ true → AreHeld cs es → on number (with (λ t. record t { conn = f t.conn })) (all_linked cs links es) ≡ all_linked (changed id f cs) links es
  on-changed t cs f number id [] once is held all = absurd (none_id id is)
  on-changed t cs f number id (e ∷ es) once is held all =
      let old : Table = record t { conns = cs } in
      let new : Table = record t { conns = changed id f cs } in
      ⊎_elim
      (λ here.
      let same : e.id ≡ id = some_id e.id id (sym (id_here number e es here) ∙ is) in
      let none : is_listed (ids_of es) id ≡ false = subst (λ (x : ConnId). is_listed (ids_of es) x ≡ false) same (once-head e.id (ids_of es) once) in
      let own : conn_of (changed id f cs) e.id ≡ f (conn_of cs e.id) = ap (conn_of (changed id f cs)) same ∙ conn_of-own f id old new refl held ∙ ap (λ (x : ConnId). f (conn_of cs x)) (sym same) in
      rw here (ap (λ (conn : Conn). beside conn (link_of links e.id) e ∷ all_linked cs links es) (sym own) ∙ ap (λ (ls : List Linked). linked (changed id f cs) links e ∷ ls) (sym (all_linked-other id cs links (changed id f cs) links (record { conn = λ x was different. conn_at-changed f id x cs different; link = λ x was different. refl }) es all.1 none))))
      (λ other.
      let at : id_at number es ≡ Some id = sym (id_more number e es other) ∙ is in
      let different : same_id e.id id ≡ false = apart (ids_of es) id e.id (id_listed number es id at) (once-head e.id (ids_of es) once) in
      let kept : linked (changed id f cs) links e ≡ linked cs links e = ap (λ (o : Option Conn). beside (conn_or_none o) (link_of links e.id) e) (conn_at-changed f id e.id cs different) in
      rw (other, kept) (ap (λ (ls : List Linked). linked cs links e ∷ ls) (on-changed t cs f number id es (once-tail e.id (ids_of es) once) at held all.1)))
      (cases_Bool (eqb e.number number))

  module _ (schema : Schema) (f : Conn → Conn) (id : ConnId) (cs : List (ConnId × Conn)) where
    kinds_other : (other : ConnId) → same_id other id ≡ false → kinds_at schema (changed id f cs) other ≡ kinds_at schema cs other
    kinds_other other different = ap (λ (o : Option Conn). asked schema (conn_or_none o)) (conn_at-changed f id other cs different)

    groups_other : (ids : List ConnId) → is_listed ids id ≡ false → groups schema (changed id f cs) ids ≡ groups schema cs ids
    groups_other [] none = refl
    groups_other (first ∷ ids) none =
        let parts = or_parts (same_id id first) (is_listed ids id) none in
        rw (kinds_other first (same_id-other id first parts.0), groups_other ids parts.1) refl

    replied_other : (db : Database) (ids : List ConnId) (x : ConnId) (conn : Conn) → is_listed ids id ≡ false → replied_conn schema (changed id f cs) db ids x conn ≡ replied_conn schema cs db ids x conn
    replied_other db [] x conn none = refl
    replied_other db (first ∷ ids) x conn none =
        let parts = or_parts (same_id id first) (is_listed ids id) none in
        rw (kinds_other first (same_id-other id first parts.0), replied_other (after_all db (kinds_at schema cs first)) ids x conn parts.1) refl

  replied_none : (schema : Schema) (cs : List (ConnId × Conn)) (db : Database) (ids : List ConnId) (x : ConnId) (conn : Conn) → is_listed ids x ≡ false → replied_conn schema cs db ids x conn ≡ conn
  replied_none schema cs db [] x conn none = refl
  replied_none schema cs db (id ∷ ids) x conn none =
      let parts = or_parts (same_id x id) (is_listed ids x) none in
      rw parts.0 (replied_none schema cs (after_all db (kinds_at schema cs id)) ids x conn parts.1)

  runs_with : (db : Database) (id : ConnId) (kinds : List ItemKind) (runs : List (ConnId × List ItemKind)) → after_runs db (with_group id kinds runs) ≡ after_runs (after_all db kinds) runs
  runs_with db id [] runs = refl
  runs_with db id (kind ∷ kinds) runs = refl

  -- ---- all of them

  same_linked : (cs final : List (ConnId × Conn)) (es : List Entry) → AreHeld cs es → ((x : ConnId) → is_held cs x ≡ true → conn_of final x ≡ conn_of cs x) → all_linked final links es ≡ all_linked cs links es
  same_linked cs final [] held same = refl
  same_linked cs final (e ∷ es) held same =
      let first : linked final links e ≡ linked cs links e = ap (λ (conn : Conn). beside conn (link_of links e.id) e) (same e.id held.0) in
      rw (first, same_linked cs final es held.1 same) refl

  held_same : (f : Conn → Conn) (id x : ConnId) (cs : List (ConnId × Conn)) → is_held (changed id f cs) x ≡ is_held cs x
  held_same f id x cs =
      ⊎_elim
      (λ same. subst (λ (i : ConnId). is_held (changed i f cs) x ≡ is_held cs x) (same_id-is x id same) (ap (λ (o : Option Conn). is_some o) (conn_at-own f x cs) ∙ held-map f (conn_at cs x)))
      (λ other. ap (λ (o : Option Conn). is_some o) (conn_at-changed f id x cs other))
      (cases_Bool (same_id x id))

  each_held : (f : Conn → Conn) (id : ConnId) (cs : List (ConnId × Conn)) (es : List Entry) → AreHeld cs es → AreHeld (changed id f cs) es
  each_held f id cs [] held = tt
  each_held f id cs (e ∷ es) held = (held_same f id e.id cs ∙ held.0, each_held f id cs es held.1)

  held_id_of : (number : ℕ) (cs : List (ConnId × Conn)) (es : List Entry) (id : ConnId) → id_at number es ≡ Some id → AreHeld cs es → is_held cs id ≡ true
  held_id_of number cs [] id is held = absurd (none_id id is)
  held_id_of number cs (e ∷ es) id is held =
      ⊎_elim
      (λ here. subst (λ (x : ConnId). is_held cs x ≡ true) (some_id e.id id (sym (id_here number e es here) ∙ is)) held.0)
      (λ other. held_id_of number cs es id (sym (id_more number e es other) ∙ is) held.1)
      (cases_Bool (eqb e.number number))

  module _ (t : Table) (schema : Schema) (es : List Entry) (once : are_once (ids_of es) ≡ true) (final : List (ConnId × Conn)) where
    -- the connections in the end are those that were answered one after another
    abbrev IsFinal : List (ConnId × Conn) → Database → List ConnId → Type 0
    IsFinal cs db ids = (x : ConnId) → is_held cs x ≡ true → conn_of final x ≡ replied_conn schema cs db ids x (conn_of cs x)

    final_on : (cs : List (ConnId × Conn)) (db : Database) (id : ConnId) (ids : List ConnId) → is_held cs id ≡ true → is_listed ids id ≡ false → IsFinal cs db (id ∷ ids) → IsFinal (changed id (replied schema db) cs) (after_all db (kinds_at schema cs id)) ids
    final_on cs db id ids held none is x held_x =
        let f = replied schema db in
        let later = after_all db (kinds_at schema cs id) in
        let was = is x (sym (held_same f id x cs) ∙ held_x) in
        ⊎_elim
        (λ same.
        let here : x ≡ id = same_id-is x id same in
        let unlisted : is_listed ids x ≡ false = subst (λ (i : ConnId). is_listed ids i ≡ false) (sym here) none in
        let own : conn_of (changed id f cs) x ≡ f (conn_of cs x) = ap (conn_of (changed id f cs)) here ∙ conn_of-own f id (record t { conns = cs }) (record t { conns = changed id f cs }) refl held ∙ ap (λ (i : ConnId). f (conn_of cs i)) (sym here) in
        let first : replied_conn schema cs db (id ∷ ids) x (conn_of cs x) ≡ f (conn_of cs x) = rw same refl in
        was ∙ first ∙ sym own ∙ sym (replied_none schema (changed id f cs) later ids x (conn_of (changed id f cs) x) unlisted))
        (λ other.
        let kept : conn_of (changed id f cs) x ≡ conn_of cs x = ap conn_or_none (conn_at-changed f id x cs other) in
        let first : replied_conn schema cs db (id ∷ ids) x (conn_of cs x) ≡ replied_conn schema cs later ids x (conn_of cs x) = rw other refl in
        was ∙ first ∙ sym (replied_other schema f id cs later ids x (conn_of cs x) none) ∙ ap (replied_conn schema (changed id f cs) later ids x) (sym kept))
        (cases_Bool (same_id x id))

    step : (number : ℕ) (numbers : List ℕ) (cs : List (ConnId × Conn)) (db : Database) → ((later : List (ConnId × Conn)) (d : Database) → are_once (ids_at es numbers) ≡ true → AreHeld later es → IsFinal later d (ids_at es numbers) → all_replied schema numbers d (all_linked later links es) ≡ (after_runs d (groups schema later (ids_at es numbers)), all_linked final links es)) → (o : Option ConnId) → id_at number es ≡ o → are_once (option_to_list o ++ ids_at es numbers) ≡ true → AreHeld cs es → IsFinal cs db (option_to_list o ++ ids_at es numbers) → all_replied schema (number ∷ numbers) db (all_linked cs links es) ≡ (after_runs db (groups schema cs (option_to_list o ++ ids_at es numbers)), all_linked final links es)
    step number numbers cs db again None at ids held is =
        let none = missing_id number es at in
        ap (λ (o : Option Linked). all_replied schema numbers (rows_after schema db o) (on number (with_replies schema db) (all_linked cs links es))) (linked_at-missing cs links number es none)
        ∙ ap (all_replied schema numbers db) (on-missing cs links number (with_replies schema db) es none)
        ∙ again cs db ids held is
    step number numbers cs db again (Some id) at ids held is =
        let f = replied schema db in
        let held_id = held_id_of number cs es id at held in
        let none = once-head id (ids_at es numbers) ids in
        let by = linked_by cs number es id at in
        let later = after_all db (kinds_at schema cs id) in
        ap (λ (o : Option Linked). all_replied schema numbers (rows_after schema db o) (on number (with_replies schema db) (all_linked cs links es))) by.1
        ∙ ap (λ (x : ConnId). all_replied schema numbers (after_all db (asked schema (conn_of cs x))) (on number (with_replies schema db) (all_linked cs links es))) by.2
        ∙ ap (all_replied schema numbers later) (on-changed t cs f number id es once at held_id held)
        ∙ again (changed id f cs) later (once-tail id (ids_at es numbers) ids) (each_held f id cs es held) (final_on cs db id (ids_at es numbers) held_id none is)
        ∙ ap (λ (runs : List (ConnId × List ItemKind)). (after_runs later runs, all_linked final links es)) (groups_other schema f id cs (ids_at es numbers) none)
        ∙ ap (λ (d : Database). (d, all_linked final links es)) (sym (runs_with db id (kinds_at schema cs id) (groups schema cs (ids_at es numbers))))

    pub all_replied-is : (numbers : List ℕ) (cs : List (ConnId × Conn)) (db : Database) → are_once (ids_at es numbers) ≡ true → AreHeld cs es → IsFinal cs db (ids_at es numbers) → all_replied schema numbers db (all_linked cs links es) ≡ (after_runs db (groups schema cs (ids_at es numbers)), all_linked final links es)
    all_replied-is [] cs db ids held is = ap (λ (ls : List Linked). (db, ls)) (sym (same_linked cs final es held is))
    all_replied-is (number ∷ numbers) cs db ids held is = step number numbers cs db (λ later d. all_replied-is numbers later d) (id_at number es) refl ids held is
