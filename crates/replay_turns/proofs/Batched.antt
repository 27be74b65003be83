-- What a batch makes of the connections that received: they are answered, or closed.
use Rattle.std.proofs.Common.{◌≡◌, ℕ, Bool, true, List, [], ◌∷◌, option_map, refl, sym, ap, ◌∙◌}
use Rattle.std.specs.Prelude.{nat_eq, if◌then◌else◌}
use Rattle.request_types.specs.declared.connections.ConnId.{ConnId}
use Rattle.request_types.specs.declared.batches.Batch.{Batch}
use Rattle.request_types.specs.declared.batches.Replies.{Replies}
use Rattle.request_types.specs.Ids.{is_listed, are_once}
use Rattle.request_types.specs.Batches.{runs_of}
use Rattle.row_types.specs.Valid.{are_distinct}
use Rattle.hs_outside.specs.MemoryLink.{LinkInMemory, known_link}
use Rattle.line_pipeline.specs.declared.outcomes.Outcome.TheVariants as outcomes
use Rattle.line_pipeline.specs.declared.conns.Conn.{Conn}
use Rattle.line_pipeline.specs.declared.reasons.Reason.{Reason}
use Rattle.line_pipeline.specs.Conn.{took, refused, closed}
use Rattle.line_pipeline.specs.Gathered.{batch_of, conn_or_none, conn_of}
use Rattle.line_pipeline.specs.Settled.{asked_by}
use Rattle.line_pipeline.specs.Table.{Table, conn_at, is_held, all_changed}
use Rattle.line_pipeline.proofs.Runs.{groups, runs_are}
use Rattle.table_rows.specs.Database.{Database}
use Rattle.batch_answers.specs.Answers.{after, parts_for}
use Rattle.batch_answers.specs.Batches.{after_runs}
use Rattle.batch_answers.proofs.Parts.{after_by_runs}
use Rattle.batch_worker.specs.Linked.{LinkTable, Each}
use Rattle.batch_worker.specs.Receiving.{Receives}
use Rattle.batch_worker.specs.Told.{Told}
use Rattle.batch_worker.specs.Turn.{settled_by}
use Rattle.batch_worker.specs.declared.ends.TurnEnd.TheVariants as ends
use Rattle.replay_turns.specs.declared.entries.Entry.{Entry}
use Rattle.replay_turns.specs.Linked.{on_all, with_conn}
use Rattle.replay_turns.specs.Session.{ended_by}
use Rattle.replay_turns.specs.Replying.{failed}
use Rattle.replay_turns.specs.Entries.{link_of, told_of, all_linked, ids_at, ids_of, AreEntries}
use Rattle.replay_turns.proofs.Places.{AreHeld, held_of}
use Rattle.replay_turns.proofs.Numbers.{ids_once}
use Rattle.replay_turns.proofs.Bridge.{on_all-is}
use Rattle.batch_worker.proofs.Gathered.{where_listed, conn_at-all, two_maps}
use Rattle.batch_worker.proofs.Lookups.{or_none-map}
use Rattle.replay_turns.proofs.Answering.{final_conn}
use Rattle.replay_turns.proofs.Failing.{failed_conn, failed_listed, failed_other}
use Rattle.replay_turns.proofs.Turns.{all_replied-is}
use Rattle.replay_turns.proofs.Over.{told_at}

module _ (t h u : LinkTable LinkInMemory) (es : List Entry) (are : AreEntries t.table.conns es) (listed : List ℕ) (distinct : are_distinct nat_eq listed ≡ true) (receive : Each known_link Receives (ids_at es listed) t h) where
  abbrev ids : List ConnId
  ids = ids_at es listed

  abbrev cs : List (ConnId × Conn)
  cs = h.table.conns

  once : are_once ids ≡ true
  once = ids_once listed es are.once distinct

  held_in : (x : ConnId) → is_listed (ids_of es) x ≡ true → is_held cs x ≡ true
  held_in x is = receive.held x ∙ are.held x ∙ is

  held_h : (es2 : List Entry) → AreHeld t.table.conns es2 → AreHeld cs es2
  held_h [] held = tt
  held_h (e ∷ es2) held = (receive.held e.id ∙ held.0, held_h es2 held.1)

  module _ (batch : Batch) (batch_is : batch.items ≡ batch_of h.table.schema cs ids) (took_is : u.table ≡ record h.table { conns = all_changed ids (took h.table.schema) cs }) where
    -- it was done
    pub done : (replies : Replies) (db new : Database) → replies.parts ≡ parts_for db batch.items → new ≡ after db batch.items → ended_by ends.Done h.table.schema listed db (all_linked cs h.links es) ≡ (new, all_linked (settled_by u batch (outcomes.Done replies)).table.conns h.links es)
    done replies db new parts rows =
        let s = settled_by u batch (outcomes.Done replies) in
        let rows_are : after_runs db (groups h.table.schema cs ids) ≡ new =
        sym (rows ∙ after_by_runs db batch.items ∙ ap (λ items. after_runs db (runs_of items)) batch_is ∙ ap (after_runs db) (runs_are h.table.schema cs ids once)) in
        all_replied-is h.links h.table h.table.schema es are.once s.table.conns listed cs db once (held_h es (held_of t.table.conns es are))
        (λ x held. final_conn h.table u.table s.table ids batch replies db once batch_is took_is parts refl x held)
        ∙ ap (λ (d : Database). (d, all_linked s.table.conns h.links es)) rows_are

    -- it failed
    module _ (r : Reason) (gone : List (ConnId × Conn)) (gone_is : gone ≡ all_changed (asked_by batch) (closed r) u.table.conns) where
      gone_conn : (x : ConnId) → is_held cs x ≡ true → conn_of gone x ≡ failed_conn h.table.schema cs ids batch batch_is r x (conn_of cs x)
      gone_conn x held =
          let f = where_listed ids (took h.table.schema) x in
          let g = where_listed (asked_by batch) (closed r) x in
          let taken : conn_at u.table.conns x ≡ option_map f (conn_at cs x) = ap (λ (k : Table). conn_at k.conns x) took_is ∙ conn_at-all (took h.table.schema) ids cs x in
          let at : conn_at gone x ≡ option_map (λ (conn : Conn). g (f conn)) (conn_at cs x) =
          ap (λ (k : List (ConnId × Conn)). conn_at k x) gone_is
          ∙ conn_at-all (closed r) (asked_by batch) u.table.conns x
          ∙ ap (option_map g) taken
          ∙ two_maps g f (conn_at cs x) in
          ap conn_or_none at ∙ or_none-map (λ (conn : Conn). g (f conn)) (conn_at cs x) held

      pub fails : all_linked gone h.links es ≡ on_all listed (with_conn (failed h.table.schema r)) (all_linked cs h.links es)
      fails =
          let k : LinkTable LinkInMemory = record { table = record h.table { conns = gone }; links = h.links } in
          on_all-is (λ (told : Told). record told { conn = failed h.table.schema r told.conn }) es are.once listed (told_at h) (told_at k) once (record {
            listed = λ x is in_ids. ap (λ (conn : Conn). told_of conn (link_of h.links x))
                (gone_conn x (held_in x is) ∙ failed_listed h.table.schema cs ids batch batch_is r x (conn_of cs x) refl in_ids);
            others = λ x is out. ap (λ (conn : Conn). told_of conn (link_of h.links x))
                (gone_conn x (held_in x is) ∙ failed_other h.table.schema cs ids batch batch_is r x (conn_of cs x) out);
          })

  -- there was none
  pub refuses : (gone : List (ConnId × Conn)) → gone ≡ all_changed ids refused cs → all_linked gone h.links es ≡ on_all listed (with_conn refused) (all_linked cs h.links es)
  refuses gone gone_is =
      let k : LinkTable LinkInMemory = record { table = record h.table { conns = gone }; links = h.links } in
      let conn_is : (x : ConnId) → is_held cs x ≡ true → conn_of gone x ≡ where_listed ids refused x (conn_of cs x) = λ x held.
      ap (λ (l : List (ConnId × Conn)). conn_of l x) gone_is
      ∙ ap conn_or_none (conn_at-all refused ids cs x)
      ∙ or_none-map (where_listed ids refused x) (conn_at cs x) held in
      let by : ConnId → Bool → Conn = λ x b. if b then refused (conn_of cs x) else conn_of cs x in
      on_all-is (λ (told : Told). record told { conn = refused told.conn }) es are.once listed (told_at h) (told_at k) once (record {
        listed = λ x is in_ids. ap (λ (conn : Conn). told_of conn (link_of h.links x)) (conn_is x (held_in x is) ∙ ap (by x) in_ids);
        others = λ x is out. ap (λ (conn : Conn). told_of conn (link_of h.links x)) (conn_is x (held_in x is) ∙ ap (by x) out);
      })
