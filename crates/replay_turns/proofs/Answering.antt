-- A batch of connections that are held: it can be settled, and what it leaves.
use Rattle.std.proofs.Common.{◌≡◌, true, List, Option, is_some, option_map, refl, ap, ◌∙◌}
use Rattle.request_types.specs.declared.connections.ConnId.{ConnId}
use Rattle.request_types.specs.declared.batches.Batch.{Batch}
use Rattle.request_types.specs.declared.batches.Item.{Item}
use Rattle.request_types.specs.declared.batches.ItemKind.{ItemKind}
use Rattle.request_types.specs.declared.batches.Part.{Part}
use Rattle.request_types.specs.declared.batches.Replies.{Replies}
use Rattle.line_pipeline.specs.declared.outcomes.Outcome.TheVariants as outcomes
use Rattle.line_pipeline.specs.declared.conns.Conn.{Conn}
use Rattle.line_pipeline.specs.Conn.{took, place_used}
use Rattle.request_types.specs.Ids.{are_once}
use Rattle.line_pipeline.specs.Table.{Table, conn_at, is_held, all_changed}
use Rattle.line_pipeline.specs.Settled.{told, settled}
use Rattle.table_rows.specs.Database.{Database}
use Rattle.batch_answers.specs.Batches.{parts_of}
use Rattle.line_pipeline.specs.Gathered.{batch_of, conn_or_none, conn_of}
use Rattle.request_types.specs.Batches.{conns_of, runs_of, heads}
use Rattle.batch_answers.specs.Answers.{parts_for}
use Rattle.batch_answers.proofs.Parts.{parts_by_runs}
use Rattle.line_pipeline.proofs.Runs.{groups, runs_are, heads_once}
use Rattle.batch_worker.proofs.Lookups.{held-map, or_none-map}
use Rattle.batch_worker.proofs.Gathered.{where_listed, conn_at-all, done_conn, settled_at}
use Rattle.replay_turns.proofs.Settling.{replied_conn, settled_is}

-- ---- the connections in the end

module _ (old mid new : Table) (ids : List ConnId) (batch : Batch) (replies : Replies) (db : Database) (once : are_once ids ≡ true) (items : batch.items ≡ batch_of old.schema old.conns ids) (took_is : mid ≡ record old { conns = all_changed ids (took old.schema) old.conns }) (parts : replies.parts ≡ parts_for db batch.items) (settled_is_ : new ≡ record mid { conns = settled mid.conns batch (outcomes.Done replies) }) where
  pub final_conn : (x : ConnId) → is_held old.conns x ≡ true → conn_of new.conns x ≡ replied_conn old.schema old.conns db ids x (conn_of old.conns x)
  final_conn x held =
      let together : are_once (heads (runs_of batch.items)) ≡ true =
      ap (λ (its : List Item). are_once (heads (runs_of its))) items ∙ ap (λ (runs : List (ConnId × List ItemKind)). are_once (heads runs)) (runs_are old.schema old.conns ids once) ∙ heads_once old.schema old.conns ids once in
      let runs : replies.parts ≡ parts_of db (groups old.schema old.conns ids) = parts ∙ parts_by_runs db batch.items together ∙ ap (λ (its : List Item). parts_of db (runs_of its)) items ∙ ap (parts_of db) (runs_are old.schema old.conns ids once) in
      let taken : conn_at mid.conns x ≡ option_map (where_listed ids (took old.schema) x) (conn_at old.conns x) = ap (λ (t : Table). conn_at t.conns x) took_is ∙ conn_at-all (took old.schema) ids old.conns x in
      let held_mid : is_some (conn_at mid.conns x) ≡ true = ap (λ (o : Option Conn). is_some o) taken ∙ held-map (where_listed ids (took old.schema) x) (conn_at old.conns x) ∙ held in
      let mid_conn : conn_of mid.conns x ≡ where_listed ids (took old.schema) x (conn_of old.conns x) = ap conn_or_none taken ∙ or_none-map (where_listed ids (took old.schema) x) (conn_at old.conns x) held in
      let end : conn_of new.conns x ≡ done_conn batch replies.parts x (conn_of mid.conns x) = ap (λ (t : Table). conn_of t.conns x) settled_is_ ∙ ap conn_or_none (settled_at mid.conns batch replies x) ∙ or_none-map (done_conn batch replies.parts x) (conn_at mid.conns x) held_mid in
      end
      ∙ ap (done_conn batch replies.parts x) mid_conn
      ∙ ap (λ (its : List Item). where_listed (conns_of its) place_used x (told replies.parts (x, where_listed ids (took old.schema) x (conn_of old.conns x)))) items
      ∙ ap (λ (ps : List Part). where_listed (conns_of (batch_of old.schema old.conns ids)) place_used x (told ps (x, where_listed ids (took old.schema) x (conn_of old.conns x)))) runs
      ∙ settled_is old.schema old.conns db ids x (conn_of old.conns x) once refl
