-- Links stay by their connections where a batch is made or settled.
use Rattle.std.proofs.Common.{◌≡◌, List, Option, Result, Ok, Err, OnOk, OnErr, ap, ◌∙◌}
use Rattle.request_types.specs.declared.connections.ConnId.{ConnId}
use Rattle.request_types.specs.declared.batches.Batch.{Batch}
use Rattle.line_pipeline.specs.declared.outcomes.Outcome.{Outcome}
use Rattle.line_pipeline.specs.declared.conns.Conn.{Conn}
use Rattle.line_pipeline.specs.Settled.{settled}
use Rattle.line_pipeline.specs.Table.{Table, is_held, all_changed}
use Rattle.batch_worker.specs.Linked.{AreLinked}
use Rattle.batch_worker.proofs.Placed.{are-still}
use Rattle.batch_worker.proofs.Gathered.{all-held, settled-held}

changed-linked : {L : Type 0} (old new : Table) (links : List (Option L)) (ids : List ConnId) (f : Conn → Conn) → new ≡ record old { conns = all_changed ids f old.conns } → AreLinked old links → AreLinked new links
changed-linked old new links ids f is are =
    are-still old new links (ap (λ (t : Table). t.places) is)
    (λ x. ap (λ (t : Table). is_held t.conns x) is ∙ all-held f ids old.conns x) are

-- whatever comes of it
pub gathered-linked : {L X E : Type 0} (r : Result X E) (old new : Table) (links : List (Option L)) (ids : List ConnId) (f g : Conn → Conn) → OnOk r (new ≡ record old { conns = all_changed ids f old.conns }) → OnErr r (new ≡ record old { conns = all_changed ids g old.conns }) → AreLinked old links → AreLinked new links
gathered-linked (Ok x) old new links ids f g ok err are = changed-linked old new links ids f ok are
gathered-linked (Err e) old new links ids f g ok err are = changed-linked old new links ids g err are

pub settled-linked : {L : Type 0} (old new : Table) (links : List (Option L)) (batch : Batch) (outcome : Outcome) → new ≡ record old { conns = settled old.conns batch outcome } → AreLinked old links → AreLinked new links
settled-linked old new links batch outcome is are =
    are-still old new links (ap (λ (t : Table). t.places) is)
    (λ x. ap (λ (t : Table). is_held t.conns x) is ∙ settled-held old.conns batch outcome x) are
