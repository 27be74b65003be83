-- The parts of a batch, connection by connection and run by run.
--     answered-heads      the connections that parts name
--     after_by_runs, parts_by_runs      what a batch comes to, where the items of each connection stand together
use Rattle.std.proofs.Common.{◌≡◌, ℕ, Bool, true, false, cond, List, [], ◌∷◌, ◌++◌, map, refl, ap, ap₂, sym, subst, ◌∙◌}
use Rattle.std.proofs.lemmas.Bool.{or_parts}
use Rattle.request_types.specs.declared.connections.ConnId.{ConnId}
use Rattle.request_types.specs.declared.batches.Item.{Item}
use Rattle.request_types.specs.declared.batches.ItemKind.{ItemKind}
use Rattle.request_types.specs.declared.batches.Part.{Part}
use Rattle.request_types.specs.Ids.{same_id, is_listed, are_once}
use Rattle.request_types.specs.Batches.{with_item, runs_of, heads}
use Rattle.request_types.proofs.Ids.{same_id-refl, same_id-is, same_id-other, once-head, once-tail}
use Rattle.line_pipeline.specs.Settled.{answered_by}
use Rattle.table_rows.specs.Database.{Database}
use Rattle.batch_answers.specs.Answers.{answered, after_all, answers, after, replies_for, part_for, parts_for}
use Rattle.batch_answers.specs.Batches.{parts_of, after_runs}
use Rattle.batch_answers.specs.Steps.{ends_run, first_behind}
use Rattle.batch_answers.proofs.Runs.{ends_alone, goes_on, rows_go_on}

pub answered-heads : (db : Database) (runs : List (ConnId × List ItemKind)) → answered_by (parts_of db runs) ≡ heads runs
answered-heads db [] = refl
answered-heads db (run ∷ runs) = ap (λ (ids : List ConnId). run.0 ∷ ids) (answered-heads (after_all db run.1) runs)

-- the rows that a batch leaves
pub after_by_runs : (db : Database) (items : List Item) → after db items ≡ after_runs db (runs_of items)
after_by_runs db [] = refl
after_by_runs db (item ∷ items) = after_by_runs (answered db item.kind).1 items ∙ sym (rows_go_on db item items)

-- ---- a connection that heads no run has no replies

unheaded : (id : ConnId) (item : Item) (runs : List (ConnId × List ItemKind)) → is_listed (heads (with_item item runs)) id ≡ false → (same_id id item.conn ≡ false) × (is_listed (heads runs) id ≡ false)
unheaded id item [] none = ((or_parts (same_id id item.conn) false none).0, refl)
unheaded id item (run ∷ runs) none = by_same (same_id item.conn run.0) refl none
  where
    by_same : (b : Bool) → same_id item.conn run.0 ≡ b → is_listed (heads (cond b ((item.conn, item.kind ∷ run.1) ∷ runs) ((item.conn, item.kind ∷ []) ∷ run ∷ runs))) id ≡ false → (same_id id item.conn ≡ false) × (is_listed (heads (run ∷ runs)) id ≡ false)
    by_same true same unlisted =
        let p = or_parts (same_id id item.conn) (is_listed (heads runs) id) unlisted in
        let other : same_id id run.0 ≡ false = subst (λ (conn : ConnId). same_id id conn ≡ false) (same_id-is item.conn run.0 same) p.0 in
        (p.0, rw other p.1)
    by_same false other unlisted = or_parts (same_id id item.conn) (is_listed (heads (run ∷ runs)) id) unlisted

no_replies : (id : ConnId) (db : Database) (items : List Item) → is_listed (heads (runs_of items)) id ≡ false → replies_for id (answers db items) ≡ []
no_replies id db [] none = refl
no_replies id db (item ∷ items) none =
    let p = unheaded id item (runs_of items) none in
    rw (same_id-other id item.conn p.0) (no_replies id (answered db item.kind).1 items p.1)

-- a reply is in no other connection's part
others : (reply : ConnId × List ℕ) (replies : List (ConnId × List ℕ)) (ids : List ConnId) → is_listed ids reply.0 ≡ false → map (part_for (reply ∷ replies)) ids ≡ map (part_for replies) ids
others reply replies [] none = refl
others reply replies (id ∷ ids) none =
    let p = or_parts (same_id reply.0 id) (is_listed ids reply.0) none in
    rw (p.0, others reply replies ids p.1) refl

-- the parts of a batch
pub parts_by_runs : (db : Database) (items : List Item) → are_once (heads (runs_of items)) ≡ true → parts_for db items ≡ parts_of db (runs_of items)
parts_by_runs db [] once = refl
parts_by_runs db (item ∷ rest) once = by_end (parts_by_runs (answered db item.kind).1 rest) (ends_run (item ∷ rest)) refl
  where
    by_end : (are_once (heads (runs_of rest)) ≡ true → parts_for (answered db item.kind).1 rest ≡ parts_of (answered db item.kind).1 (runs_of rest)) → (b : Bool) → ends_run (item ∷ rest) ≡ b → parts_for db (item ∷ rest) ≡ parts_of db (runs_of (item ∷ rest))
    by_end later_parts true ends =
        let alone = ends_alone item rest ends in
        let once_more : are_once (item.conn ∷ heads (runs_of rest)) ≡ true = sym (ap (λ (runs : List (ConnId × List ItemKind)). are_once (heads runs)) alone) ∙ once in
        let none = once-head item.conn (heads (runs_of rest)) once_more in
        let text : replies_for item.conn ((item.conn, (answered db item.kind).0) ∷ answers (answered db item.kind).1 rest) ≡ (answered db item.kind).0 ++ [] =
        rw (same_id-refl item.conn) (ap (λ (t : List ℕ). (answered db item.kind).0 ++ t) (no_replies item.conn (answered db item.kind).1 rest none)) in
        ap (λ (runs : List (ConnId × List ItemKind)). map (part_for (answers db (item ∷ rest))) (heads runs)) alone
        ∙ ap₂ (λ (t : List ℕ) (ps : List Part). record { conn = item.conn; text = t } ∷ ps) text
        (others (item.conn, (answered db item.kind).0) (answers (answered db item.kind).1 rest) (heads (runs_of rest)) none
        ∙ later_parts (once-tail item.conn (heads (runs_of rest)) once_more))
        ∙ ap (parts_of db) (sym alone)
    by_end later_parts false ends =
        let on = goes_on item rest ends in
        let replies = answers (answered db item.kind).1 rest in
        let once_more : are_once (item.conn ∷ heads on.1) ≡ true = sym (ap (λ (runs : List (ConnId × List ItemKind)). are_once (heads runs)) on.3) ∙ once in
        let none = once-head item.conn (heads on.1) once_more in
        let again : are_once (heads (runs_of rest)) ≡ true = ap (λ (runs : List (ConnId × List ItemKind)). are_once (heads runs)) on.2 ∙ once_more in
        let later : map (part_for replies) (item.conn ∷ heads on.1) ≡ parts_of (answered db item.kind).1 ((item.conn, on.0) ∷ on.1) =
        sym (ap (λ (runs : List (ConnId × List ItemKind)). map (part_for replies) (heads runs)) on.2)
        ∙ later_parts again
        ∙ ap (parts_of (answered db item.kind).1) on.2 in
        let text : replies_for item.conn ((item.conn, (answered db item.kind).0) ∷ replies) ≡ (answered db item.kind).0 ++ replies_for item.conn replies = rw (same_id-refl item.conn) refl in
        ap (λ (runs : List (ConnId × List ItemKind)). map (part_for (answers db (item ∷ rest))) (heads runs)) on.3
        ∙ ap₂ (λ (t : List ℕ) (ps : List Part). record { conn = item.conn; text = t } ∷ ps) text (others (item.conn, (answered db item.kind).0) replies (heads on.1) none)
        ∙ ap (first_behind (answered db item.kind).0) later
        ∙ ap (parts_of db) (sym on.3)
