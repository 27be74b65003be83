use Rattle.std.proofs.Common.{List, [], refl, sym, ap, subst, ◌∙◌}
use Rattle.std.specs.List.{AllByRecursion}
use Rattle.row_types.specs.declared.tables.Schema.{Schema}
use Rattle.request_types.specs.declared.batches.Part.{Part}
use Rattle.request_types.specs.Fits.{ItemFits}
use Rattle.table_rows.specs.declared.undo.Undo.{Undo}
use Rattle.table_rows.specs.Database.{Database, database_of}
use Rattle.table_rows.specs.GoingBack.{CanGoBack}
use Rattle.table_rows.specs.Rows.{State}
use Rattle.table_rows.proofs.Alone.{roomier_same}
use Rattle.batch_answers.specs.Answers.{after, parts_for}
use Rattle.line_pipeline.specs.declared.outcomes.Outcome.TheVariants as outcomes
use Rattle.table_book.specs.Books.{Keeping, rows, IsKept}
use Rattle.table_book.specs.Committing.{book_before}
use Rattle.table_book.specs.Settling.{Settles}
use Rattle.table_book.proofs.Carried.{taken, same_limit, none_lower}
use Rattle.table_book.proofs.Ended.{ended_shape, ended_history, ended_same}
use Rattle.table_book.proofs.Settling.{IsSame, still_kept, settled_same, no_memory}
use Rattle.table_book.proofs.book.Book.run_batch.Goals as goal

pub run_batch-requires-clause-items : goal.run_batch-requires-clause-items
run_batch-requires-clause-items g c =
    subst (λ (s : Schema). AllByRecursion (ItemFits s) c.args.batch.now.items) (sym (c.self.invariant.0 ∙ ap (λ (b : Keeping g.row.D.Denot). b.tables.schema) c.self.view_is)) c.requires.items

pub settle-requires-clause-undoable : goal.settle-requires-clause-undoable
settle-requires-clause-undoable g c =
    let old : State = c.self.inside.tables in
    let new : State = c.run_batch.new.tables in
    let notes : List Undo = c.run_batch.new.undo.entries in
    let back : CanGoBack old new [] notes = subst (λ (us : List Undo). CanGoBack old new us notes) c.list_new-undo.ensures.entries c.in-Ok.ensures.noted in
    back.noted.back.can

pub settle-requires-clause-lower : goal.settle-requires-clause-lower
settle-requires-clause-lower g c =
    let old : State = c.self.inside.tables in
    let new : State = c.run_batch.new.tables in
    let notes : List Undo = c.run_batch.new.undo.entries in
    let back : CanGoBack old new [] notes = subst (λ (us : List Undo). CanGoBack old new us notes) c.list_new-undo.ensures.entries c.in-Ok.ensures.noted in
    none_lower old new notes back c.args.batch.now.items c.in-Ok.ensures.rows

pub settle-requires-clause-kept : goal.settle-requires-clause-kept
settle-requires-clause-kept g c told =
    let disk = g.D.Disk in
    let old : State = c.self.inside.tables in
    let new : State = c.run_batch.new.tables in
    let notes : List Undo = c.run_batch.new.undo.entries in
    let back : CanGoBack old new [] notes = subst (λ (us : List Undo). CanGoBack old new us notes) c.list_new-undo.ensures.entries c.in-Ok.ensures.noted in
    let opened : Keeping g.row.D.Denot = record { tables = old; journal = c.self.inside.journal; disk = c.self.inside.disk; log_max = c.self.inside.log_max } in
    let mid : Keeping g.row.D.Denot = record opened { tables = new } in
    let same : IsSame opened (book_before notes mid) = record { rows_are = taken old new notes back; journal = refl; disk = refl; log = refl } in
    still_kept disk.seen disk.may_leave opened (book_before notes mid) same (subst (IsKept disk.seen disk.may_leave) (sym c.self.view_is) (c.requires.kept told))

pub returns-in-Ok : goal.returns-in-Ok
returns-in-Ok g c =
    let disk = g.D.Disk in
    let items = c.args.batch.now.items in
    let old : State = c.self.inside.tables in
    let new : State = c.run_batch.new.tables in
    let notes : List Undo = c.run_batch.new.undo.entries in
    let back : CanGoBack old new [] notes = subst (λ (us : List Undo). CanGoBack old new us notes) c.list_new-undo.ensures.entries c.in-Ok.ensures.noted in
    let opened : Keeping g.row.D.Denot = record { tables = old; journal = c.self.inside.journal; disk = c.self.inside.disk; log_max = c.self.inside.log_max } in
    let mid : Keeping g.row.D.Denot = record opened { tables = new } in
    let same : IsSame (book_before notes mid) opened = record { rows_are = sym (taken old new notes back); journal = refl; disk = refl; log = refl } in
    let first : Settles disk.tells disk.seen disk.may_leave disk.moment disk.left_at disk.fault_count disk.which c.in-Ok.replies.parts opened (database_of new) c.settle.result c.settle.new.self =
    settled_same disk.tells disk.seen disk.may_leave disk.moment disk.left_at disk.fault_count disk.which c.in-Ok.replies.parts (book_before notes mid) opened (database_of new) c.settle.result c.settle.new.self same c.settle.ensures in
    let second : Settles disk.tells disk.seen disk.may_leave disk.moment disk.left_at disk.fault_count disk.which (parts_for (rows opened) items) opened (after (rows opened) items) c.settle.result c.settle.new.self =
    subst (λ (s : List Part × Database). Settles disk.tells disk.seen disk.may_leave disk.moment disk.left_at disk.fault_count disk.which s.0 opened s.1 c.settle.result c.settle.new.self) (λ i. (c.in-Ok.ensures.parts i, c.in-Ok.ensures.rows i)) first in
    let ends : Settles disk.tells disk.seen disk.may_leave disk.moment disk.left_at disk.fault_count disk.which (parts_for (rows c.args.self.now) items) c.args.self.now (after (rows c.args.self.now) items) c.settle.result c.settle.new.self =
    subst (λ (b : Keeping g.row.D.Denot). Settles disk.tells disk.seen disk.may_leave disk.moment disk.left_at disk.fault_count disk.which (parts_for (rows b) items) b (after (rows b) items) c.settle.result c.settle.new.self) c.self.view_is second in
    let shape = ap (λ (b : Keeping g.row.D.Denot). rows b) c.self.view_is in
    record {
      parts = ends.answered;
      rows = ends.done;
      undone = ends.undone;
      counted = ends.counted;
      of_schema = ended_shape disk.tells disk.seen disk.may_leave disk.moment disk.left_at disk.fault_count disk.which _ c.args.self.now _ c.settle.result c.settle.new.self ends
          (ap (λ (db : Database). db.schema) (sym (c.in-Ok.ensures.rows ∙ ap (λ (db : Database). after db items) shape)) ∙ c.in-Ok.ensures.schema ∙ ap (λ (db : Database). db.schema) shape)
          (ap (λ (db : Database). db.bytes_max) (sym (c.in-Ok.ensures.rows ∙ ap (λ (db : Database). after db items) shape)) ∙ same_limit old new notes back ∙ ap (λ (db : Database). db.bytes_max) shape);
      idle = ends.idle;
      any_moment = ends.any_moment;
      acknowledged = ends.acknowledged;
      kept = ends.kept;
      kept_back = ends.kept_back;
      history = ended_history disk.tells disk.seen disk.may_leave disk.moment disk.left_at disk.fault_count disk.which _ c.args.self.now _ c.settle.result c.settle.new.self ends items refl;
      same_history = ended_same disk.tells disk.seen disk.may_leave disk.moment disk.left_at disk.fault_count disk.which _ c.args.self.now _ c.settle.result c.settle.new.self ends;
      later = ends.later;
      fault = ends.fault;
      same = ends.same;
    }

pub returns : goal.returns
returns g c =
    let disk = g.D.Disk in
    let items = c.args.batch.now.items in
    let old : State = c.self.inside.tables in
    let new : State = c.run_batch.new.tables in
    let opened : Keeping g.row.D.Denot = record { tables = old; journal = c.self.inside.journal; disk = c.self.inside.disk; log_max = c.self.inside.log_max } in
    let mid : Keeping g.row.D.Denot = record opened { tables = new } in
    let same : IsSame opened mid = record { rows_are = roomier_same old new c.in-Err.ensures.err; journal = refl; disk = refl; log = refl } in
    let first : Settles disk.tells disk.seen disk.may_leave disk.moment disk.left_at disk.fault_count disk.which (parts_for (rows opened) items) opened (after (rows opened) items) outcomes.NoMemory mid =
    no_memory disk.tells disk.seen disk.may_leave disk.moment disk.left_at disk.fault_count disk.which (parts_for (rows opened) items) opened mid (after (rows opened) items)
    (λ told image left. g.met.D.Disk.only_now opened.disk image told left) same
    (λ told. subst (IsKept disk.seen disk.may_leave) (sym c.self.view_is) (c.requires.kept told)) in
    let ends : Settles disk.tells disk.seen disk.may_leave disk.moment disk.left_at disk.fault_count disk.which (parts_for (rows c.args.self.now) items) c.args.self.now (after (rows c.args.self.now) items) outcomes.NoMemory mid =
    subst (λ (b : Keeping g.row.D.Denot). Settles disk.tells disk.seen disk.may_leave disk.moment disk.left_at disk.fault_count disk.which (parts_for (rows b) items) b (after (rows b) items) outcomes.NoMemory mid) c.self.view_is first in
    record {
      parts = tt;
      rows = tt;
      undone = ends.undone;
      counted = ends.counted;
      of_schema = (ap (λ (db : Database). db.schema) ends.undone, ap (λ (db : Database). db.bytes_max) ends.undone, ends.of_log);
      idle = tt;
      any_moment = ends.any_moment;
      acknowledged = ends.acknowledged;
      kept = ends.kept;
      kept_back = ends.kept_back;
      history = λ base first_ seat history so_far moved. absurd (moved ends.undone);
      same_history = ended_same disk.tells disk.seen disk.may_leave disk.moment disk.left_at disk.fault_count disk.which _ c.args.self.now _ outcomes.NoMemory mid ends;
      later = ends.later;
      fault = tt;
      same = ends.same;
    }
