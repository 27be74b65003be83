use Rattle.std.proofs.Common.{◌≡◌, ◌+◌, Bool, false, List, Result, refl, sym, ap, subst, ◌∙◌, arith}
use Rattle.std.specs.Prelude.{IsSome}
use Rattle.table_rows.specs.declared.undo.Undo.{Undo}
use Rattle.table_rows.specs.Rows.{State}
use Rattle.table_rows.specs.Undoing.{since, AreUndoable}
use Rattle.change_set.specs.Putting.{NoneLower}
use Rattle.hs_schema.specs.Spelling.{spelled}
use Rattle.line_pipeline.specs.declared.outcomes.Outcome.TheVariants as outcomes
use Rattle.redo_journal.specs.Journal.{is_due}
use Rattle.table_book.specs.declared.fault.Fault.{Fault}
use Rattle.table_book.specs.Books.{Keeping, rows, IsKept}
use Rattle.table_book.specs.Committing.{before_all, book_before, IfWritten}
use Rattle.table_book.specs.Settling.{Settles}
use Rattle.table_book.proofs.Committed.{Commit, idle_settles, memory_settles, fault_settles, room_kept, written_settles}
use Rattle.table_book.proofs.Settling.{written_ok}
use Rattle.table_book.proofs.Undoing.{same_shape}
use Rattle.table_book.proofs.book.Book.settle.Goals as goal

pub commit-requires-clause-undoable : goal.commit-requires-clause-undoable
commit-requires-clause-undoable g c =
    subst (λ (b : Keeping g.row.D.Denot). AreUndoable (since 0 c.args.undo.now.entries) b.tables) (sym c.self.view_is) c.requires.undoable

pub commit-requires-clause-stands : goal.commit-requires-clause-stands
commit-requires-clause-stands g c told =
    let disk = g.D.Disk in
    let notes : List Undo = c.args.undo.now.entries in
    let opened : Keeping g.row.D.Denot = record { tables = c.self.inside.tables; journal = c.self.inside.journal; disk = c.self.inside.disk; log_max = c.self.inside.log_max } in
    let kept : IsKept disk.seen disk.may_leave (book_before notes opened) = subst (λ (b : Keeping g.row.D.Denot). IsKept disk.seen disk.may_leave (book_before notes b)) (sym c.self.view_is) (c.requires.kept told) in
    record { text = spelled (book_before notes opened).tables.schema; contents = kept.beside.contents; doubtful = kept.beside.doubtful; stands = kept.beside.stands }

pub make_room-requires-clause-kept : goal.make_room-requires-clause-kept
make_room-requires-clause-kept g c =
    let disk = g.D.Disk in
    let notes : List Undo = c.args.undo.now.entries in
    let opened : Keeping g.row.D.Denot = record { tables = c.self.inside.tables; journal = c.self.inside.journal; disk = c.self.inside.disk; log_max = c.self.inside.log_max } in
    let commit : Commit disk.tells disk.seen disk.may_leave disk.moment disk.left_at disk.fault_count disk.which notes opened c.commit.result c.commit.new.journal c.commit.new.disk = record {
      can = subst (λ (b : Keeping g.row.D.Denot). AreUndoable (since 0 notes) b.tables) (sym c.self.view_is) c.requires.undoable;
      lower = subst (λ (b : Keeping g.row.D.Denot). NoneLower (before_all notes b.tables).tables (rows b).tables) (sym c.self.view_is) c.requires.lower;
      kept = λ told. subst (λ (b : Keeping g.row.D.Denot). IsKept disk.seen disk.may_leave (book_before notes b)) (sym c.self.view_is) (c.requires.kept told);
      valid = c.commit.ensures.valid;
      idle = c.commit.ensures.idle;
      changed = c.commit.ensures.changed;
      held = c.commit.ensures.held;
      uncalled = c.commit.ensures.uncalled;
      commits = c.commit.ensures.commits;
      counted = c.commit.ensures.counted;
      uncounted = c.commit.ensures.uncounted;
      first = c.commit.ensures.kept.0;
      later = c.commit.ensures.later;
      fault = c.commit.ensures.fault;
      faultless = c.commit.ensures.faultless;
      same = c.commit.ensures.same;
    } in
    room_kept disk.tells disk.seen disk.may_leave disk.moment disk.left_at disk.fault_count disk.which notes opened c.commit.result c.commit.new.journal c.commit.new.disk commit c.args.replies.parts (cc)

pub undo_to-requires-clause-undoable : goal.undo_to-requires-clause-undoable
undo_to-requires-clause-undoable g c =
    subst (λ (b : Keeping g.row.D.Denot). AreUndoable (since 0 c.args.undo.now.entries) b.tables) (sym c.self.view_is) c.requires.undoable

pub returns-in-Ok-false : goal.returns-in-Ok-false
returns-in-Ok-false g c =
    let disk = g.D.Disk in
    let notes : List Undo = c.args.undo.now.entries in
    let opened : Keeping g.row.D.Denot = record { tables = c.self.inside.tables; journal = c.self.inside.journal; disk = c.self.inside.disk; log_max = c.self.inside.log_max } in
    let commit : Commit disk.tells disk.seen disk.may_leave disk.moment disk.left_at disk.fault_count disk.which notes opened c.commit.result c.commit.new.journal c.commit.new.disk = record {
      can = subst (λ (b : Keeping g.row.D.Denot). AreUndoable (since 0 notes) b.tables) (sym c.self.view_is) c.requires.undoable;
      lower = subst (λ (b : Keeping g.row.D.Denot). NoneLower (before_all notes b.tables).tables (rows b).tables) (sym c.self.view_is) c.requires.lower;
      kept = λ told. subst (λ (b : Keeping g.row.D.Denot). IsKept disk.seen disk.may_leave (book_before notes b)) (sym c.self.view_is) (c.requires.kept told);
      valid = c.commit.ensures.valid;
      idle = c.commit.ensures.idle;
      changed = c.commit.ensures.changed;
      held = c.commit.ensures.held;
      uncalled = c.commit.ensures.uncalled;
      commits = c.commit.ensures.commits;
      counted = c.commit.ensures.counted;
      uncounted = c.commit.ensures.uncounted;
      first = c.commit.ensures.kept.0;
      later = c.commit.ensures.later;
      fault = c.commit.ensures.fault;
      faultless = c.commit.ensures.faultless;
      same = c.commit.ensures.same;
    } in
    let ends = idle_settles disk.tells disk.seen disk.may_leave disk.moment disk.left_at disk.fault_count disk.which notes opened c.commit.result c.commit.new.journal c.commit.new.disk commit c.args.replies.parts (cc) (λ told image left. g.met.D.Disk.only_now opened.disk image told left) c.args.replies refl in
    subst (λ (b : Keeping g.row.D.Denot). Settles disk.tells disk.seen disk.may_leave disk.moment disk.left_at disk.fault_count disk.which c.args.replies.parts (book_before notes b) (rows b) (outcomes.Done c.args.replies) (record opened { journal = c.commit.new.journal; disk = c.commit.new.disk })) c.self.view_is ends

pub returns-in-Ok-true : goal.returns-in-Ok-true
returns-in-Ok-true g c =
    let disk = g.D.Disk in
    let notes : List Undo = c.args.undo.now.entries in
    let opened : Keeping g.row.D.Denot = record { tables = c.self.inside.tables; journal = c.self.inside.journal; disk = c.self.inside.disk; log_max = c.self.inside.log_max } in
    let commit : Commit disk.tells disk.seen disk.may_leave disk.moment disk.left_at disk.fault_count disk.which notes opened c.commit.result c.commit.new.journal c.commit.new.disk = record {
      can = subst (λ (b : Keeping g.row.D.Denot). AreUndoable (since 0 notes) b.tables) (sym c.self.view_is) c.requires.undoable;
      lower = subst (λ (b : Keeping g.row.D.Denot). NoneLower (before_all notes b.tables).tables (rows b).tables) (sym c.self.view_is) c.requires.lower;
      kept = λ told. subst (λ (b : Keeping g.row.D.Denot). IsKept disk.seen disk.may_leave (book_before notes b)) (sym c.self.view_is) (c.requires.kept told);
      valid = c.commit.ensures.valid;
      idle = c.commit.ensures.idle;
      changed = c.commit.ensures.changed;
      held = c.commit.ensures.held;
      uncalled = c.commit.ensures.uncalled;
      commits = c.commit.ensures.commits;
      counted = c.commit.ensures.counted;
      uncounted = c.commit.ensures.uncounted;
      first = c.commit.ensures.kept.0;
      later = c.commit.ensures.later;
      fault = c.commit.ensures.fault;
      faultless = c.commit.ensures.faultless;
      same = c.commit.ensures.same;
    } in
    let ends = written_settles disk.tells disk.seen disk.may_leave disk.moment disk.left_at disk.fault_count disk.which notes opened c.commit.result c.commit.new.journal c.commit.new.disk commit c.args.replies.parts (cc) c.args.replies refl c.make_room.new.self
    (record { tables = c.make_room.ensures.tables; place_is = c.make_room.ensures.place; log = c.make_room.ensures.log; any_moment = c.make_room.ensures.any_moment; again = c.make_room.ensures.again; kept = c.make_room.ensures.kept; later = c.make_room.ensures.later; same = c.make_room.ensures.same }) in
    subst (λ (b : Keeping g.row.D.Denot). Settles disk.tells disk.seen disk.may_leave disk.moment disk.left_at disk.fault_count disk.which c.args.replies.parts (book_before notes b) (rows b) (outcomes.Done c.args.replies) c.make_room.new.self) c.self.view_is ends

pub returns-in-Disk : goal.returns-in-Disk
returns-in-Disk g c =
    let disk = g.D.Disk in
    let notes : List Undo = c.args.undo.now.entries in
    let opened : Keeping g.row.D.Denot = record { tables = c.self.inside.tables; journal = c.self.inside.journal; disk = c.self.inside.disk; log_max = c.self.inside.log_max } in
    let commit : Commit disk.tells disk.seen disk.may_leave disk.moment disk.left_at disk.fault_count disk.which notes opened c.commit.result c.commit.new.journal c.commit.new.disk = record {
      can = subst (λ (b : Keeping g.row.D.Denot). AreUndoable (since 0 notes) b.tables) (sym c.self.view_is) c.requires.undoable;
      lower = subst (λ (b : Keeping g.row.D.Denot). NoneLower (before_all notes b.tables).tables (rows b).tables) (sym c.self.view_is) c.requires.lower;
      kept = λ told. subst (λ (b : Keeping g.row.D.Denot). IsKept disk.seen disk.may_leave (book_before notes b)) (sym c.self.view_is) (c.requires.kept told);
      valid = c.commit.ensures.valid;
      idle = c.commit.ensures.idle;
      changed = c.commit.ensures.changed;
      held = c.commit.ensures.held;
      uncalled = c.commit.ensures.uncalled;
      commits = c.commit.ensures.commits;
      counted = c.commit.ensures.counted;
      uncounted = c.commit.ensures.uncounted;
      first = c.commit.ensures.kept.0;
      later = c.commit.ensures.later;
      fault = c.commit.ensures.fault;
      faultless = c.commit.ensures.faultless;
      same = c.commit.ensures.same;
    } in
    let ends = fault_settles disk.tells disk.seen disk.may_leave disk.moment disk.left_at disk.fault_count disk.which notes opened c.commit.result c.commit.new.journal c.commit.new.disk commit c.args.replies.parts (cc) c.undo_to.new.self c.undo_to.ensures.state in
    subst (λ (b : Keeping g.row.D.Denot). Settles disk.tells disk.seen disk.may_leave disk.moment disk.left_at disk.fault_count disk.which c.args.replies.parts (book_before notes b) (rows b) outcomes.DiskFault (record opened { tables = c.undo_to.new.self; journal = c.commit.new.journal; disk = c.commit.new.disk })) c.self.view_is ends

pub returns : goal.returns
returns g c =
    let disk = g.D.Disk in
    let notes : List Undo = c.args.undo.now.entries in
    let opened : Keeping g.row.D.Denot = record { tables = c.self.inside.tables; journal = c.self.inside.journal; disk = c.self.inside.disk; log_max = c.self.inside.log_max } in
    let commit : Commit disk.tells disk.seen disk.may_leave disk.moment disk.left_at disk.fault_count disk.which notes opened c.commit.result c.commit.new.journal c.commit.new.disk = record {
      can = subst (λ (b : Keeping g.row.D.Denot). AreUndoable (since 0 notes) b.tables) (sym c.self.view_is) c.requires.undoable;
      lower = subst (λ (b : Keeping g.row.D.Denot). NoneLower (before_all notes b.tables).tables (rows b).tables) (sym c.self.view_is) c.requires.lower;
      kept = λ told. subst (λ (b : Keeping g.row.D.Denot). IsKept disk.seen disk.may_leave (book_before notes b)) (sym c.self.view_is) (c.requires.kept told);
      valid = c.commit.ensures.valid;
      idle = c.commit.ensures.idle;
      changed = c.commit.ensures.changed;
      held = c.commit.ensures.held;
      uncalled = c.commit.ensures.uncalled;
      commits = c.commit.ensures.commits;
      counted = c.commit.ensures.counted;
      uncounted = c.commit.ensures.uncounted;
      first = c.commit.ensures.kept.0;
      later = c.commit.ensures.later;
      fault = c.commit.ensures.fault;
      faultless = c.commit.ensures.faultless;
      same = c.commit.ensures.same;
    } in
    let ends = memory_settles disk.tells disk.seen disk.may_leave disk.moment disk.left_at disk.fault_count disk.which notes opened c.commit.result c.commit.new.journal c.commit.new.disk commit c.args.replies.parts (cc) (λ told image left. g.met.D.Disk.only_now opened.disk image told left) c.undo_to.new.self c.undo_to.ensures.state in
    subst (λ (b : Keeping g.row.D.Denot). Settles disk.tells disk.seen disk.may_leave disk.moment disk.left_at disk.fault_count disk.which c.args.replies.parts (book_before notes b) (rows b) outcomes.NoMemory (record opened { tables = c.undo_to.new.self; journal = c.commit.new.journal; disk = c.commit.new.disk })) c.self.view_is ends

pub invariant_of-self : goal.invariant_of-self
invariant_of-self g c = (c.self.invariant.0, subst IsSome (sym c.commit.ensures.kept.1) c.self.invariant.1)

pub invariant_of-self-in-Ok-false : goal.invariant_of-self-in-Ok-false
invariant_of-self-in-Ok-false g c = (c.self.invariant.0, subst IsSome (sym c.commit.ensures.kept.1) c.self.invariant.1)

pub invariant_of-self-in-Disk : goal.invariant_of-self-in-Disk
invariant_of-self-in-Disk g c = (
  c.self.invariant.0 ∙ sym (ap (λ (s : State). s.schema) c.undo_to.ensures.state ∙ (same_shape (since 0 c.args.undo.now.entries) c.self.inside.tables).0),
  subst IsSome (sym c.commit.ensures.kept.1) c.self.invariant.1,
)

pub invariant_of-self-in-Err : goal.invariant_of-self-in-Err
invariant_of-self-in-Err g c = (
  c.self.invariant.0 ∙ sym (ap (λ (s : State). s.schema) c.undo_to.ensures.state ∙ (same_shape (since 0 c.args.undo.now.entries) c.self.inside.tables).0),
  subst IsSome (sym c.commit.ensures.kept.1) c.self.invariant.1,
)

pub undo_to-requires-clause-mark : goal.undo_to-requires-clause-mark
undo_to-requires-clause-mark g c = omega arith

pub make_room-requires-clause-quiet : goal.make_room-requires-clause-quiet
make_room-requires-clause-quiet g c =
    let is : c.commit.result ≡ written_ok = cc in
    let counted = subst (λ (r : Result Bool Fault). IfWritten r ((c.commit.new.journal.since ≡ c.self.inside.journal.since + 1) × (is_due c.commit.new.journal ≡ false))) is c.commit.ensures.counted in
    counted.1
