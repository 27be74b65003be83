use Rattle.std.proofs.Common.{◌∷◌, [], List, ℕ, ap, ◌∙◌}
use Rattle.std.proofs.lemmas.Result.{IfOk-from_err}
use Rattle.hs_disk.specs.Cause.{next_count}
use Rattle.hs_disk.specs.Disk.{Torn, written}
use Rattle.redo_journal.specs.Gates.{Is}
use Rattle.redo_journal.specs.Image.{IsFresh}
use Rattle.redo_journal.proofs.MakeLemmas.{IsShort, short_fresh, nothing_short, torn_short}
use Rattle.redo_journal.proofs.Moments.{on_err, first_step, next_kept, synced, widened, wider}
use Rattle.redo_journal.proofs.make.blank.Goals as goal

pub returns-in_err-write_at-clause-passes : goal.returns-in_err-write_at-clause-passes
returns-in_err-write_at-clause-passes g c tells was =
    let disk = g.D.Disk in
    let wrote = first_step disk.seen disk.may_leave disk.moment disk.left_at (Torn 0 1) IsShort c.args.disk.now c.write_at.new.self torn_short (widened (Is []) IsShort (disk.seen c.args.disk.now) (disk.may_leave c.args.disk.now) nothing_short was) (λ image left. g.met.D.Disk.only_now c.args.disk.now image tells left) (c.write_at.ensures.crash tells) (c.write_at.ensures.reading tells) (c.write_at.ensures.time tells) in
    record {
      moments = wider disk.moment disk.left_at c.args.disk.now c.write_at.new.self IsShort IsFresh short_fresh wrote.0;
      ok = IfOk-from_err c.from_residual.result _ c.from_residual.ensures.0;
      err = on_err c.from_residual.result (widened IsShort IsFresh (disk.seen c.write_at.new.self) (disk.may_leave c.write_at.new.self) short_fresh wrote.1);
    }

pub returns-in_err-sync-clause-passes : goal.returns-in_err-sync-clause-passes
returns-in_err-sync-clause-passes g c tells was =
    let disk = g.D.Disk in
    let wrote = first_step disk.seen disk.may_leave disk.moment disk.left_at (Torn 0 1) IsShort c.args.disk.now c.write_at.new.self torn_short (widened (Is []) IsShort (disk.seen c.args.disk.now) (disk.may_leave c.args.disk.now) nothing_short was) (λ image left. g.met.D.Disk.only_now c.args.disk.now image tells left) (c.write_at.ensures.crash tells) (c.write_at.ensures.reading tells) (c.write_at.ensures.time tells) in
    let kept = next_kept disk.seen disk.may_leave disk.moment disk.left_at IsShort c.args.disk.now c.write_at.new.self c.sync.new.self wrote.0 wrote.1 (c.sync.ensures.crash tells) (c.sync.ensures.reading tells) (c.sync.ensures.time tells) in
    record {
      moments = wider disk.moment disk.left_at c.args.disk.now c.sync.new.self IsShort IsFresh short_fresh kept.0;
      ok = IfOk-from_err c.from_residual-in_err-sync.result _ c.from_residual-in_err-sync.ensures.0;
      err = on_err c.from_residual-in_err-sync.result (widened IsShort IsFresh (disk.seen c.sync.new.self) (disk.may_leave c.sync.new.self) short_fresh kept.1);
    }

pub returns-clause-passes : goal.returns-clause-passes
returns-clause-passes g c tells was =
    let disk = g.D.Disk in
    let wrote = first_step disk.seen disk.may_leave disk.moment disk.left_at (Torn 0 1) IsShort c.args.disk.now c.write_at.new.self torn_short (widened (Is []) IsShort (disk.seen c.args.disk.now) (disk.may_leave c.args.disk.now) nothing_short was) (λ image left. g.met.D.Disk.only_now c.args.disk.now image tells left) (c.write_at.ensures.crash tells) (c.write_at.ensures.reading tells) (c.write_at.ensures.time tells) in
    let kept = next_kept disk.seen disk.may_leave disk.moment disk.left_at IsShort c.args.disk.now c.write_at.new.self c.sync.new.self wrote.0 wrote.1 (c.sync.ensures.crash tells) (c.sync.ensures.reading tells) (c.sync.ensures.time tells) in
    let gate : Is (0 ∷ []) (disk.seen c.write_at.new.self) = c.in_ok-write_at.ensures.written tells ∙ ap (λ (l : List ℕ). written 0 (0 ∷ []) l) was.reads in
    record {
      moments = wider disk.moment disk.left_at c.args.disk.now c.sync.new.self IsShort IsFresh short_fresh kept.0;
      ok = synced (Is (0 ∷ [])) (disk.seen c.write_at.new.self) (disk.seen c.sync.new.self) (disk.may_leave c.sync.new.self) gate (c.sync.ensures.seen tells) (c.in_ok-sync.ensures.durable tells);
      err = tt;
    }

pub returns-clause-calls : goal.returns-clause-calls
returns-clause-calls g c tells = c.sync.ensures.calls tells ∙ ap next_count (c.write_at.ensures.calls tells)
