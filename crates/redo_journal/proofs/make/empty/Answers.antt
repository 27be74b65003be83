use Rattle.std.proofs.Common.{[], ap, ◌∙◌}
use Rattle.std.proofs.lemmas.Result.{IfOk-from_err}
use Rattle.hs_disk.specs.Cause.{next_count}
use Rattle.hs_disk.specs.Disk.{Cut}
use Rattle.redo_journal.specs.Gates.{Is}
use Rattle.redo_journal.specs.Image.{IsFresh}
use Rattle.redo_journal.proofs.MakeLemmas.{cut_fresh}
use Rattle.redo_journal.proofs.Moments.{on_err, first_step, next_kept, synced}
use Rattle.redo_journal.proofs.make.empty.Goals as goal

pub returns-in_err-cut-clause-passes : goal.returns-in_err-cut-clause-passes
returns-in_err-cut-clause-passes g c tells was =
    let disk = g.D.Disk in
    let cut = first_step disk.seen disk.may_leave disk.moment disk.left_at (Cut 0) IsFresh c.args.disk.now c.cut.new.self cut_fresh was (λ image left. g.met.D.Disk.only_now c.args.disk.now image tells left) (c.cut.ensures.crash tells) (c.cut.ensures.reading tells) (c.cut.ensures.time tells) in
    record {
      moments = cut.0;
      ok = IfOk-from_err c.from_residual.result _ c.from_residual.ensures.0;
      err = on_err c.from_residual.result cut.1;
    }

pub returns-in_err-sync-clause-passes : goal.returns-in_err-sync-clause-passes
returns-in_err-sync-clause-passes g c tells was =
    let disk = g.D.Disk in
    let cut = first_step disk.seen disk.may_leave disk.moment disk.left_at (Cut 0) IsFresh c.args.disk.now c.cut.new.self cut_fresh was (λ image left. g.met.D.Disk.only_now c.args.disk.now image tells left) (c.cut.ensures.crash tells) (c.cut.ensures.reading tells) (c.cut.ensures.time tells) in
    let kept = next_kept disk.seen disk.may_leave disk.moment disk.left_at IsFresh c.args.disk.now c.cut.new.self c.sync.new.self cut.0 cut.1 (c.sync.ensures.crash tells) (c.sync.ensures.reading tells) (c.sync.ensures.time tells) in
    record {
      moments = kept.0;
      ok = IfOk-from_err c.from_residual-in_err-sync.result _ c.from_residual-in_err-sync.ensures.0;
      err = on_err c.from_residual-in_err-sync.result kept.1;
    }

pub returns-clause-passes : goal.returns-clause-passes
returns-clause-passes g c tells was =
    let disk = g.D.Disk in
    let cut = first_step disk.seen disk.may_leave disk.moment disk.left_at (Cut 0) IsFresh c.args.disk.now c.cut.new.self cut_fresh was (λ image left. g.met.D.Disk.only_now c.args.disk.now image tells left) (c.cut.ensures.crash tells) (c.cut.ensures.reading tells) (c.cut.ensures.time tells) in
    let kept = next_kept disk.seen disk.may_leave disk.moment disk.left_at IsFresh c.args.disk.now c.cut.new.self c.sync.new.self cut.0 cut.1 (c.sync.ensures.crash tells) (c.sync.ensures.reading tells) (c.sync.ensures.time tells) in
    record {
      moments = kept.0;
      ok = synced (Is []) (disk.seen c.cut.new.self) (disk.seen c.sync.new.self) (disk.may_leave c.sync.new.self) (c.in_ok-cut.ensures.cut tells) (c.sync.ensures.seen tells) (c.in_ok-sync.ensures.durable tells);
      err = tt;
    }

pub returns-clause-calls : goal.returns-clause-calls
returns-clause-calls g c tells = c.sync.ensures.calls tells ∙ ap next_count (c.cut.ensures.calls tells)
