use Rattle.std.proofs.Common.{◌≡◌, false, ap}
use Rattle.std.specs.Prelude.{is_some}
use Rattle.std.proofs.lemmas.Result.{IfOk-from_err, on_ok_weaker}
use Rattle.redo_journal.specs.Image.{added}
use Rattle.redo_journal.specs.Journal.{is_due}
use Rattle.redo_journal.proofs.CallLemmas.{appended}
use Rattle.redo_journal.proofs.RepairLemmas.{commit_stops, commit_follows, still_on}
use Rattle.redo_journal.proofs.journal.Journal.append.Goals as goal

pub returns-in_err-repair-clause-commits : goal.returns-in_err-repair-clause-commits
returns-in_err-repair-clause-commits g c tells text contents doubtful stands =
    let disk = g.D.Disk in
    let none = c.from_residual.ensures.0 in
    commit_stops disk.seen disk.may_leave disk.moment disk.left_at text contents doubtful (added contents c.args.payload.now) c.args.self.now c.repair.new.self c.args.disk.now c.repair.new.disk (c.repair.ensures.repairs tells text contents doubtful stands) c.from_residual.result
    (IfOk-from_err c.from_residual.result _ none)
    (IfOk-from_err c.from_residual.result _ none)

pub add-requires-clause-stands : goal.add-requires-clause-stands
add-requires-clause-stands g c tells =
    let on = c.requires.stands tells in
    record { text = on.text; contents = on.contents; doubtful = on.doubtful; stands = (c.repair.ensures.repairs tells on.text on.contents on.doubtful on.stands).stands }

pub returns-clause-commits : goal.returns-clause-commits
returns-clause-commits g c tells text contents doubtful stands =
    let disk = g.D.Disk in
    let repaired = c.repair.ensures.repairs tells text contents doubtful stands in
    let quiet : is_due c.repair.new.self ≡ false = ap (λ s. is_some s.doubt) c.in_ok-repair.ensures.ok in
    commit_follows disk.seen disk.may_leave disk.moment disk.left_at text contents doubtful (added contents c.args.payload.now) c.args.self.now c.repair.new.self c.args.disk.now c.repair.new.disk repaired c.add.new.self c.add.new.disk c.add.result quiet (c.add.ensures.commits tells text contents doubtful repaired.stands)

pub returns-in_err-repair-clause-stands : goal.returns-in_err-repair-clause-stands
returns-in_err-repair-clause-stands g c tells =
    let on = c.requires.stands tells in
    record { text = on.text; contents = on.contents; doubtful = on.doubtful; stands = (c.repair.ensures.repairs tells on.text on.contents on.doubtful on.stands).stands }

pub returns-clause-stands : goal.returns-clause-stands
returns-clause-stands g c tells =
    let disk = g.D.Disk in
    let on = c.requires.stands tells in
    let repaired = c.repair.ensures.repairs tells on.text on.contents on.doubtful on.stands in
    still_on disk.seen disk.may_leave disk.moment disk.left_at on.text on.contents on.doubtful (added on.contents c.args.payload.now) c.repair.new.self c.add.new.self c.repair.new.disk c.add.new.disk c.add.result (c.add.ensures.commits tells on.text on.contents on.doubtful repaired.stands)

pub returns-clause-calls : goal.returns-clause-calls
returns-clause-calls g c tells =
    let disk = g.D.Disk in
    on_ok_weaker c.add.result (appended (is_due c.args.self.now) (disk.calls c.args.disk.now) (disk.calls c.repair.new.disk) (disk.calls c.add.new.disk) (c.in_ok-repair.ensures.calls tells)) (c.add.ensures.calls tells)
