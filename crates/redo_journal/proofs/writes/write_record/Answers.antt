use Rattle.std.proofs.Common.{◌∷◌, [], ◌++◌, length, List, ℕ, ap, ◌∙◌}
use Rattle.std.proofs.lemmas.Result.{IfOk-from_err}
use Rattle.hs_disk.specs.Cause.{next_count}
use Rattle.hs_disk.specs.Disk.{written}
use Rattle.redo_journal.specs.Gates.{TornFrom}
use Rattle.redo_journal.proofs.Moments.{begins}
use Rattle.redo_journal.proofs.SyncLemmas.{untorn, torn_from, stops, ends, reads_only}
use Rattle.redo_journal.proofs.writes.write_record.Goals as goal

pub returns-in_err-write_pieces-clause-syncs : goal.returns-in_err-write_pieces-clause-syncs
returns-in_err-write_pieces-clause-syncs g c tells =
    let disk = g.D.Disk in
    let bytes = c.args.head.now ++ c.args.body.now ++ 0 ∷ [] in
    let old = disk.may_leave c.args.disk.now in
    let During : List ℕ → Type 0 = TornFrom c.args.place (length bytes) old in
    let wrote = begins disk.seen disk.may_leave disk.moment disk.left_at During c.args.disk.now c.write_pieces.new.self (λ image left. g.met.D.Disk.only_now c.args.disk.now image tells left) (untorn c.args.place (length bytes) old) (torn_from c.args.place (length bytes) old (disk.may_leave c.write_pieces.new.self) (c.write_pieces.ensures.crash tells)) (c.write_pieces.ensures.reading tells) (c.write_pieces.ensures.time tells) in
    stops disk.seen disk.may_leave disk.moment disk.left_at During (written c.args.place bytes (disk.seen c.args.disk.now)) c.args.disk.now c.write_pieces.new.self c.from_residual.result wrote (IfOk-from_err c.from_residual.result _ c.from_residual.ensures.0)

pub returns-in_err-sync-clause-syncs : goal.returns-in_err-sync-clause-syncs
returns-in_err-sync-clause-syncs g c tells =
    let disk = g.D.Disk in
    let bytes = c.args.head.now ++ c.args.body.now ++ 0 ∷ [] in
    let old = disk.may_leave c.args.disk.now in
    let During : List ℕ → Type 0 = TornFrom c.args.place (length bytes) old in
    let wrote = begins disk.seen disk.may_leave disk.moment disk.left_at During c.args.disk.now c.write_pieces.new.self (λ image left. g.met.D.Disk.only_now c.args.disk.now image tells left) (untorn c.args.place (length bytes) old) (torn_from c.args.place (length bytes) old (disk.may_leave c.write_pieces.new.self) (c.write_pieces.ensures.crash tells)) (c.write_pieces.ensures.reading tells) (c.write_pieces.ensures.time tells) in
    ends disk.seen disk.may_leave disk.moment disk.left_at During (written c.args.place bytes (disk.seen c.args.disk.now)) c.args.disk.now c.write_pieces.new.self c.sync.new.self c.from_residual-in_err-sync.result wrote (c.sync.ensures.crash tells) (c.sync.ensures.reading tells) (c.sync.ensures.time tells) (IfOk-from_err c.from_residual-in_err-sync.result _ c.from_residual-in_err-sync.ensures.0)

pub returns-clause-syncs : goal.returns-clause-syncs
returns-clause-syncs g c tells =
    let disk = g.D.Disk in
    let bytes = c.args.head.now ++ c.args.body.now ++ 0 ∷ [] in
    let old = disk.may_leave c.args.disk.now in
    let During : List ℕ → Type 0 = TornFrom c.args.place (length bytes) old in
    let wrote = begins disk.seen disk.may_leave disk.moment disk.left_at During c.args.disk.now c.write_pieces.new.self (λ image left. g.met.D.Disk.only_now c.args.disk.now image tells left) (untorn c.args.place (length bytes) old) (torn_from c.args.place (length bytes) old (disk.may_leave c.write_pieces.new.self) (c.write_pieces.ensures.crash tells)) (c.write_pieces.ensures.reading tells) (c.write_pieces.ensures.time tells) in
    ends disk.seen disk.may_leave disk.moment disk.left_at During (written c.args.place bytes (disk.seen c.args.disk.now)) c.args.disk.now c.write_pieces.new.self c.sync.new.self _ wrote (c.sync.ensures.crash tells) (c.sync.ensures.reading tells) (c.sync.ensures.time tells) (reads_only (written c.args.place bytes (disk.seen c.args.disk.now)) (disk.seen c.write_pieces.new.self) (disk.seen c.sync.new.self) (disk.may_leave c.sync.new.self) (c.in_ok-write_pieces.ensures.written tells) (c.sync.ensures.seen tells) (c.in_ok-sync.ensures.durable tells))

pub returns-clause-calls : goal.returns-clause-calls
returns-clause-calls g c tells = c.sync.ensures.calls tells ∙ ap next_count (c.write_pieces.ensures.calls tells)
