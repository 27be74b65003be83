use Rattle.std.proofs.Common.{◌≡◌, length, List, ℕ, ap, ◌∙◌}
use Rattle.std.proofs.lemmas.Result.{IfOk-from_err}
use Rattle.hs_disk.specs.Cause.{next_count}
use Rattle.hs_disk.specs.Disk.{written}
use Rattle.redo_journal.specs.Gates.{TornFrom}
use Rattle.redo_journal.proofs.Moments.{begins, proceeds}
use Rattle.redo_journal.proofs.SyncLemmas.{untorn, torn_from, torn_again, stops, ends, reads_only}
use Rattle.redo_journal.proofs.writes.write_both.Goals as goal

pub returns-in_err-write_at-clause-syncs : goal.returns-in_err-write_at-clause-syncs
returns-in_err-write_at-clause-syncs g c tells =
    let disk = g.D.Disk in
    let n = length c.args.bytes.now in
    let m = length c.args.second_bytes.now in
    let old = disk.may_leave c.args.disk.now in
    let Once : List ℕ → Type 0 = TornFrom c.args.place n old in
    let Twice : List ℕ → Type 0 = TornFrom c.args.second_place m Once in
    let after : List ℕ = written c.args.second_place c.args.second_bytes.now (written c.args.place c.args.bytes.now (disk.seen c.args.disk.now)) in
    let once : (image : List ℕ) → disk.may_leave c.write_at.new.self image → Once image = torn_from c.args.place n old (disk.may_leave c.write_at.new.self) (c.write_at.ensures.crash tells) in
    let wrote = begins disk.seen disk.may_leave disk.moment disk.left_at Twice c.args.disk.now c.write_at.new.self (λ image left. g.met.D.Disk.only_now c.args.disk.now image tells left) (λ image left. untorn c.args.second_place m Once image (untorn c.args.place n old image left)) (λ image left. untorn c.args.second_place m Once image (once image left)) (c.write_at.ensures.reading tells) (c.write_at.ensures.time tells) in
    stops disk.seen disk.may_leave disk.moment disk.left_at Twice after c.args.disk.now c.write_at.new.self c.from_residual.result wrote (IfOk-from_err c.from_residual.result _ c.from_residual.ensures.0)

pub returns-in_err-write_at-2-clause-syncs : goal.returns-in_err-write_at-2-clause-syncs
returns-in_err-write_at-2-clause-syncs g c tells =
    let disk = g.D.Disk in
    let n = length c.args.bytes.now in
    let m = length c.args.second_bytes.now in
    let old = disk.may_leave c.args.disk.now in
    let Once : List ℕ → Type 0 = TornFrom c.args.place n old in
    let Twice : List ℕ → Type 0 = TornFrom c.args.second_place m Once in
    let after : List ℕ = written c.args.second_place c.args.second_bytes.now (written c.args.place c.args.bytes.now (disk.seen c.args.disk.now)) in
    let once : (image : List ℕ) → disk.may_leave c.write_at.new.self image → Once image = torn_from c.args.place n old (disk.may_leave c.write_at.new.self) (c.write_at.ensures.crash tells) in
    let wrote = begins disk.seen disk.may_leave disk.moment disk.left_at Twice c.args.disk.now c.write_at.new.self (λ image left. g.met.D.Disk.only_now c.args.disk.now image tells left) (λ image left. untorn c.args.second_place m Once image (untorn c.args.place n old image left)) (λ image left. untorn c.args.second_place m Once image (once image left)) (c.write_at.ensures.reading tells) (c.write_at.ensures.time tells) in
    let again = proceeds disk.seen disk.may_leave disk.moment disk.left_at Twice c.args.disk.now c.write_at.new.self c.write_at-2.new.self wrote.0 (torn_again c.args.place n c.args.second_place m old (disk.may_leave c.write_at.new.self) (disk.may_leave c.write_at-2.new.self) once (c.write_at-2.ensures.crash tells)) (c.write_at-2.ensures.reading tells) (c.write_at-2.ensures.time tells) in
    stops disk.seen disk.may_leave disk.moment disk.left_at Twice after c.args.disk.now c.write_at-2.new.self c.from_residual-in_err-write_at-2.result again (IfOk-from_err c.from_residual-in_err-write_at-2.result _ c.from_residual-in_err-write_at-2.ensures.0)

pub returns-in_err-sync-clause-syncs : goal.returns-in_err-sync-clause-syncs
returns-in_err-sync-clause-syncs g c tells =
    let disk = g.D.Disk in
    let n = length c.args.bytes.now in
    let m = length c.args.second_bytes.now in
    let old = disk.may_leave c.args.disk.now in
    let Once : List ℕ → Type 0 = TornFrom c.args.place n old in
    let Twice : List ℕ → Type 0 = TornFrom c.args.second_place m Once in
    let after : List ℕ = written c.args.second_place c.args.second_bytes.now (written c.args.place c.args.bytes.now (disk.seen c.args.disk.now)) in
    let once : (image : List ℕ) → disk.may_leave c.write_at.new.self image → Once image = torn_from c.args.place n old (disk.may_leave c.write_at.new.self) (c.write_at.ensures.crash tells) in
    let wrote = begins disk.seen disk.may_leave disk.moment disk.left_at Twice c.args.disk.now c.write_at.new.self (λ image left. g.met.D.Disk.only_now c.args.disk.now image tells left) (λ image left. untorn c.args.second_place m Once image (untorn c.args.place n old image left)) (λ image left. untorn c.args.second_place m Once image (once image left)) (c.write_at.ensures.reading tells) (c.write_at.ensures.time tells) in
    let again = proceeds disk.seen disk.may_leave disk.moment disk.left_at Twice c.args.disk.now c.write_at.new.self c.write_at-2.new.self wrote.0 (torn_again c.args.place n c.args.second_place m old (disk.may_leave c.write_at.new.self) (disk.may_leave c.write_at-2.new.self) once (c.write_at-2.ensures.crash tells)) (c.write_at-2.ensures.reading tells) (c.write_at-2.ensures.time tells) in
    ends disk.seen disk.may_leave disk.moment disk.left_at Twice after c.args.disk.now c.write_at-2.new.self c.sync.new.self c.from_residual-in_err-sync.result again (c.sync.ensures.crash tells) (c.sync.ensures.reading tells) (c.sync.ensures.time tells) (IfOk-from_err c.from_residual-in_err-sync.result _ c.from_residual-in_err-sync.ensures.0)

pub returns-clause-syncs : goal.returns-clause-syncs
returns-clause-syncs g c tells =
    let disk = g.D.Disk in
    let n = length c.args.bytes.now in
    let m = length c.args.second_bytes.now in
    let old = disk.may_leave c.args.disk.now in
    let Once : List ℕ → Type 0 = TornFrom c.args.place n old in
    let Twice : List ℕ → Type 0 = TornFrom c.args.second_place m Once in
    let after : List ℕ = written c.args.second_place c.args.second_bytes.now (written c.args.place c.args.bytes.now (disk.seen c.args.disk.now)) in
    let once : (image : List ℕ) → disk.may_leave c.write_at.new.self image → Once image = torn_from c.args.place n old (disk.may_leave c.write_at.new.self) (c.write_at.ensures.crash tells) in
    let wrote = begins disk.seen disk.may_leave disk.moment disk.left_at Twice c.args.disk.now c.write_at.new.self (λ image left. g.met.D.Disk.only_now c.args.disk.now image tells left) (λ image left. untorn c.args.second_place m Once image (untorn c.args.place n old image left)) (λ image left. untorn c.args.second_place m Once image (once image left)) (c.write_at.ensures.reading tells) (c.write_at.ensures.time tells) in
    let again = proceeds disk.seen disk.may_leave disk.moment disk.left_at Twice c.args.disk.now c.write_at.new.self c.write_at-2.new.self wrote.0 (torn_again c.args.place n c.args.second_place m old (disk.may_leave c.write_at.new.self) (disk.may_leave c.write_at-2.new.self) once (c.write_at-2.ensures.crash tells)) (c.write_at-2.ensures.reading tells) (c.write_at-2.ensures.time tells) in
    let both : disk.seen c.write_at-2.new.self ≡ after = c.in_ok-write_at-2.ensures.written tells ∙ ap (λ (l : List ℕ). written c.args.second_place c.args.second_bytes.now l) (c.in_ok-write_at.ensures.written tells) in
    ends disk.seen disk.may_leave disk.moment disk.left_at Twice after c.args.disk.now c.write_at-2.new.self c.sync.new.self _ again (c.sync.ensures.crash tells) (c.sync.ensures.reading tells) (c.sync.ensures.time tells) (reads_only after (disk.seen c.write_at-2.new.self) (disk.seen c.sync.new.self) (disk.may_leave c.sync.new.self) both (c.sync.ensures.seen tells) (c.in_ok-sync.ensures.durable tells))

pub returns-clause-calls : goal.returns-clause-calls
returns-clause-calls g c tells =
    c.sync.ensures.calls tells ∙ ap next_count (c.write_at-2.ensures.calls tells ∙ ap next_count (c.write_at.ensures.calls tells))
