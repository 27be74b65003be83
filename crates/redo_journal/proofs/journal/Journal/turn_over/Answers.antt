use Rattle.std.proofs.Common.{◌≡◌, inl, inr, ℕ, ◌+◌, ◌<◌, ◌≤◌, ◌^◌, List, [], ◌∷◌, length, refl, sym, ◌∙◌, ap, subst, arith}
use Rattle.std.specs.Prelude.{Some, None, Ok}
use Rattle.std.proofs.lemmas.Result.{IfOk-from_err}
use Rattle.hs_disk.specs.Disk.{calls_after, written}
use Rattle.redo_journal.specs.Gates.{Syncs, Throughout, TornFrom}
use Rattle.redo_journal.specs.Image.{Contents, area_alone}
use Rattle.redo_journal.specs.Inside.{standing}
use Rattle.redo_journal.specs.Journal.{Standing, IsOf, InDoubt, StandsOn}
use Rattle.redo_journal.specs.declared.doubt.Doubt.{Doubt}
use Rattle.redo_journal.specs.declared.refusal.DiskFault.{DiskFault}
use Rattle.redo_journal.specs.Root.{new_root}
use Rattle.redo_journal.proofs.AppendLemmas.{gate_within}
use Rattle.redo_journal.proofs.CommitLemmas.{commits, first_moments, second_moments, still_in_doubt, stands_quiet, quiet_stands, only_these}
use Rattle.redo_journal.proofs.DoubtLemmas.{doubt_moved}
use Rattle.redo_journal.proofs.Moments.{on_err, widened}
use Rattle.redo_journal.proofs.RepairLemmas.{still_on}
use Rattle.redo_journal.proofs.SegmentLemmas.{length-segment, turned}
use Rattle.redo_journal.proofs.StandLemmas.{length-written}
use Rattle.redo_journal.proofs.TurnLemmas.{Laid, as_plain, both_kept, laid, laid_doubt, opens_root, plain, root_bytes}
use Rattle.redo_journal.proofs.journal.Journal.turn_over.Goals as goal

pub returns-in_err-write_both-clause-commits : goal.returns-in_err-write_both-clause-commits
returns-in_err-write_both-clause-commits g c tells text contents doubtful number area stands is =
    let disk = g.D.Disk in
    let bytes = c.args.segment.now in
    let next : Contents = area_alone number area in
    let old : Standing = standing c.self.inside in
    let path : old ≡ plain old.gate old.first old.since = as_plain old (ap (λ s. s.root) c.self.view_is ∙ c.requires.no_root) (ap (λ s. s.doubt) c.self.view_is ∙ c.requires.quiet) in
    let journal : Standing = plain old.gate old.first old.since in
    let was = quiet_stands text contents doubtful journal (disk.seen c.args.disk.now) (disk.may_leave c.args.disk.now) refl (subst (λ (s : Standing). StandsOn text contents doubtful s (disk.seen c.args.disk.now) (disk.may_leave c.args.disk.now)) (sym c.self.view_is ∙ path) stands) in
    let images = disk.may_leave c.args.disk.now in
    let n = length (root_bytes (old.gate + 27)) in
    let During : List ℕ → Type 0 = TornFrom (old.gate + 27) (length bytes) (TornFrom (old.gate + 1) n images) in
    let into : (image : List ℕ) → During image → IsOf text contents journal image = λ image from. both_kept text contents old.gate old.first old.since n (length bytes) images image was.leaves from in
    let mid : List ℕ = written (old.gate + 27) bytes (written (old.gate + 1) (root_bytes (old.gate + 27)) (disk.seen c.args.disk.now)) in
    let Wrote : List ℕ → Type 0 = λ root. Syncs disk.seen disk.may_leave disk.moment disk.left_at c.args.disk.now c.write_both.new.disk (TornFrom (old.gate + 27) (length bytes) (TornFrom (old.gate + 1) (length root) images)) (written (old.gate + 27) bytes (written (old.gate + 1) root (disk.seen c.args.disk.now))) c.write_both.result in
    let wrote = subst Wrote c.new_bytes.ensures (c.write_both.ensures.syncs tells) in
    let none = c.from_residual.ensures.0 in
    let now : Throughout (IsOf text contents c.args.self.now) (disk.seen c.write_both.new.disk) (disk.may_leave c.write_both.new.disk) = subst (λ (s : Standing). Throughout (IsOf text contents s) (disk.seen c.write_both.new.disk) (disk.may_leave c.write_both.new.disk)) (sym path ∙ c.self.view_is) (widened During (IsOf text contents journal) (disk.seen c.write_both.new.disk) (disk.may_leave c.write_both.new.disk) into wrote.leaves) in
    commits disk.seen disk.may_leave disk.moment disk.left_at text contents doubtful next c.args.self.now c.args.self.now c.args.disk.now c.write_both.new.disk c.from_residual.result
    (first_moments disk.seen disk.may_leave disk.moment disk.left_at text contents doubtful next c.args.self.now journal c.args.disk.now c.write_both.new.disk During mid c.write_both.result wrote into)
    (IfOk-from_err c.from_residual.result _ none)
    (IfOk-from_err c.from_residual.result _ none)
    (on_err c.from_residual.result (inl (stands_quiet text contents doubtful c.args.self.now (disk.seen c.write_both.new.disk) (disk.may_leave c.write_both.new.disk) c.requires.quiet now)))

pub returns-in_err-set_byte-clause-commits : goal.returns-in_err-set_byte-clause-commits
returns-in_err-set_byte-clause-commits g c tells text contents doubtful number area stands is =
    let disk = g.D.Disk in
    let bytes = c.args.segment.now in
    let next : Contents = area_alone number area in
    let old : Standing = standing c.self.inside in
    let path : old ≡ plain old.gate old.first old.since = as_plain old (ap (λ s. s.root) c.self.view_is ∙ c.requires.no_root) (ap (λ s. s.doubt) c.self.view_is ∙ c.requires.quiet) in
    let journal : Standing = plain old.gate old.first old.since in
    let was = quiet_stands text contents doubtful journal (disk.seen c.args.disk.now) (disk.may_leave c.args.disk.now) refl (subst (λ (s : Standing). StandsOn text contents doubtful s (disk.seen c.args.disk.now) (disk.may_leave c.args.disk.now)) (sym c.self.view_is ∙ path) stands) in
    let images = disk.may_leave c.args.disk.now in
    let n = length (root_bytes (old.gate + 27)) in
    let During : List ℕ → Type 0 = TornFrom (old.gate + 27) (length bytes) (TornFrom (old.gate + 1) n images) in
    let into : (image : List ℕ) → During image → IsOf text contents journal image = λ image from. both_kept text contents old.gate old.first old.since n (length bytes) images image was.leaves from in
    let mid : List ℕ = written (old.gate + 27) bytes (written (old.gate + 1) (root_bytes (old.gate + 27)) (disk.seen c.args.disk.now)) in
    let Wrote : List ℕ → Type 0 = λ root. Syncs {T = Unit {0}} {E = DiskFault} disk.seen disk.may_leave disk.moment disk.left_at c.args.disk.now c.write_both.new.disk (TornFrom (old.gate + 27) (length bytes) (TornFrom (old.gate + 1) (length root) images)) (written (old.gate + 27) bytes (written (old.gate + 1) root (disk.seen c.args.disk.now))) (Ok tt) in
    let wrote = subst Wrote c.new_bytes.ensures (c.in_ok-write_both.ensures.syncs tells) in
    let fits : old.gate + 27 < 2 ^ 64 = omega (arith, c.in_ok-write_both.ensures.second_room) in
    let doubt : Doubt = record { place = old.gate; byte = 0 } in
    let whole : Throughout (Laid text contents old.gate old.first old.since bytes) (disk.seen c.write_both.new.disk) (disk.may_leave c.write_both.new.disk) = only_these (Laid text contents old.gate old.first old.since bytes) mid (disk.seen c.write_both.new.disk) (disk.may_leave c.write_both.new.disk) (laid text contents old.gate old.first old.since bytes (disk.seen c.args.disk.now) was.reads) wrote.ok in
    let doubted : Throughout (InDoubt text contents next journal doubt) (disk.seen c.write_both.new.disk) (disk.may_leave c.write_both.new.disk) = widened (Laid text contents old.gate old.first old.since bytes) (InDoubt text contents next journal doubt) (disk.seen c.write_both.new.disk) (disk.may_leave c.write_both.new.disk) (λ image laid. laid_doubt text contents old.gate old.first old.since number area bytes image is fits laid) whole in
    let late : List ℕ = written old.gate (1 ∷ []) (disk.seen c.write_both.new.disk) in
    let set = c.in_err-set_byte.ensures.syncs tells in
    let none = c.from_residual-in_err-set_byte.ensures.0 in
    let left = still_in_doubt disk.seen disk.may_leave disk.moment disk.left_at text contents next journal doubt c.write_both.new.disk c.set_byte.new.disk late _ doubted set in
    let now : Throughout (InDoubt text contents next (record old { doubt = Some doubt }) doubt) (disk.seen c.set_byte.new.disk) (disk.may_leave c.set_byte.new.disk) = subst (λ (s : Standing). Throughout (InDoubt text contents next (record s { doubt = Some doubt }) doubt) (disk.seen c.set_byte.new.disk) (disk.may_leave c.set_byte.new.disk)) (sym path) (widened (InDoubt text contents next journal doubt) (InDoubt text contents next (record journal { doubt = Some doubt }) doubt) (disk.seen c.set_byte.new.disk) (disk.may_leave c.set_byte.new.disk) (doubt_moved text contents next journal doubt (Some doubt)) left) in
    commits disk.seen disk.may_leave disk.moment disk.left_at text contents doubtful next c.args.self.now (record old { doubt = Some doubt }) c.args.disk.now c.set_byte.new.disk c.from_residual-in_err-set_byte.result
    (second_moments disk.seen disk.may_leave disk.moment disk.left_at text contents doubtful next c.args.self.now journal doubt c.args.disk.now c.write_both.new.disk c.set_byte.new.disk late _
    (first_moments disk.seen disk.may_leave disk.moment disk.left_at text contents doubtful next c.args.self.now journal c.args.disk.now c.write_both.new.disk During mid _ wrote into)
    doubted set)
    (IfOk-from_err c.from_residual-in_err-set_byte.result _ none)
    (IfOk-from_err c.from_residual-in_err-set_byte.result _ none)
    (on_err c.from_residual-in_err-set_byte.result (inr now))

pub returns-clause-commits : goal.returns-clause-commits
returns-clause-commits g c tells text contents doubtful number area stands is =
    let disk = g.D.Disk in
    let bytes = c.args.segment.now in
    let next : Contents = area_alone number area in
    let old : Standing = standing c.self.inside in
    let path : old ≡ plain old.gate old.first old.since = as_plain old (ap (λ s. s.root) c.self.view_is ∙ c.requires.no_root) (ap (λ s. s.doubt) c.self.view_is ∙ c.requires.quiet) in
    let journal : Standing = plain old.gate old.first old.since in
    let was = quiet_stands text contents doubtful journal (disk.seen c.args.disk.now) (disk.may_leave c.args.disk.now) refl (subst (λ (s : Standing). StandsOn text contents doubtful s (disk.seen c.args.disk.now) (disk.may_leave c.args.disk.now)) (sym c.self.view_is ∙ path) stands) in
    let images = disk.may_leave c.args.disk.now in
    let n = length (root_bytes (old.gate + 27)) in
    let During : List ℕ → Type 0 = TornFrom (old.gate + 27) (length bytes) (TornFrom (old.gate + 1) n images) in
    let into : (image : List ℕ) → During image → IsOf text contents journal image = λ image from. both_kept text contents old.gate old.first old.since n (length bytes) images image was.leaves from in
    let mid : List ℕ = written (old.gate + 27) bytes (written (old.gate + 1) (root_bytes (old.gate + 27)) (disk.seen c.args.disk.now)) in
    let Wrote : List ℕ → Type 0 = λ root. Syncs {T = Unit {0}} {E = DiskFault} disk.seen disk.may_leave disk.moment disk.left_at c.args.disk.now c.write_both.new.disk (TornFrom (old.gate + 27) (length bytes) (TornFrom (old.gate + 1) (length root) images)) (written (old.gate + 27) bytes (written (old.gate + 1) root (disk.seen c.args.disk.now))) (Ok tt) in
    let wrote = subst Wrote c.new_bytes.ensures (c.in_ok-write_both.ensures.syncs tells) in
    let fits : old.gate + 27 < 2 ^ 64 = omega (arith, c.in_ok-write_both.ensures.second_room) in
    let doubt : Doubt = record { place = old.gate; byte = 0 } in
    let whole : Throughout (Laid text contents old.gate old.first old.since bytes) (disk.seen c.write_both.new.disk) (disk.may_leave c.write_both.new.disk) = only_these (Laid text contents old.gate old.first old.since bytes) mid (disk.seen c.write_both.new.disk) (disk.may_leave c.write_both.new.disk) (laid text contents old.gate old.first old.since bytes (disk.seen c.args.disk.now) was.reads) wrote.ok in
    let doubted : Throughout (InDoubt text contents next journal doubt) (disk.seen c.write_both.new.disk) (disk.may_leave c.write_both.new.disk) = widened (Laid text contents old.gate old.first old.since bytes) (InDoubt text contents next journal doubt) (disk.seen c.write_both.new.disk) (disk.may_leave c.write_both.new.disk) (λ image laid. laid_doubt text contents old.gate old.first old.since number area bytes image is fits laid) whole in
    let late : List ℕ = written old.gate (1 ∷ []) (disk.seen c.write_both.new.disk) in
    let set = c.in_ok-set_byte.ensures.syncs tells in
    let now : Standing = turned (new_root old.gate) bytes in
    let same : c.rooted.result ≡ now = c.rooted.ensures ∙ (λ i. record { gate = c.last_gate-gate.ensures i; first = c.number_of.ensures i; since = 0; root = Some (new_root old.gate); doubt = None }) in
    let whatever = commits disk.seen disk.may_leave disk.moment disk.left_at text contents doubtful next c.args.self.now now c.args.disk.now c.set_byte.new.disk _
    (second_moments disk.seen disk.may_leave disk.moment disk.left_at text contents doubtful next c.args.self.now journal doubt c.args.disk.now c.write_both.new.disk c.set_byte.new.disk late _
    (first_moments disk.seen disk.may_leave disk.moment disk.left_at text contents doubtful next c.args.self.now journal c.args.disk.now c.write_both.new.disk During mid _ wrote into)
    doubted set)
    (only_these (IsOf text next now) late (disk.seen c.set_byte.new.disk) (disk.may_leave c.set_byte.new.disk) (opens_root text contents old.gate old.first old.since number area bytes (disk.seen c.write_both.new.disk) is fits whole.reads 1 refl) set.ok)
    refl
    tt in
    rw (c.self-2.view_is ∙ same) whatever

pub returns-clause-calls : goal.returns-clause-calls
returns-clause-calls g c tells = c.in_ok-set_byte.ensures.calls tells ∙ ap (calls_after 2) (c.in_ok-write_both.ensures.calls tells)

pub returns-in_err-write_both-clause-stands : goal.returns-in_err-write_both-clause-stands
returns-in_err-write_both-clause-stands g c tells =
    let disk = g.D.Disk in
    let on = c.requires.stands tells in
    let segment = c.requires.segment in
    still_on disk.seen disk.may_leave disk.moment disk.left_at on.text on.contents on.doubtful (area_alone segment.number segment.area) c.args.self.now _ c.args.disk.now c.write_both.new.disk c.from_residual.result (returns-in_err-write_both-clause-commits g c tells on.text on.contents on.doubtful segment.number segment.area on.stands segment.is)

pub returns-in_err-set_byte-clause-stands : goal.returns-in_err-set_byte-clause-stands
returns-in_err-set_byte-clause-stands g c tells =
    let disk = g.D.Disk in
    let on = c.requires.stands tells in
    let segment = c.requires.segment in
    still_on disk.seen disk.may_leave disk.moment disk.left_at on.text on.contents on.doubtful (area_alone segment.number segment.area) c.args.self.now _ c.args.disk.now c.set_byte.new.disk c.from_residual-in_err-set_byte.result (returns-in_err-set_byte-clause-commits g c tells on.text on.contents on.doubtful segment.number segment.area on.stands segment.is)

pub returns-clause-stands : goal.returns-clause-stands
returns-clause-stands g c tells =
    let disk = g.D.Disk in
    let on = c.requires.stands tells in
    let segment = c.requires.segment in
    still_on disk.seen disk.may_leave disk.moment disk.left_at on.text on.contents on.doubtful (area_alone segment.number segment.area) c.args.self.now _ c.args.disk.now c.set_byte.new.disk _ (returns-clause-commits g c tells on.text on.contents on.doubtful segment.number segment.area on.stands segment.is)

pub write_both-requires : goal.write_both-requires
write_both-requires g c = record {
  within = λ tells.
      let disk = g.D.Disk in
      let on = c.requires.stands tells in
      let gate : c.self.inside.gate ≡ c.args.self.now.gate = ap (λ s. s.gate) c.self.view_is in
      let was = quiet_stands on.text on.contents on.doubtful c.args.self.now (disk.seen c.args.disk.now) (disk.may_leave c.args.disk.now) c.requires.quiet on.stands in
      omega (arith, gate, gate_within on.text on.contents c.args.self.now (disk.seen c.args.disk.now) was.reads);
  second_within = λ tells.
      let disk = g.D.Disk in
      let on = c.requires.stands tells in
      let gate : c.self.inside.gate ≡ c.args.self.now.gate = ap (λ s. s.gate) c.self.view_is in
      let was = quiet_stands on.text on.contents on.doubtful c.args.self.now (disk.seen c.args.disk.now) (disk.may_leave c.args.disk.now) c.requires.quiet on.stands in
      let within : c.self.inside.gate + 1 ≤ length (disk.seen c.args.disk.now) = omega (arith, gate, gate_within on.text on.contents c.args.self.now (disk.seen c.args.disk.now) was.reads) in
      omega (arith, length-written (c.self.inside.gate + 1) c.new_bytes.result (disk.seen c.args.disk.now) within, ap length c.new_bytes.ensures);
}

pub set_byte-requires : goal.set_byte-requires
set_byte-requires g c = record {
  within = λ tells.
      let disk = g.D.Disk in
      let on = c.requires.stands tells in
      let gate : c.self.inside.gate ≡ c.args.self.now.gate = ap (λ s. s.gate) c.self.view_is in
      let was = quiet_stands on.text on.contents on.doubtful c.args.self.now (disk.seen c.args.disk.now) (disk.may_leave c.args.disk.now) c.requires.quiet on.stands in
      let from = (c.write_both.ensures.syncs tells).leaves.reads in
      let before = gate_within on.text on.contents c.args.self.now from.was.earlier (was.leaves from.was.earlier from.was.was) in
      omega (arith, gate, before, from.torn.no_shorter, from.was.torn.no_shorter);
}

pub number_of-requires : goal.number_of-requires
number_of-requires g c =
    let segment = c.requires.segment in
    omega (arith, length-segment segment.number segment.area c.args.segment.now segment.is)

pub rooted-requires-clause-before : goal.rooted-requires-clause-before
rooted-requires-clause-before g c =
    let segment = c.requires.segment in
    (omega arith, omega (arith, length-segment segment.number segment.area c.args.segment.now segment.is, c.last_gate-gate.ensures))
