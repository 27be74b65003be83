use Rattle.std.proofs.Common.{◌≡◌, inl, inr, ℕ, ◌+◌, ◌<◌, ◌^◌, List, [], ◌∷◌, length, refl, sym, ◌∙◌, ap, subst, arith}
use Rattle.std.specs.Prelude.{Some, None, not}
use Rattle.std.specs.Int.{w64, to_be_bytes}
use Rattle.std.proofs.lemmas.Result.{IfOk-from_err}
use Rattle.hs_disk.specs.Disk.{calls_after, written}
use Rattle.redo_journal.specs.Gates.{Throughout, TornFrom}
use Rattle.redo_journal.specs.Image.{Contents, area_alone}
use Rattle.redo_journal.specs.Inside.{standing}
use Rattle.redo_journal.specs.Journal.{Standing, IsOf, InDoubt, StandsOn}
use Rattle.redo_journal.specs.Root.{cell_number, cell_place, root_end}
use Rattle.redo_journal.specs.declared.doubt.Doubt.{Doubt}
use Rattle.redo_journal.specs.declared.root.Root.{Root}
use Rattle.redo_journal.proofs.AppendLemmas.{gate_within}
use Rattle.redo_journal.proofs.CommitLemmas.{commits, first_moments, second_moments, still_in_doubt, stands_quiet, quiet_stands, only_these}
use Rattle.redo_journal.proofs.DoubtLemmas.{doubt_moved}
use Rattle.redo_journal.proofs.FormLemmas.{cell_behind}
use Rattle.redo_journal.proofs.Moments.{on_err, widened}
use Rattle.redo_journal.proofs.RotateLemmas.{IsFree, Laid, as_rooted, both_kept, free_place, laid, laid_doubt, names_other, other, own_number, rooted}
use Rattle.redo_journal.proofs.SegmentLemmas.{length-segment, turned}
use Rattle.redo_journal.proofs.journal.Journal.turn.Goals as goal

pub returns-in_err-write_segment-clause-commits : goal.returns-in_err-write_segment-clause-commits
returns-in_err-write_segment-clause-commits g c tells text contents doubtful number area stands is =
    let disk = g.D.Disk in
    let bytes = c.args.segment.now in
    let next : Contents = area_alone number area in
    let root : Root = c.named_root-root.result in
    let old : Standing = standing c.self.inside in
    let path : old ≡ rooted old.gate old.first old.since root = as_rooted old root (ap (λ s. s.root) c.self.view_is ∙ c.named_root-root.ensures.root) (ap (λ s. s.doubt) c.self.view_is ∙ c.requires.quiet) in
    let journal : Standing = rooted old.gate old.first old.since root in
    let was = quiet_stands text contents doubtful journal (disk.seen c.args.disk.now) (disk.may_leave c.args.disk.now) refl (subst (λ (s : Standing). StandsOn text contents doubtful s (disk.seen c.args.disk.now) (disk.may_leave c.args.disk.now)) (sym c.self.view_is ∙ path) stands) in
    let place : ℕ = c.place_of.result in
    let gate : old.gate ≡ c.args.self.now.gate = ap (λ s. s.gate) c.self.view_is in
    let free : IsFree old.gate root place (length bytes) = free_place old.gate root (length bytes) place c.named_root-root.ensures.before.0 (omega (arith, gate, c.named_root-root.ensures.before.1)) c.place_of.ensures in
    let cell : ℕ = cell_place root.gate (not root.second) in
    let images = disk.may_leave c.args.disk.now in
    let During : List ℕ → Type 0 = TornFrom cell 8 (TornFrom place (length bytes) images) in
    let into : (image : List ℕ) → During image → IsOf text contents journal image = λ image from. both_kept text contents old.gate old.first old.since root place (length bytes) images image free was.leaves from in
    let mid : List ℕ = written cell (to_be_bytes w64 place) (written place bytes (disk.seen c.args.disk.now)) in
    let wrote = c.write_segment.ensures.syncs tells in
    let none = c.from_residual.ensures.0 in
    let now : Throughout (IsOf text contents c.args.self.now) (disk.seen c.write_segment.new.disk) (disk.may_leave c.write_segment.new.disk) = subst (λ (s : Standing). Throughout (IsOf text contents s) (disk.seen c.write_segment.new.disk) (disk.may_leave c.write_segment.new.disk)) (sym path ∙ c.self.view_is) (widened During (IsOf text contents journal) (disk.seen c.write_segment.new.disk) (disk.may_leave c.write_segment.new.disk) into wrote.leaves) in
    commits disk.seen disk.may_leave disk.moment disk.left_at text contents doubtful next c.args.self.now c.args.self.now c.args.disk.now c.write_segment.new.disk c.from_residual.result
    (first_moments disk.seen disk.may_leave disk.moment disk.left_at text contents doubtful next c.args.self.now journal c.args.disk.now c.write_segment.new.disk During mid c.write_segment.result wrote into)
    (IfOk-from_err c.from_residual.result _ none)
    (IfOk-from_err c.from_residual.result _ none)
    (on_err c.from_residual.result (inl (stands_quiet text contents doubtful c.args.self.now (disk.seen c.write_segment.new.disk) (disk.may_leave c.write_segment.new.disk) c.requires.quiet now)))

pub returns-in_err-select-clause-commits : goal.returns-in_err-select-clause-commits
returns-in_err-select-clause-commits g c tells text contents doubtful number area stands is =
    let disk = g.D.Disk in
    let bytes = c.args.segment.now in
    let next : Contents = area_alone number area in
    let root : Root = c.named_root-root.result in
    let old : Standing = standing c.self.inside in
    let path : old ≡ rooted old.gate old.first old.since root = as_rooted old root (ap (λ s. s.root) c.self.view_is ∙ c.named_root-root.ensures.root) (ap (λ s. s.doubt) c.self.view_is ∙ c.requires.quiet) in
    let journal : Standing = rooted old.gate old.first old.since root in
    let was = quiet_stands text contents doubtful journal (disk.seen c.args.disk.now) (disk.may_leave c.args.disk.now) refl (subst (λ (s : Standing). StandsOn text contents doubtful s (disk.seen c.args.disk.now) (disk.may_leave c.args.disk.now)) (sym c.self.view_is ∙ path) stands) in
    let place : ℕ = c.place_of.result in
    let gate : old.gate ≡ c.args.self.now.gate = ap (λ s. s.gate) c.self.view_is in
    let free : IsFree old.gate root place (length bytes) = free_place old.gate root (length bytes) place c.named_root-root.ensures.before.0 (omega (arith, gate, c.named_root-root.ensures.before.1)) c.place_of.ensures in
    let cell : ℕ = cell_place root.gate (not root.second) in
    let images = disk.may_leave c.args.disk.now in
    let During : List ℕ → Type 0 = TornFrom cell 8 (TornFrom place (length bytes) images) in
    let into : (image : List ℕ) → During image → IsOf text contents journal image = λ image from. both_kept text contents old.gate old.first old.since root place (length bytes) images image free was.leaves from in
    let mid : List ℕ = written cell (to_be_bytes w64 place) (written place bytes (disk.seen c.args.disk.now)) in
    let wrote = c.in_ok-write_segment.ensures.syncs tells in
    let behind : root_end root < place = free.behind in
    let fits : place < 2 ^ 64 = omega (arith, c.in_ok-write_segment.ensures.room) in
    let doubt : Doubt = record { place = root.gate + 9; byte = cell_number root.second } in
    let whole : Throughout (Laid text contents old.gate old.first old.since root bytes place) (disk.seen c.write_segment.new.disk) (disk.may_leave c.write_segment.new.disk) = only_these (Laid text contents old.gate old.first old.since root bytes place) mid (disk.seen c.write_segment.new.disk) (disk.may_leave c.write_segment.new.disk) (laid text contents old.gate old.first old.since root bytes (disk.seen c.args.disk.now) place free was.reads) wrote.ok in
    let doubted : Throughout (InDoubt text contents next journal doubt) (disk.seen c.write_segment.new.disk) (disk.may_leave c.write_segment.new.disk) = widened (Laid text contents old.gate old.first old.since root bytes place) (InDoubt text contents next journal doubt) (disk.seen c.write_segment.new.disk) (disk.may_leave c.write_segment.new.disk) (λ image laid. laid_doubt text contents old.gate old.first old.since root number area bytes place image is behind fits laid) whole in
    let late : List ℕ = written (root.gate + 9) (cell_number (not root.second) ∷ []) (disk.seen c.write_segment.new.disk) in
    let set = c.in_err-select.ensures.syncs tells in
    let none = c.from_residual-in_err-select.ensures.0 in
    let left = still_in_doubt disk.seen disk.may_leave disk.moment disk.left_at text contents next journal doubt c.write_segment.new.disk c.select.new.disk late _ doubted set in
    let here : Throughout (InDoubt text contents next (record old { doubt = Some doubt }) doubt) (disk.seen c.select.new.disk) (disk.may_leave c.select.new.disk) = subst (λ (s : Standing). Throughout (InDoubt text contents next (record s { doubt = Some doubt }) doubt) (disk.seen c.select.new.disk) (disk.may_leave c.select.new.disk)) (sym path) (widened (InDoubt text contents next journal doubt) (InDoubt text contents next (record journal { doubt = Some doubt }) doubt) (disk.seen c.select.new.disk) (disk.may_leave c.select.new.disk) (doubt_moved text contents next journal doubt (Some doubt)) left) in
    let now : Throughout (InDoubt text contents next (record old { doubt = Some c.doubt.result }) c.doubt.result) (disk.seen c.select.new.disk) (disk.may_leave c.select.new.disk) = subst (λ (d : Doubt). Throughout (InDoubt text contents next (record old { doubt = Some d }) d) (disk.seen c.select.new.disk) (disk.may_leave c.select.new.disk)) (sym c.doubt.ensures) here in
    commits disk.seen disk.may_leave disk.moment disk.left_at text contents doubtful next c.args.self.now (record old { doubt = Some c.doubt.result }) c.args.disk.now c.select.new.disk c.from_residual-in_err-select.result
    (second_moments disk.seen disk.may_leave disk.moment disk.left_at text contents doubtful next c.args.self.now journal doubt c.args.disk.now c.write_segment.new.disk c.select.new.disk late _
    (first_moments disk.seen disk.may_leave disk.moment disk.left_at text contents doubtful next c.args.self.now journal c.args.disk.now c.write_segment.new.disk During mid _ wrote into)
    doubted set)
    (IfOk-from_err c.from_residual-in_err-select.result _ none)
    (IfOk-from_err c.from_residual-in_err-select.result _ none)
    (on_err c.from_residual-in_err-select.result (inr now))

pub returns-clause-commits : goal.returns-clause-commits
returns-clause-commits g c tells text contents doubtful number area stands is =
    let disk = g.D.Disk in
    let bytes = c.args.segment.now in
    let next : Contents = area_alone number area in
    let root : Root = c.named_root-root.result in
    let old : Standing = standing c.self.inside in
    let path : old ≡ rooted old.gate old.first old.since root = as_rooted old root (ap (λ s. s.root) c.self.view_is ∙ c.named_root-root.ensures.root) (ap (λ s. s.doubt) c.self.view_is ∙ c.requires.quiet) in
    let journal : Standing = rooted old.gate old.first old.since root in
    let was = quiet_stands text contents doubtful journal (disk.seen c.args.disk.now) (disk.may_leave c.args.disk.now) refl (subst (λ (s : Standing). StandsOn text contents doubtful s (disk.seen c.args.disk.now) (disk.may_leave c.args.disk.now)) (sym c.self.view_is ∙ path) stands) in
    let place : ℕ = c.place_of.result in
    let gate : old.gate ≡ c.args.self.now.gate = ap (λ s. s.gate) c.self.view_is in
    let free : IsFree old.gate root place (length bytes) = free_place old.gate root (length bytes) place c.named_root-root.ensures.before.0 (omega (arith, gate, c.named_root-root.ensures.before.1)) c.place_of.ensures in
    let cell : ℕ = cell_place root.gate (not root.second) in
    let images = disk.may_leave c.args.disk.now in
    let During : List ℕ → Type 0 = TornFrom cell 8 (TornFrom place (length bytes) images) in
    let into : (image : List ℕ) → During image → IsOf text contents journal image = λ image from. both_kept text contents old.gate old.first old.since root place (length bytes) images image free was.leaves from in
    let mid : List ℕ = written cell (to_be_bytes w64 place) (written place bytes (disk.seen c.args.disk.now)) in
    let wrote = c.in_ok-write_segment.ensures.syncs tells in
    let behind : root_end root < place = free.behind in
    let fits : place < 2 ^ 64 = omega (arith, c.in_ok-write_segment.ensures.room) in
    let doubt : Doubt = record { place = root.gate + 9; byte = cell_number root.second } in
    let whole : Throughout (Laid text contents old.gate old.first old.since root bytes place) (disk.seen c.write_segment.new.disk) (disk.may_leave c.write_segment.new.disk) = only_these (Laid text contents old.gate old.first old.since root bytes place) mid (disk.seen c.write_segment.new.disk) (disk.may_leave c.write_segment.new.disk) (laid text contents old.gate old.first old.since root bytes (disk.seen c.args.disk.now) place free was.reads) wrote.ok in
    let doubted : Throughout (InDoubt text contents next journal doubt) (disk.seen c.write_segment.new.disk) (disk.may_leave c.write_segment.new.disk) = widened (Laid text contents old.gate old.first old.since root bytes place) (InDoubt text contents next journal doubt) (disk.seen c.write_segment.new.disk) (disk.may_leave c.write_segment.new.disk) (λ image laid. laid_doubt text contents old.gate old.first old.since root number area bytes place image is behind fits laid) whole in
    let late : List ℕ = written (root.gate + 9) (cell_number (not root.second) ∷ []) (disk.seen c.write_segment.new.disk) in
    let set = c.in_ok-select.ensures.syncs tells in
    let now : Standing = turned (other root place) bytes in
    let same : c.rooted.result ≡ now = c.rooted.ensures ∙ (λ i. record { gate = c.last_gate-gate.ensures i; first = c.number_of.ensures i; since = 0; root = Some (other root place); doubt = None }) in
    let whatever = commits disk.seen disk.may_leave disk.moment disk.left_at text contents doubtful next c.args.self.now now c.args.disk.now c.select.new.disk _
    (second_moments disk.seen disk.may_leave disk.moment disk.left_at text contents doubtful next c.args.self.now journal doubt c.args.disk.now c.write_segment.new.disk c.select.new.disk late _
    (first_moments disk.seen disk.may_leave disk.moment disk.left_at text contents doubtful next c.args.self.now journal c.args.disk.now c.write_segment.new.disk During mid _ wrote into)
    doubted set)
    (only_these (IsOf text next now) late (disk.seen c.select.new.disk) (disk.may_leave c.select.new.disk) (names_other text contents old.gate old.first old.since root number area bytes place (disk.seen c.write_segment.new.disk) is behind fits whole.reads (cell_number (not root.second)) (own_number (not root.second))) set.ok)
    refl
    tt in
    rw (c.self-2.view_is ∙ same) whatever

pub returns-clause-calls : goal.returns-clause-calls
returns-clause-calls g c tells = c.in_ok-select.ensures.calls tells ∙ ap (calls_after 2) (c.in_ok-write_segment.ensures.calls tells)

pub write_segment-requires-clause-within : goal.write_segment-requires-clause-within
write_segment-requires-clause-within g c tells =
    let disk = g.D.Disk in
    let on = c.requires.stands tells in
    let root : Root = c.named_root-root.result in
    let gate : c.self.inside.gate ≡ c.args.self.now.gate = ap (λ s. s.gate) c.self.view_is in
    let free : IsFree c.self.inside.gate root c.place_of.result (length c.args.segment.now) = free_place c.self.inside.gate root (length c.args.segment.now) c.place_of.result c.named_root-root.ensures.before.0 (omega (arith, gate, c.named_root-root.ensures.before.1)) c.place_of.ensures in
    let was = quiet_stands on.text on.contents on.doubtful c.args.self.now (disk.seen c.args.disk.now) (disk.may_leave c.args.disk.now) c.requires.quiet on.stands in
    omega (arith, free.within, gate, gate_within on.text on.contents c.args.self.now (disk.seen c.args.disk.now) was.reads)

pub write_segment-requires-clause-cell : goal.write_segment-requires-clause-cell
write_segment-requires-clause-cell g c tells =
    let disk = g.D.Disk in
    let on = c.requires.stands tells in
    let root : Root = c.named_root-root.result in
    let was = quiet_stands on.text on.contents on.doubtful c.args.self.now (disk.seen c.args.disk.now) (disk.may_leave c.args.disk.now) c.requires.quiet on.stands in
    omega (arith, (cell_behind root.gate (not root.second)).1, c.named_root-root.ensures.before.0, c.named_root-root.ensures.before.1, gate_within on.text on.contents c.args.self.now (disk.seen c.args.disk.now) was.reads)

pub select-requires-clause-within : goal.select-requires-clause-within
select-requires-clause-within g c tells =
    let disk = g.D.Disk in
    let on = c.requires.stands tells in
    let root : Root = c.named_root-root.result in
    let was = quiet_stands on.text on.contents on.doubtful c.args.self.now (disk.seen c.args.disk.now) (disk.may_leave c.args.disk.now) c.requires.quiet on.stands in
    let wrote = c.write_segment.ensures.syncs tells in
    let from = wrote.leaves.reads in
    let before = gate_within on.text on.contents c.args.self.now from.was.earlier (was.leaves from.was.earlier from.was.was) in
    omega (arith, c.named_root-root.ensures.before.0, c.named_root-root.ensures.before.1, before, from.torn.no_shorter, from.was.torn.no_shorter)

pub number_of-requires : goal.number_of-requires
number_of-requires g c =
    let segment = c.requires.segment in
    omega (arith, length-segment segment.number segment.area c.args.segment.now segment.is)

pub rooted-requires-clause-before : goal.rooted-requires-clause-before
rooted-requires-clause-before g c =
    let segment = c.requires.segment in
    let root : Root = c.named_root-root.result in
    let gate : c.self.inside.gate ≡ c.args.self.now.gate = ap (λ s. s.gate) c.self.view_is in
    let free : IsFree c.self.inside.gate root c.place_of.result (length c.args.segment.now) = free_place c.self.inside.gate root (length c.args.segment.now) c.place_of.result c.named_root-root.ensures.before.0 (omega (arith, gate, c.named_root-root.ensures.before.1)) c.place_of.ensures in
    (free.behind, omega (arith, length-segment segment.number segment.area c.args.segment.now segment.is, c.last_gate-gate.ensures))
