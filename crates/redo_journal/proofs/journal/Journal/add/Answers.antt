use Rattle.std.proofs.Common.{◌≡◌, inl, inr, ℕ, ◌+◌, ◌<◌, ◌^◌, List, [], ◌∷◌, ◌++◌, length, refl, sym, ◌∙◌, ap, subst, arith}
use Rattle.std.specs.Prelude.{Some}
use Rattle.std.proofs.lemmas.Result.{IfOk-from_err}
use Rattle.hs_disk.specs.Disk.{calls_after, written}
use Rattle.redo_journal.specs.Bytes.{counted}
use Rattle.redo_journal.specs.Gates.{Throughout, TornFrom}
use Rattle.redo_journal.specs.Image.{Contents, added}
use Rattle.redo_journal.specs.Inside.{standing}
use Rattle.redo_journal.specs.Journal.{Standing, IsOf, InDoubt, StandsOn, records}
use Rattle.redo_journal.specs.declared.doubt.Doubt.{Doubt}
use Rattle.redo_journal.proofs.AppendLemmas.{Laid, counted_is, image_kept, gate_within, laid, laid_doubt, one_more, opens_up}
use Rattle.redo_journal.proofs.CommitLemmas.{commits, first_moments, second_moments, still_in_doubt, stands_quiet, quiet_stands, only_these}
use Rattle.redo_journal.proofs.DoubtLemmas.{doubt_moved}
use Rattle.redo_journal.proofs.Moments.{on_err, widened}
use Rattle.redo_journal.proofs.journal.Journal.add.Goals as goal

pub write_record-requires : goal.write_record-requires
write_record-requires g c = record {
  within = λ tells.
      let disk = g.D.Disk in
      let on = c.requires.stands tells in
      let gate : c.self.inside.gate ≡ c.args.self.now.gate = ap (λ s. s.gate) c.self.view_is in
      let was = quiet_stands on.text on.contents on.doubtful c.args.self.now (disk.seen c.args.disk.now) (disk.may_leave c.args.disk.now) c.requires.quiet on.stands in
      omega (arith, gate, gate_within on.text on.contents c.args.self.now (disk.seen c.args.disk.now) was.reads);
}

pub returns-in_err-write_record-clause-commits : goal.returns-in_err-write_record-clause-commits
returns-in_err-write_record-clause-commits g c tells text contents doubtful stands =
    let disk = g.D.Disk in
    let payload = c.args.payload.now in
    let journal : Standing = standing c.self.inside in
    let was = quiet_stands text contents doubtful journal (disk.seen c.args.disk.now) (disk.may_leave c.args.disk.now) (ap (λ s. s.doubt) c.self.view_is ∙ c.requires.quiet) (subst (λ (s : Standing). StandsOn text contents doubtful s (disk.seen c.args.disk.now) (disk.may_leave c.args.disk.now)) (sym c.self.view_is) stands) in
    let bytes = c.to_be_bytes-len.result ++ payload ++ 0 ∷ [] in
    let During : List ℕ → Type 0 = TornFrom (journal.gate + 1) (length bytes) (disk.may_leave c.args.disk.now) in
    let into : (image : List ℕ) → During image → IsOf text contents journal image = λ image from. image_kept (journal.gate + 1) (length bytes) from.earlier image from.torn text contents journal (omega arith) (was.leaves from.earlier from.was) in
    let wrote = c.write_record.ensures.syncs tells in
    let none = c.from_residual.ensures.0 in
    let now : Throughout (IsOf text contents c.args.self.now) (disk.seen c.write_record.new.disk) (disk.may_leave c.write_record.new.disk) = subst (λ (s : Standing). Throughout (IsOf text contents s) (disk.seen c.write_record.new.disk) (disk.may_leave c.write_record.new.disk)) c.self.view_is (widened During (IsOf text contents journal) (disk.seen c.write_record.new.disk) (disk.may_leave c.write_record.new.disk) into wrote.leaves) in
    commits disk.seen disk.may_leave disk.moment disk.left_at text contents doubtful (added contents payload) c.args.self.now c.args.self.now c.args.disk.now c.write_record.new.disk c.from_residual.result
    (first_moments disk.seen disk.may_leave disk.moment disk.left_at text contents doubtful (added contents payload) c.args.self.now journal c.args.disk.now c.write_record.new.disk During (written (journal.gate + 1) bytes (disk.seen c.args.disk.now)) c.write_record.result wrote into)
    (IfOk-from_err c.from_residual.result _ none)
    (IfOk-from_err c.from_residual.result _ none)
    (on_err c.from_residual.result (inl (stands_quiet text contents doubtful c.args.self.now (disk.seen c.write_record.new.disk) (disk.may_leave c.write_record.new.disk) c.requires.quiet now)))

pub set_byte-requires : goal.set_byte-requires
set_byte-requires g c = record {
  within = λ tells.
      let disk = g.D.Disk in
      let on = c.requires.stands tells in
      let gate : c.self.inside.gate ≡ c.args.self.now.gate = ap (λ s. s.gate) c.self.view_is in
      let was = quiet_stands on.text on.contents on.doubtful c.args.self.now (disk.seen c.args.disk.now) (disk.may_leave c.args.disk.now) c.requires.quiet on.stands in
      let bytes = c.to_be_bytes-len.result ++ c.args.payload.now ++ 0 ∷ [] in
      let wrote = c.write_record.ensures.syncs tells in
      let from = wrote.leaves.reads in
      let before = gate_within on.text on.contents c.args.self.now from.earlier (was.leaves from.earlier from.was) in
      omega (arith, gate, before, from.torn.no_shorter);
}

pub returns-in_err-set_byte-clause-commits : goal.returns-in_err-set_byte-clause-commits
returns-in_err-set_byte-clause-commits g c tells text contents doubtful stands =
    let disk = g.D.Disk in
    let payload = c.args.payload.now in
    let journal : Standing = standing c.self.inside in
    let next : Contents = added contents payload in
    let room : records journal + 1 < 2 ^ 64 = omega (arith, c.requires.counts, ap (λ s. s.first) c.self.view_is, ap (λ s. s.since) c.self.view_is) in
    let was = quiet_stands text contents doubtful journal (disk.seen c.args.disk.now) (disk.may_leave c.args.disk.now) (ap (λ s. s.doubt) c.self.view_is ∙ c.requires.quiet) (subst (λ (s : Standing). StandsOn text contents doubtful s (disk.seen c.args.disk.now) (disk.may_leave c.args.disk.now)) (sym c.self.view_is) stands) in
    let bytes = c.to_be_bytes-len.result ++ payload ++ 0 ∷ [] in
    let behind : bytes ≡ counted payload ++ 0 ∷ [] = ap (λ (l : List ℕ). l ++ 0 ∷ []) (counted_is c.to_be_bytes-len.result payload c.to_be_bytes-len.ensures) in
    let During : List ℕ → Type 0 = TornFrom (journal.gate + 1) (length bytes) (disk.may_leave c.args.disk.now) in
    let into : (image : List ℕ) → During image → IsOf text contents journal image = λ image from. image_kept (journal.gate + 1) (length bytes) from.earlier image from.torn text contents journal (omega arith) (was.leaves from.earlier from.was) in
    let wrote = c.in_ok-write_record.ensures.syncs tells in
    let mid : List ℕ = written (journal.gate + 1) bytes (disk.seen c.args.disk.now) in
    let doubt : Doubt = record { place = journal.gate; byte = 0 } in
    let doubted : Throughout (InDoubt text contents next journal doubt) (disk.seen c.write_record.new.disk) (disk.may_leave c.write_record.new.disk) = only_these (InDoubt text contents next journal doubt) mid (disk.seen c.write_record.new.disk) (disk.may_leave c.write_record.new.disk) (laid_doubt text contents payload journal mid (laid text contents payload bytes journal (disk.seen c.args.disk.now) behind was.reads) c.requires.fits c.requires.no_root room) wrote.ok in
    let set = c.in_err-set_byte.ensures.syncs tells in
    let none = c.from_residual-in_err-set_byte.ensures.0 in
    let late : List ℕ = written journal.gate (1 ∷ []) (disk.seen c.write_record.new.disk) in
    let left = still_in_doubt disk.seen disk.may_leave disk.moment disk.left_at text contents next journal doubt c.write_record.new.disk c.set_byte.new.disk late _ doubted set in
    let now : Standing = record journal { doubt = Some doubt } in
    commits disk.seen disk.may_leave disk.moment disk.left_at text contents doubtful next c.args.self.now now c.args.disk.now c.set_byte.new.disk c.from_residual-in_err-set_byte.result
    (second_moments disk.seen disk.may_leave disk.moment disk.left_at text contents doubtful next c.args.self.now journal doubt c.args.disk.now c.write_record.new.disk c.set_byte.new.disk late _
    (first_moments disk.seen disk.may_leave disk.moment disk.left_at text contents doubtful next c.args.self.now journal c.args.disk.now c.write_record.new.disk During mid _ wrote into)
    doubted set)
    (IfOk-from_err c.from_residual-in_err-set_byte.result _ none)
    (IfOk-from_err c.from_residual-in_err-set_byte.result _ none)
    (on_err c.from_residual-in_err-set_byte.result (inr (widened (InDoubt text contents next journal doubt) (InDoubt text contents next now doubt) (disk.seen c.set_byte.new.disk) (disk.may_leave c.set_byte.new.disk) (doubt_moved text contents next journal doubt (Some doubt)) left)))

pub returns-clause-commits : goal.returns-clause-commits
returns-clause-commits g c tells text contents doubtful stands =
    let disk = g.D.Disk in
    let payload = c.args.payload.now in
    let journal : Standing = standing c.self.inside in
    let next : Contents = added contents payload in
    let room : records journal + 1 < 2 ^ 64 = omega (arith, c.requires.counts, ap (λ s. s.first) c.self.view_is, ap (λ s. s.since) c.self.view_is) in
    let was = quiet_stands text contents doubtful journal (disk.seen c.args.disk.now) (disk.may_leave c.args.disk.now) (ap (λ s. s.doubt) c.self.view_is ∙ c.requires.quiet) (subst (λ (s : Standing). StandsOn text contents doubtful s (disk.seen c.args.disk.now) (disk.may_leave c.args.disk.now)) (sym c.self.view_is) stands) in
    let bytes = c.to_be_bytes-len.result ++ payload ++ 0 ∷ [] in
    let behind : bytes ≡ counted payload ++ 0 ∷ [] = ap (λ (l : List ℕ). l ++ 0 ∷ []) (counted_is c.to_be_bytes-len.result payload c.to_be_bytes-len.ensures) in
    let During : List ℕ → Type 0 = TornFrom (journal.gate + 1) (length bytes) (disk.may_leave c.args.disk.now) in
    let into : (image : List ℕ) → During image → IsOf text contents journal image = λ image from. image_kept (journal.gate + 1) (length bytes) from.earlier image from.torn text contents journal (omega arith) (was.leaves from.earlier from.was) in
    let wrote = c.in_ok-write_record.ensures.syncs tells in
    let mid : List ℕ = written (journal.gate + 1) bytes (disk.seen c.args.disk.now) in
    let doubt : Doubt = record { place = journal.gate; byte = 0 } in
    let whole : Throughout (Laid text contents payload journal) (disk.seen c.write_record.new.disk) (disk.may_leave c.write_record.new.disk) = only_these (Laid text contents payload journal) mid (disk.seen c.write_record.new.disk) (disk.may_leave c.write_record.new.disk) (laid text contents payload bytes journal (disk.seen c.args.disk.now) behind was.reads) wrote.ok in
    let doubted : Throughout (InDoubt text contents next journal doubt) (disk.seen c.write_record.new.disk) (disk.may_leave c.write_record.new.disk) = widened (Laid text contents payload journal) (InDoubt text contents next journal doubt) (disk.seen c.write_record.new.disk) (disk.may_leave c.write_record.new.disk) (λ image is. laid_doubt text contents payload journal image is c.requires.fits c.requires.no_root room) whole in
    let set = c.in_ok-set_byte.ensures.syncs tells in
    let late : List ℕ = written journal.gate (1 ∷ []) (disk.seen c.write_record.new.disk) in
    let now : Standing = one_more journal payload in
    commits disk.seen disk.may_leave disk.moment disk.left_at text contents doubtful next c.args.self.now now c.args.disk.now c.set_byte.new.disk _
    (second_moments disk.seen disk.may_leave disk.moment disk.left_at text contents doubtful next c.args.self.now journal doubt c.args.disk.now c.write_record.new.disk c.set_byte.new.disk late _
    (first_moments disk.seen disk.may_leave disk.moment disk.left_at text contents doubtful next c.args.self.now journal c.args.disk.now c.write_record.new.disk During mid _ wrote into)
    doubted set)
    (only_these (IsOf text next now) late (disk.seen c.set_byte.new.disk) (disk.may_leave c.set_byte.new.disk) (opens_up text contents payload journal (disk.seen c.write_record.new.disk) whole.reads 1 refl c.requires.fits c.requires.no_root room) set.ok)
    refl
    tt

pub returns-clause-calls : goal.returns-clause-calls
returns-clause-calls g c tells = c.in_ok-set_byte.ensures.calls tells ∙ ap (calls_after 2) (c.in_ok-write_record.ensures.calls tells)
