use Rattle.std.proofs.Common.{◌≡◌, ◌∷◌, [], ◌++◌, ◌+◌, length, List, ℕ, arith, ap, ◌∙◌}
use Rattle.std.specs.Prelude.{None}
use Rattle.hs_disk.specs.Disk.{calls_after, written}
use Rattle.redo_journal.specs.Bytes.{StandsAt, heading}
use Rattle.redo_journal.specs.Image.{IsFresh, IsImageAt, StandsFor, nothing}
use Rattle.redo_journal.specs.Gates.{Throughout, TornFrom}
use Rattle.redo_journal.proofs.CommitLemmas.{only_these}
use Rattle.redo_journal.proofs.MakeLemmas.{length-front-nil, heading_is, fresh_stands, behind_fresh, header_written, gate_stands_for, gate_written, made_bytes}
use Rattle.redo_journal.proofs.Moments.{joined, wider}
use Rattle.redo_journal.proofs.make.make.Goals as goal

pub returns-in_err-empty-clause-moments : goal.returns-in_err-empty-clause-moments
returns-in_err-empty-clause-moments g c tells =
    let disk = g.D.Disk in
    let text = c.args.text.now in
    let Shows : List ℕ → Type 0 = StandsFor text nothing in
    let emptied = c.empty.ensures.passes tells (c.requires.fresh tells) in
    wider disk.moment disk.left_at c.args.disk.now c.empty.new.disk IsFresh Shows (fresh_stands text) emptied.moments

pub returns-in_err-blank-clause-moments : goal.returns-in_err-blank-clause-moments
returns-in_err-blank-clause-moments g c tells =
    let disk = g.D.Disk in
    let text = c.args.text.now in
    let Shows : List ℕ → Type 0 = StandsFor text nothing in
    let emptied = c.in_ok-empty.ensures.passes tells (c.requires.fresh tells) in
    let run = wider disk.moment disk.left_at c.args.disk.now c.empty.new.disk IsFresh Shows (fresh_stands text) emptied.moments in
    let blanked = c.blank.ensures.passes tells emptied.ok in
    joined disk.moment disk.left_at c.args.disk.now c.empty.new.disk c.blank.new.disk Shows run (wider disk.moment disk.left_at c.empty.new.disk c.blank.new.disk IsFresh Shows (fresh_stands text) blanked.moments)

pub write_record-requires : goal.write_record-requires
write_record-requires g c = record {
  within = λ tells.
      let emptied = c.in_ok-empty.ensures.passes tells (c.requires.fresh tells) in
      let blanked = c.in_ok-blank.ensures.passes tells emptied.ok in
      omega (arith, ap length blanked.ok.reads);
}

pub returns-in_err-write_record-clause-moments : goal.returns-in_err-write_record-clause-moments
returns-in_err-write_record-clause-moments g c tells =
    let disk = g.D.Disk in
    let text = c.args.text.now in
    let Shows : List ℕ → Type 0 = StandsFor text nothing in
    let emptied = c.in_ok-empty.ensures.passes tells (c.requires.fresh tells) in
    let run = wider disk.moment disk.left_at c.args.disk.now c.empty.new.disk IsFresh Shows (fresh_stands text) emptied.moments in
    let blanked = c.in_ok-blank.ensures.passes tells emptied.ok in
    let run = joined disk.moment disk.left_at c.args.disk.now c.empty.new.disk c.blank.new.disk Shows run (wider disk.moment disk.left_at c.empty.new.disk c.blank.new.disk IsFresh Shows (fresh_stands text) blanked.moments) in
    let n = length (c.marked-head.result ++ text ++ 0 ∷ []) in
    let old = disk.may_leave c.blank.new.disk in
    joined disk.moment disk.left_at c.args.disk.now c.blank.new.disk c.write_record.new.disk Shows run (wider disk.moment disk.left_at c.blank.new.disk c.write_record.new.disk (TornFrom 1 n old) Shows (λ image is. fresh_stands text image (behind_fresh n old image blanked.ok.leaves is)) (c.write_record.ensures.syncs tells).moments)

pub returns-in_err-set_byte-clause-moments : goal.returns-in_err-set_byte-clause-moments
returns-in_err-set_byte-clause-moments g c tells =
    let disk = g.D.Disk in
    let text = c.args.text.now in
    let Shows : List ℕ → Type 0 = StandsFor text nothing in
    let emptied = c.in_ok-empty.ensures.passes tells (c.requires.fresh tells) in
    let run = wider disk.moment disk.left_at c.args.disk.now c.empty.new.disk IsFresh Shows (fresh_stands text) emptied.moments in
    let blanked = c.in_ok-blank.ensures.passes tells emptied.ok in
    let run = joined disk.moment disk.left_at c.args.disk.now c.empty.new.disk c.blank.new.disk Shows run (wider disk.moment disk.left_at c.empty.new.disk c.blank.new.disk IsFresh Shows (fresh_stands text) blanked.moments) in
    let bytes = c.marked-head.result ++ text ++ 0 ∷ [] in
    let old = disk.may_leave c.blank.new.disk in
    let wrote = c.in_ok-write_record.ensures.syncs tells in
    let run = joined disk.moment disk.left_at c.args.disk.now c.blank.new.disk c.write_record.new.disk Shows run (wider disk.moment disk.left_at c.blank.new.disk c.write_record.new.disk (TornFrom 1 (length bytes) old) Shows (λ image is. fresh_stands text image (behind_fresh (length bytes) old image blanked.ok.leaves is)) wrote.moments) in
    let contents : bytes ≡ heading text ++ 0 ∷ [] = ap (λ (l : List ℕ). l ++ 0 ∷ []) (heading_is c.marked-head.result text c.marked-head.ensures) in
    let header : Throughout (StandsAt 1 (heading text ++ 0 ∷ [])) (disk.seen c.write_record.new.disk) (disk.may_leave c.write_record.new.disk) = only_these (StandsAt 1 (heading text ++ 0 ∷ [])) (written 1 bytes (disk.seen c.blank.new.disk)) (disk.seen c.write_record.new.disk) (disk.may_leave c.write_record.new.disk) (header_written text bytes (disk.seen c.blank.new.disk) contents blanked.ok.reads) wrote.ok in
    joined disk.moment disk.left_at c.args.disk.now c.write_record.new.disk c.set_byte.new.disk Shows run (wider disk.moment disk.left_at c.write_record.new.disk c.set_byte.new.disk (TornFrom 0 1 (disk.may_leave c.write_record.new.disk)) Shows (λ image is. gate_stands_for text (disk.may_leave c.write_record.new.disk) image c.requires.fits header.leaves is) (c.set_byte.ensures.syncs tells).moments)

pub returns-clause-moments : goal.returns-clause-moments
returns-clause-moments g c tells =
    let disk = g.D.Disk in
    let text = c.args.text.now in
    let Shows : List ℕ → Type 0 = StandsFor text nothing in
    let emptied = c.in_ok-empty.ensures.passes tells (c.requires.fresh tells) in
    let run = wider disk.moment disk.left_at c.args.disk.now c.empty.new.disk IsFresh Shows (fresh_stands text) emptied.moments in
    let blanked = c.in_ok-blank.ensures.passes tells emptied.ok in
    let run = joined disk.moment disk.left_at c.args.disk.now c.empty.new.disk c.blank.new.disk Shows run (wider disk.moment disk.left_at c.empty.new.disk c.blank.new.disk IsFresh Shows (fresh_stands text) blanked.moments) in
    let bytes = c.marked-head.result ++ text ++ 0 ∷ [] in
    let old = disk.may_leave c.blank.new.disk in
    let wrote = c.in_ok-write_record.ensures.syncs tells in
    let run = joined disk.moment disk.left_at c.args.disk.now c.blank.new.disk c.write_record.new.disk Shows run (wider disk.moment disk.left_at c.blank.new.disk c.write_record.new.disk (TornFrom 1 (length bytes) old) Shows (λ image is. fresh_stands text image (behind_fresh (length bytes) old image blanked.ok.leaves is)) wrote.moments) in
    let contents : bytes ≡ heading text ++ 0 ∷ [] = ap (λ (l : List ℕ). l ++ 0 ∷ []) (heading_is c.marked-head.result text c.marked-head.ensures) in
    let header : Throughout (StandsAt 1 (heading text ++ 0 ∷ [])) (disk.seen c.write_record.new.disk) (disk.may_leave c.write_record.new.disk) = only_these (StandsAt 1 (heading text ++ 0 ∷ [])) (written 1 bytes (disk.seen c.blank.new.disk)) (disk.seen c.write_record.new.disk) (disk.may_leave c.write_record.new.disk) (header_written text bytes (disk.seen c.blank.new.disk) contents blanked.ok.reads) wrote.ok in
    joined disk.moment disk.left_at c.args.disk.now c.write_record.new.disk c.set_byte.new.disk Shows run (wider disk.moment disk.left_at c.write_record.new.disk c.set_byte.new.disk (TornFrom 0 1 (disk.may_leave c.write_record.new.disk)) Shows (λ image is. gate_stands_for text (disk.may_leave c.write_record.new.disk) image c.requires.fits header.leaves is) (c.in_ok-set_byte.ensures.syncs tells).moments)

pub returns-clause-ok : goal.returns-clause-ok
returns-clause-ok g c tells =
    let disk = g.D.Disk in
    let text = c.args.text.now in
    let emptied = c.in_ok-empty.ensures.passes tells (c.requires.fresh tells) in
    let blanked = c.in_ok-blank.ensures.passes tells emptied.ok in
    let bytes = c.marked-head.result ++ text ++ 0 ∷ [] in
    let wrote = c.in_ok-write_record.ensures.syncs tells in
    let contents : bytes ≡ heading text ++ 0 ∷ [] = ap (λ (l : List ℕ). l ++ 0 ∷ []) (heading_is c.marked-head.result text c.marked-head.ensures) in
    let header : Throughout (StandsAt 1 (heading text ++ 0 ∷ [])) (disk.seen c.write_record.new.disk) (disk.may_leave c.write_record.new.disk) = only_these (StandsAt 1 (heading text ++ 0 ∷ [])) (written 1 bytes (disk.seen c.blank.new.disk)) (disk.seen c.write_record.new.disk) (disk.may_leave c.write_record.new.disk) (header_written text bytes (disk.seen c.blank.new.disk) contents blanked.ok.reads) wrote.ok in
    only_these (IsImageAt text nothing None (13 + length text)) (written 0 (1 ∷ []) (disk.seen c.write_record.new.disk)) (disk.seen c.set_byte.new.disk) (disk.may_leave c.set_byte.new.disk) (gate_written text (disk.seen c.write_record.new.disk) c.requires.fits header.reads) (c.in_ok-set_byte.ensures.syncs tells).ok

pub returns-clause-bytes : goal.returns-clause-bytes
returns-clause-bytes g c tells =
    let disk = g.D.Disk in
    let text = c.args.text.now in
    let emptied = c.in_ok-empty.ensures.passes tells (c.requires.fresh tells) in
    let blanked = c.in_ok-blank.ensures.passes tells emptied.ok in
    made_bytes text c.marked-head.result (disk.seen c.blank.new.disk) (disk.seen c.write_record.new.disk) (disk.seen c.set_byte.new.disk) (heading_is c.marked-head.result text c.marked-head.ensures) blanked.ok.reads (c.in_ok-write_record.ensures.syncs tells).ok.reads (c.in_ok-set_byte.ensures.syncs tells).ok.reads

pub returns-clause-place : goal.returns-clause-place
returns-clause-place g c = (omega (arith, length-front-nil c.args.text.now), omega (arith, c.requires.fits))

pub returns-clause-calls : goal.returns-clause-calls
returns-clause-calls g c tells =
    c.in_ok-set_byte.ensures.calls tells
    ∙ ap (calls_after 2) (c.in_ok-write_record.ensures.calls tells ∙ ap (calls_after 2) (c.in_ok-blank.ensures.calls tells ∙ ap (calls_after 2) (c.in_ok-empty.ensures.calls tells)))
