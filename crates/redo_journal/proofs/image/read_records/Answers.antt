use Rattle.std.proofs.Common.{refl, sym, subst}
use Rattle.redo_journal.specs.Reading.{StandFrom, ReadsRecord}
use Rattle.redo_journal.proofs.RecordLemmas.{stand_more}
use Rattle.redo_journal.proofs.image.read_records.Goals as goal

pub loop-gate-preserved : goal.loop-gate-preserved
loop-gate-preserved c =
    let image = c.args.image.now in
    let gate = c.loop-gate.gate in
    let next = c.in_ok-payload.next in
    let payload = c.in_ok-payload-2.payload in
    let read = subst (λ bytes. ReadsRecord image gate bytes next) (sym c.in_ok-payload-2.ensures) c.in_ok-payload.ensures.ok in
    subst (λ records. StandFrom image c.args.first records next) (sym c.in_ok-push.ensures.items) (stand_more image c.args.first gate next c.loop-gate.records.items (record { place = gate; payload = payload }) c.loop-gate.invariant refl read)
