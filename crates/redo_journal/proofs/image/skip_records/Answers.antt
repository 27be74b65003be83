use Rattle.std.proofs.Common.{ℕ, subst}
use Rattle.std.specs.Prelude.{Option, MatchOption}
use Rattle.redo_journal.specs.Reading.{EndsAt, SkipsRecord}
use Rattle.redo_journal.proofs.RecordLemmas.{skips_more}
use Rattle.redo_journal.proofs.image.skip_records.Goals as goal

pub loop-next-preserved : goal.loop-next-preserved
loop-next-preserved c =
    let image = c.args.image.now in
    let gate = c.loop-next.gate in
    let one = subst (λ (next : Option ℕ). MatchOption next (EndsAt gate image) (SkipsRecord image gate)) c.in-Some.is c.in_ok-next.ensures.ok in
    skips_more image c.args.first gate c.in-Some.next c.loop-next.invariant one
