use Rattle.std.proofs.Common.{sym, ◌∙◌}
use Rattle.hs_line.proofs.WholeLines.{whole-stops}
use Rattle.line_pipeline.proofs.TakenLines.{whole-taken}
use Rattle.line_pipeline.proofs.taking.take_whole.Goals as goal

pub returns-then-ends_here-clause-none : goal.returns-then-ends_here-clause-none
returns-then-ends_here-clause-none c = whole-stops 65536 c.args.held.now (sym c.is_too_long-ends_here.ensures ∙ c.if-ends_here.true)

pub returns-clause-first : goal.returns-clause-first
returns-clause-first c =
    let taken = rw c.in-Some.is at c.in_ok-line.ensures in
    whole-taken c.args.held.now c.in-Some.line c.take_line.new.self taken.line taken.first (sym c.is_too_long-ends_here.ensures ∙ c.if-ends_here.false)
