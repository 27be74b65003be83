use Rattle.std.proofs.Common.{◌≡◌, ◌++◌, ◌∷◌, [], ◌∙◌, ap}
use Rattle.line_pipeline.proofs.TakenLines.{lines-on, behind-on}
use Rattle.line_pipeline.proofs.taking.take_lines.Goals as goal

pub loop-preserved : goal.loop-preserved
loop-preserved c =
    let taken = rw c.in-Some.is at c.in_ok-line.ensures in
    let i = c.loop.invariant in
    let lines = c.loop.lines.items in
    let items : c.push_reserved.new.self.items ≡ lines ++ c.in-Some.line ∷ [] =
    c.push_reserved.ensures.items ∙ ap (λ (t : _). t ++ c.in-Some.line ∷ []) c.in_ok-reserve.ensures.items in
    rw items (
      lines-on lines _ c.in-Some.line c.loop.held c.take_whole.new.held c.args.most c.loop.counter c.loop-test.true i.0 taken.first,
      behind-on lines c.in-Some.line c.args.held.now c.loop.held c.take_whole.new.held i.1 taken.line,
    )
