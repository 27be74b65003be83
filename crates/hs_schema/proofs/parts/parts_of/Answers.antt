use Rattle.std.proofs.Common.{◌∙◌, arith}
use Rattle.hs_schema.proofs.Names.{comma_step, other_step}
use Rattle.hs_schema.proofs.parts.parts_of.Goals as goal
use Rattle.hs_schema.proofs.parts.parts_of.Goals.{then-byte-eq44+in_ok-push, else-byte-eq44}

pub loop-end-preserved : goal.loop-end-preserved
loop-end-preserved c =
    let columns = c.args.columns.now in
    let text = c.args.text.now in
    let parts = c.loop-end.parts.items in
    let start = c.loop-end.start in
    let end = c.loop-end.end in
    elim c.if-byte-eq44.branch [
      | then-byte-eq44+in_ok-push w ↦
          let e = comma_step columns text parts w.push.new.self.items start end w.place_of.result c.loop-end-test.true w.if-byte-eq44.true w.place_of.ensures w.in_ok-push.ensures.items in
          record { order = omega arith; read = rw (w.parts-is, w.start-is) (e ∙ c.loop-end.invariant.read) }
      | else-byte-eq44 w ↦
          let e = other_step columns text parts start end c.loop-end.invariant.order c.loop-end-test.true w.if-byte-eq44.false in
          record { order = omega arith; read = rw (w.parts-is, w.start-is) (e ∙ c.loop-end.invariant.read) }
    ]
