use Rattle.std.proofs.Common.{◌++◌, take, ◌∙◌}
use Rattle.hs_outside.proofs.Known.{grew_two, rest_on}
use Rattle.hs_outside.proofs.writing.write_each.Goals as goal

pub loop-rest-preserved : goal.loop-rest-preserved
loop-rest-preserved g c =
    let i = c.loop-rest.invariant in
    let rest = c.loop-rest.rest.now in (
      i.0 ++ take c.in-Took.count rest,
      rest_on c.args.bytes.now i.0 rest c.in-Took.count i.1,
      grew_two (g.K.Sink.taker c.args.sink.now) (g.K.Sink.taker c.loop-rest.sink) (g.K.Sink.taker c.write.new.self) i.0 (take c.in-Took.count rest) i.2 c.in-Took.ensures.takes.2,
      c.in-Took.ensures.takes.3 ∙ i.3,
    )
