use Rattle.hs_outside.proofs.Known.{sent_two, part_more}
use Rattle.hs_replay.proofs.program.write_two.Goals as goal

pub returns-in-Ok-clause-sends : goal.returns-in-Ok-clause-sends
returns-in-Ok-clause-sends g c =
    sent_two c.write_all-in-Ok.result (g.E.Sink.taker c.args.err.now) (g.E.Sink.taker c.write_all.new.sink) (g.E.Sink.taker c.write_all-in-Ok.new.sink)
    c.args.first.now c.args.second.now c.in-Ok.ensures.sends.0 c.in-Ok.ensures.sends.1 c.write_all-in-Ok.ensures.sends

pub returns-in-Err-clause-sends : goal.returns-in-Err-clause-sends
returns-in-Err-clause-sends g c =
    (part_more (g.E.Sink.taker c.args.err.now) (g.E.Sink.taker c.write_all.new.sink) c.args.first.now c.args.second.now c.in-Err.ensures.sends.0, c.in-Err.ensures.sends.1)
