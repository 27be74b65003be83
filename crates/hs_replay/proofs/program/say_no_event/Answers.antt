use Rattle.std.proofs.Common.{decimal, ◌++◌}
use Rattle.std.specs.Prelude.{codes}
use Rattle.hs_outside.proofs.Known.{sent_two, part_more}
use Rattle.hs_replay.proofs.program.say_no_event.Goals as goal

pub returns-in-Ok-clause-sends : goal.returns-in-Ok-clause-sends
returns-in-Ok-clause-sends g c =
    sent_two c.write_all.result (g.E.Sink.taker c.args.err.now) (g.E.Sink.taker c.write_number.new.err) (g.E.Sink.taker c.write_all.new.sink)
    (codes "script line " ++ decimal c.args.number) (codes "\n") c.in-Ok.ensures.sends.0 c.in-Ok.ensures.sends.1 c.write_all.ensures.sends

pub returns-in-Err-clause-sends : goal.returns-in-Err-clause-sends
returns-in-Err-clause-sends g c =
    (part_more (g.E.Sink.taker c.args.err.now) (g.E.Sink.taker c.write_number.new.err) (codes "script line " ++ decimal c.args.number) (codes "\n") c.in-Err.ensures.sends.0, c.in-Err.ensures.sends.1)
