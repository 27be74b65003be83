use Rattle.std.proofs.Common.{subst, sym}
use Rattle.hs_outside.specs.Streams.{SendDoes}
use Rattle.hs_replay.specs.declared.ends.Flaw.{Flaw}
use Rattle.hs_replay.specs.Ends.{flaw_line}
use Rattle.hs_replay.proofs.program.say_flaw.Goals as goal

pub returns-in-NoEvent-clause-said : goal.returns-in-NoEvent-clause-said
returns-in-NoEvent-clause-said g c = (
  c.say_no_event.result,
  subst (λ (flaw : Flaw). SendDoes c.say_no_event.result (g.E.Sink.taker c.args.err.now) (g.E.Sink.taker c.say_no_event.new.err) (flaw_line c.args.line.number flaw))
      (sym c.in-NoEvent.is) c.say_no_event.ensures.sends,
)

pub returns-in-BadTable-clause-said : goal.returns-in-BadTable-clause-said
returns-in-BadTable-clause-said g c = (
  c.say_bad_table.result,
  subst (λ (flaw : Flaw). SendDoes c.say_bad_table.result (g.E.Sink.taker c.args.err.now) (g.E.Sink.taker c.say_bad_table.new.err) (flaw_line c.args.line.number flaw))
      (sym c.in-BadTable.is) c.say_bad_table.ensures.sends,
)
