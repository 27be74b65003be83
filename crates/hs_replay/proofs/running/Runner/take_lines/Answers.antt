use Rattle.std.proofs.Common.{[], arith}
use Rattle.hs_replay.specs.declared.ends.Step.TheVariants.{Done}
use Rattle.hs_replay.proofs.LineSteps.{steps_two, leads_none}
use Rattle.hs_replay.proofs.running.Runner.take_lines.Goals as goal

pub loop-alloc-init : goal.loop-alloc-init
loop-alloc-init g c = leads_none c.args.self.now (g.K.Sink.taker c.args.out.now)

pub loop-alloc-preserved : goal.loop-alloc-preserved
loop-alloc-preserved g c =
    steps_two Done c.args.self.now c.loop-alloc.self c.take_line.new.self (g.K.Sink.taker c.args.out.now) (g.K.Sink.taker c.loop-alloc.out) (g.K.Sink.taker c.take_line.new.out) [] []
    c.loop-alloc.invariant c.in-Done.ensures.does

pub returns-in_default : goal.returns-in_default
returns-in_default g c = record {
  does = steps_two c.take_line.result c.args.self.now c.loop-alloc.self c.take_line.new.self (g.K.Sink.taker c.args.out.now) (g.K.Sink.taker c.loop-alloc.out) (g.K.Sink.taker c.take_line.new.out) [] []
      c.loop-alloc.invariant c.take_line.ensures.does;
  drained = λ done. absurd (c.in_default.not-Done done);
  later = (let same = c.loop-alloc.invariant.unfailed in omega (arith, c.take_line.ensures.later));
}
