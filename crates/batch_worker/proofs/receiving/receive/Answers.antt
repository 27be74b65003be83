use Rattle.std.proofs.Common.{◌++◌, []}
use Rattle.batch_worker.specs.Steps.{with}
use Rattle.batch_worker.proofs.Lookups.{keeps-none, keeps-then}
use Rattle.batch_worker.proofs.Hearing.{hears-none, hears-two, hears-less}
use Rattle.batch_worker.proofs.receiving.receive.Goals as goal

pub loop-id-init : goal.loop-id-init
loop-id-init g c = record {
  keeps = keeps-none c.args.id c.args.table.now;
  hears = ([], hears-none (with g.L.Link.peer c.args.table.now c.args.id c.args.link.now));
}

pub pull-requires-clause-held : goal.pull-requires-clause-held
pull-requires-clause-held g c = c.loop-id.invariant.keeps.held c.requires.held

pub loop-id-preserved : goal.loop-id-preserved
loop-id-preserved g c =
    let i = c.loop-id.invariant in
    let step = c.if-not-pull.ensures.step in
    record {
      keeps = keeps-then c.args.id _ _ _ i.keeps c.pull.ensures.keeps;
      hears = (i.hears.0 ++ step.0, hears-two _ _ _ i.hears.0 step.0 i.hears.1 step.2);
    }

pub loop-id-smaller : goal.loop-id-smaller
loop-id-smaller g c =
    let step = c.if-not-pull.ensures.step in
    hears-less _ _ step.0 step.1 step.2
