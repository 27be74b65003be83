use Rattle.std.proofs.Common.{◌++◌, []}
use Rattle.batch_worker.specs.Steps.{with}
use Rattle.batch_worker.proofs.Lookups.{keeps-none, keeps-then}
use Rattle.batch_worker.proofs.Sent.{sent-none, sent-two, sent-less}
use Rattle.batch_worker.proofs.sending.send.Goals as goal

pub loop-id-init : goal.loop-id-init
loop-id-init g c = record {
  keeps = keeps-none c.args.id c.args.table.now;
  is_sent = ([], sent-none (with g.L.Link.peer c.args.table.now c.args.id c.args.link.now));
}

pub send_once-requires : goal.send_once-requires
send_once-requires g c = record { held = c.loop-id.invariant.keeps.held c.requires.held }

pub loop-id-preserved : goal.loop-id-preserved
loop-id-preserved g c =
    let i = c.loop-id.invariant in
    let step = c.if-not-send_once.ensures.step in
    record {
      keeps = keeps-then c.args.id _ _ _ i.keeps c.send_once.ensures.keeps;
      is_sent = (i.is_sent.0 ++ step.0, sent-two _ _ _ i.is_sent.0 step.0 i.is_sent.1 step.2);
    }

pub loop-id-smaller : goal.loop-id-smaller
loop-id-smaller g c =
    let step = c.if-not-send_once.ensures.step in
    sent-less _ _ step.0 step.1 step.2
