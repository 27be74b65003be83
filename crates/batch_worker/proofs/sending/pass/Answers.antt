use Rattle.std.proofs.Common.{ap}
use Rattle.line_pipeline.specs.declared.conns.Conn.{Conn}
use Rattle.line_pipeline.specs.Conn.{finished}
use Rattle.hs_outside.specs.Links.{Peer}
use Rattle.batch_worker.specs.Linked.{Linked}
use Rattle.batch_worker.specs.Steps.{with}
use Rattle.batch_worker.proofs.Lookups.{keeps-changed, keeps-then, conn_of-own, one_changed}
use Rattle.batch_worker.proofs.sending.pass.Goals as goal

abbrev beside : Peer → Conn → Linked
beside peer conn = record { conn = conn; peer = peer }

pub returns-clause-keeps : goal.returns-clause-keeps
returns-clause-keeps g c =
    let id = c.args.id in
    let t = c.send.new.table in
    let finish = one_changed finished id t c.finish.new.self c.finish.ensures in
    keeps-then id c.args.table.now t c.finish.new.self c.send.ensures.keeps (keeps-changed finished id t c.finish.new.self finish)

pub returns-clause-passes : goal.returns-clause-passes
returns-clause-passes g c =
    let id = c.args.id in
    let t = c.send.new.table in
    let peer = g.L.Link.peer in
    let finish = one_changed finished id t c.finish.new.self c.finish.ensures in
    record {
      after = with peer t id c.send.new.link;
      sends = c.send.ensures.sends;
      is = ap (beside (peer c.send.new.link)) (conn_of-own finished id t c.finish.new.self finish (c.send.ensures.keeps.held c.requires.held));
    }
