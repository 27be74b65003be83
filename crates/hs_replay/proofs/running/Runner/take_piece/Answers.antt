use Rattle.hs_replay.proofs.Rests.{piece_done}
use Rattle.hs_replay.proofs.running.Runner.take_piece.Goals as goal

pub returns-in-Done-clause-does : goal.returns-in-Done-clause-does
returns-in-Done-clause-does g c =
    piece_done c.check_rest.result _ c.args.self.now c.take_lines.new.self c.push.new.self c.args.piece.now (g.K.Sink.taker c.args.out.now) (g.K.Sink.taker c.take_lines.new.out)
    c.self.view_is c.push.ensures c.in-Done.ensures.does (c.take_lines.ensures.drained c.in-Done.is) c.check_rest.ensures
