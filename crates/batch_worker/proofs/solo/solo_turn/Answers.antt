use Rattle.batch_worker.proofs.WholeTurn.{can_settle}
use Rattle.batch_worker.proofs.solo.solo_turn.Goals as goal

pub end_turn-requires-clause-settles : goal.end_turn-requires-clause-settles
end_turn-requires-clause-settles g c =
    let x = c.in-Ok.ensures.gathers in
    can_settle x.heard.table c.begin_turn.new.self.table.conns c.args.ready.now c.in-Ok.batch c.requires.once x.batch_is c.in-Ok.ensures.places
    c.run_batch-outcome.result _ _ c.run_batch-outcome.ensures.comes
