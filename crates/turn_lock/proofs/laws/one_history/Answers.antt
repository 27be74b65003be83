use Rattle.turn_lock.proofs.Agreement.{views_agree, joined_agree}
use Rattle.turn_lock.proofs.laws.one_history.Goals as goal

pub returns-clause-between_steps : goal.returns-clause-between_steps
returns-clause-between_steps g c = views_agree g.B.Keeps.stands g.B.Keeps.maker g.B.Keeps.place g.B.Keeps.faults

pub returns-clause-joined : goal.returns-clause-joined
returns-clause-joined g c = joined_agree g.B.Keeps.maker
