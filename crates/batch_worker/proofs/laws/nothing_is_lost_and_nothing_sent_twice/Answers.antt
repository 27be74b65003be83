use Rattle.batch_worker.proofs.Served.{owed-turn, owed-turns}
use Rattle.batch_worker.proofs.laws.nothing_is_lost_and_nothing_sent_twice.Goals as goal

pub returns-clause-in_a_turn : goal.returns-clause-in_a_turn
returns-clause-in_a_turn c = owed-turn

pub returns-clause-over_turns : goal.returns-clause-over_turns
returns-clause-over_turns c = owed-turns
