use Rattle.replay_turns.proofs.Owed.{one-for-each, owed-turned}
use Rattle.replay_turns.proofs.Listed.{answered-own}
use Rattle.replay_turns.proofs.laws.each_line_is_answered_once.Goals as goal

pub returns-clause-one_for_each : goal.returns-clause-one_for_each
returns-clause-one_for_each c = one-for-each

pub returns-clause-behind : goal.returns-clause-behind
returns-clause-behind c = owed-turned

pub returns-clause-listed : goal.returns-clause-listed
returns-clause-listed c schema numbers db ls number l = answered-own number schema numbers db ls l
