use Rattle.change_set.proofs.NoNet.{net_of_itself, same_when_none}
use Rattle.change_set.proofs.laws.no_net_change_where_nothing_changed.Goals as goal

pub returns-clause-none : goal.returns-clause-none
returns-clause-none c = net_of_itself

pub returns-clause-same : goal.returns-clause-same
returns-clause-same c = same_when_none
