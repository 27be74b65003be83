use Rattle.change_set.proofs.NetApplies.{net_applies}
use Rattle.change_set.proofs.laws.net_changes_apply.Goals as goal

pub returns : goal.returns
returns c = net_applies
