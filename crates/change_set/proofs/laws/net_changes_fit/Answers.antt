use Rattle.change_set.proofs.NetFits.{net_fits}
use Rattle.change_set.proofs.laws.net_changes_fit.Goals as goal

pub returns : goal.returns
returns c = net_fits
