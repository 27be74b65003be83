use Rattle.change_set.proofs.Nets.{put_of_changes}
use Rattle.change_set.proofs.laws.net_changes_lead_on.Goals as goal

pub returns : goal.returns
returns c = put_of_changes
