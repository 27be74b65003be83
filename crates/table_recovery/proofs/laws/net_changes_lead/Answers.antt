use Rattle.change_set.proofs.ShortPayload.{payload_short}
use Rattle.table_recovery.proofs.PayloadLaws.{net_leads, no_root}
use Rattle.table_recovery.proofs.laws.net_changes_lead.Goals as goal

pub returns-clause-leads : goal.returns-clause-leads
returns-clause-leads c = net_leads

pub returns-clause-short : goal.returns-clause-short
returns-clause-short c = payload_short

pub returns-clause-no_root : goal.returns-clause-no_root
returns-clause-no_root c = no_root
