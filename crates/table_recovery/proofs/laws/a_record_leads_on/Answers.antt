use Rattle.table_recovery.proofs.ShownLaws.{shows_added}
use Rattle.table_recovery.proofs.laws.a_record_leads_on.Goals as goal

pub returns : goal.returns
returns c = shows_added
