use Rattle.table_recovery.proofs.PayloadLaws.{is_segment}
use Rattle.table_recovery.proofs.ShownLaws.{area_shows}
use Rattle.table_recovery.proofs.laws.segments_are_shown.Goals as goal

pub returns-clause-shows : goal.returns-clause-shows
returns-clause-shows c = area_shows

pub returns-clause-segment : goal.returns-clause-segment
returns-clause-segment c = is_segment
