use Rattle.table_recovery.proofs.ShownLaws.{shows_one, image_one}
use Rattle.table_recovery.proofs.laws.an_image_shows_one_thing.Goals as goal

pub returns-clause-contents : goal.returns-clause-contents
returns-clause-contents c = shows_one

pub returns-clause-image : goal.returns-clause-image
returns-clause-image c = image_one
