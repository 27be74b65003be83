use Rattle.check_point.proofs.MadeOfEmpty.{makes_one, makes_valid, written_makes}
use Rattle.check_point.proofs.laws.an_area_makes_one_database.Goals as goal

pub returns-clause-one : goal.returns-clause-one
returns-clause-one c = makes_one

pub returns-clause-valid : goal.returns-clause-valid
returns-clause-valid c = makes_valid

pub returns-clause-written : goal.returns-clause-written
returns-clause-written c = written_makes
