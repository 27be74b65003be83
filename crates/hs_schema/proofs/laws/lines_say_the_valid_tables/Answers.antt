use Rattle.hs_schema.proofs.TableFacts.{table_ok}
use Rattle.hs_schema.proofs.SchemaAgain.{table_again}
use Rattle.hs_schema.proofs.laws.lines_say_the_valid_tables.Goals as goal

pub returns-clause-valid : goal.returns-clause-valid
returns-clause-valid c = table_ok

pub returns-clause-again : goal.returns-clause-again
returns-clause-again c = λ tables t is new room. table_again tables t is room new
