use Rattle.table_book.proofs.Histories.{state_joined, legal_front, begins, goes_on}
use Rattle.table_book.proofs.laws.a_history_goes_on.Goals as goal

pub returns-clause-begins : goal.returns-clause-begins
returns-clause-begins c = begins

pub returns-clause-goes_on : goal.returns-clause-goes_on
returns-clause-goes_on c = goes_on

pub returns-clause-beginnings : goal.returns-clause-beginnings
returns-clause-beginnings c = legal_front

pub returns-clause-joined : goal.returns-clause-joined
returns-clause-joined c = state_joined
