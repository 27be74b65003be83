use Rattle.change_set.proofs.FromEmpty.{none_deleted}
use Rattle.change_set.proofs.SetsAgain.{payload_again, area_again}
use Rattle.change_set.proofs.laws.payloads_are_read_again.Goals as goal

pub returns-clause-payload : goal.returns-clause-payload
returns-clause-payload c = λ schema set valid fits some. payload_again schema set valid fits some

pub returns-clause-area : goal.returns-clause-area
returns-clause-area c = λ schema set valid fits none. area_again schema set valid fits none

pub returns-clause-of_empty : goal.returns-clause-of_empty
returns-clause-of_empty c = none_deleted
