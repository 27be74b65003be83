use Rattle.request_types.proofs.CodeFacts.{numbers_distinct, texts_distinct, not_zero, not_empty}
use Rattle.request_types.proofs.laws.codes_are_distinct.Goals as goal

pub returns-clause-numbers : goal.returns-clause-numbers
returns-clause-numbers c = numbers_distinct

pub returns-clause-texts : goal.returns-clause-texts
returns-clause-texts c = texts_distinct

pub returns-clause-none_is_success : goal.returns-clause-none_is_success
returns-clause-none_is_success c = not_zero

pub returns-clause-none_is_empty : goal.returns-clause-none_is_empty
returns-clause-none_is_empty c = not_empty
