use Rattle.std.proofs.Common.{refl, arith}
use Rattle.std.proofs.lemmas.Fmt.{decimal_digit}
use Rattle.batch_answers.proofs.laws.worked_answers.Goals as goal

pub returns-clause-find : goal.returns-clause-find
returns-clause-find c = rw (decimal_digit 0 (omega arith), decimal_digit 1 (omega arith), decimal_digit 2 (omega arith), decimal_digit 3 (omega arith)) refl

pub returns-clause-added : goal.returns-clause-added
returns-clause-added c = refl

pub returns-clause-shown : goal.returns-clause-shown
returns-clause-shown c = rw (decimal_digit 0 (omega arith), decimal_digit 1 (omega arith), decimal_digit 4 (omega arith), decimal_digit 6 (omega arith)) refl

pub returns-clause-moved : goal.returns-clause-moved
returns-clause-moved c = refl

pub returns-clause-removed : goal.returns-clause-removed
returns-clause-removed c = refl

pub returns-clause-barred : goal.returns-clause-barred
returns-clause-barred c = refl

pub returns-clause-full : goal.returns-clause-full
returns-clause-full c = refl
