use Rattle.sql_value.proofs.Parts.{worth-Literal, worth-Column, worth-Negate, worth-Arith, worth-Compare, worth-IsNull, worth-InList, worth-Not, worth-And, worth-Or}
use Rattle.sql_value.proofs.laws.worth_by_parts.Goals as goal

pub returns-clause-literal : goal.returns-clause-literal
returns-clause-literal c = worth-Literal

pub returns-clause-column : goal.returns-clause-column
returns-clause-column c = worth-Column

pub returns-clause-negate : goal.returns-clause-negate
returns-clause-negate c = worth-Negate

pub returns-clause-arith : goal.returns-clause-arith
returns-clause-arith c = worth-Arith

pub returns-clause-compare : goal.returns-clause-compare
returns-clause-compare c = worth-Compare

pub returns-clause-is_null : goal.returns-clause-is_null
returns-clause-is_null c = worth-IsNull

pub returns-clause-in_list : goal.returns-clause-in_list
returns-clause-in_list c = worth-InList

pub returns-clause-negation : goal.returns-clause-negation
returns-clause-negation c = worth-Not

pub returns-clause-both_of : goal.returns-clause-both_of
returns-clause-both_of c = worth-And

pub returns-clause-either_of : goal.returns-clause-either_of
returns-clause-either_of c = worth-Or
