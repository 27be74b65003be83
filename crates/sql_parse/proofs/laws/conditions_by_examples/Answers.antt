use Rattle.std.proofs.Common.{refl}
use Rattle.sql_parse.specs.Lex.{token, keyword, same_kind}
use Rattle.sql_parse.specs.Input.{kind, spelling, next, sees, after, expect, separated_from}
use Rattle.sql_parse.specs.Names.{name}
use Rattle.sql_parse.specs.Grammar.{grouped_from, group, atom, unary, signed, term, value as sum, worth, null_test, members_from, members, membership, against, test, negation, conjunction, condition as cond, at, expr}
use Rattle.sql_parse.specs.Statements.{condition}
use Rattle.sql_parse.proofs.laws.conditions_by_examples.Goals as goal

pub returns-clause-and_before_or : goal.returns-clause-and_before_or
unfolding token keyword same_kind kind spelling next sees after expect separated_from name grouped_from group atom unary signed term sum worth null_test members_from members membership against test negation conjunction cond at expr condition
returns-clause-and_before_or c = refl

pub returns-clause-not_before_and : goal.returns-clause-not_before_and
unfolding token keyword same_kind kind spelling next sees after expect separated_from name grouped_from group atom unary signed term sum worth null_test members_from members membership against test negation conjunction cond at expr condition
returns-clause-not_before_and c = refl

pub returns-clause-not_in : goal.returns-clause-not_in
unfolding token keyword same_kind kind spelling next sees after expect separated_from name grouped_from group atom unary signed term sum worth null_test members_from members membership against test negation conjunction cond at expr condition
returns-clause-not_in c = refl

pub returns-clause-is_not_null : goal.returns-clause-is_not_null
unfolding token keyword same_kind kind spelling next sees after expect separated_from name grouped_from group atom unary signed term sum worth null_test members_from members membership against test negation conjunction cond at expr condition
returns-clause-is_not_null c = refl

pub returns-clause-no_value : goal.returns-clause-no_value
unfolding token keyword same_kind kind spelling next sees after expect separated_from name grouped_from group atom unary signed term sum worth null_test members_from members membership against test negation conjunction cond at expr condition
returns-clause-no_value c = refl
