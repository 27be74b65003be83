use Rattle.std.proofs.Common.{refl}
use Rattle.sql_parse.specs.Lex.{token, keyword, same_kind}
use Rattle.sql_parse.specs.Input.{kind, spelling, next, sees, after, expect, separated_from}
use Rattle.sql_parse.specs.Names.{name}
use Rattle.sql_parse.specs.Grammar.{grouped_from, group, atom, unary, signed, term, value as sum, worth, null_test, members_from, members, membership, against, test, negation, conjunction, condition as cond, at, expr}
use Rattle.sql_parse.specs.Statements.{value}
use Rattle.sql_parse.proofs.laws.values_by_examples.Goals as goal

pub returns-clause-from_the_left : goal.returns-clause-from_the_left
unfolding token keyword same_kind kind spelling next sees after expect separated_from name grouped_from group atom unary signed term sum worth null_test members_from members membership against test negation conjunction cond at expr value
returns-clause-from_the_left c = refl

pub returns-clause-products_first : goal.returns-clause-products_first
unfolding token keyword same_kind kind spelling next sees after expect separated_from name grouped_from group atom unary signed term sum worth null_test members_from members membership against test negation conjunction cond at expr value
returns-clause-products_first c = refl

pub returns-clause-parentheses_before : goal.returns-clause-parentheses_before
unfolding token keyword same_kind kind spelling next sees after expect separated_from name grouped_from group atom unary signed term sum worth null_test members_from members membership against test negation conjunction cond at expr value
returns-clause-parentheses_before c = refl

pub returns-clause-least : goal.returns-clause-least
unfolding token keyword same_kind kind spelling next sees after expect separated_from name grouped_from group atom unary signed term sum worth null_test members_from members membership against test negation conjunction cond at expr value
returns-clause-least c = refl

pub returns-clause-too_large : goal.returns-clause-too_large
unfolding token keyword same_kind kind spelling next sees after expect separated_from name grouped_from group atom unary signed term sum worth null_test members_from members membership against test negation conjunction cond at expr value
returns-clause-too_large c = refl

pub returns-clause-signs : goal.returns-clause-signs
unfolding token keyword same_kind kind spelling next sees after expect separated_from name grouped_from group atom unary signed term sum worth null_test members_from members membership against test negation conjunction cond at expr value
returns-clause-signs c = refl

pub returns-clause-quotes : goal.returns-clause-quotes
unfolding token keyword same_kind kind spelling next sees after expect separated_from name grouped_from group atom unary signed term sum worth null_test members_from members membership against test negation conjunction cond at expr value
returns-clause-quotes c = refl

pub returns-clause-escapes : goal.returns-clause-escapes
unfolding token keyword same_kind kind spelling next sees after expect separated_from name grouped_from group atom unary signed term sum worth null_test members_from members membership against test negation conjunction cond at expr value
returns-clause-escapes c = refl

pub returns-clause-no_escape : goal.returns-clause-no_escape
unfolding token keyword same_kind kind spelling next sees after expect separated_from name grouped_from group atom unary signed term sum worth null_test members_from members membership against test negation conjunction cond at expr value
returns-clause-no_escape c = refl

pub returns-clause-digits : goal.returns-clause-digits
unfolding token keyword same_kind kind spelling next sees after expect separated_from name grouped_from group atom unary signed term sum worth null_test members_from members membership against test negation conjunction cond at expr value
returns-clause-digits c = refl

pub returns-clause-no_name : goal.returns-clause-no_name
unfolding token keyword same_kind kind spelling next sees after expect separated_from name grouped_from group atom unary signed term sum worth null_test members_from members membership against test negation conjunction cond at expr value
returns-clause-no_name c = refl
