use Rattle.std.proofs.Common.{refl}
use Rattle.sql_parse.specs.Lex.{token, keyword, same_kind}
use Rattle.sql_parse.specs.Input.{kind, spelling, next, sees, after, expect, separated_from}
use Rattle.sql_parse.specs.Names.{name}
use Rattle.sql_parse.specs.Grammar.{grouped_from, group, atom, unary, signed, term, value as sum, worth, null_test, members_from, members, membership, against, test, negation, conjunction, condition as cond, at, expr}
use Rattle.sql_parse.specs.Statements.{table, value, condition, cell, filter, order_key, order, number, counted, count, offset, paged, page, table_ahead_from, table_ahead, items, select_of, select, column, group as row, wide_group, insert_of, insert, any_statement, statement}
use Rattle.sql_parse.proofs.laws.lines_by_examples.Goals as goal

pub returns-clause-all_columns : goal.returns-clause-all_columns
unfolding token keyword same_kind kind spelling next sees after expect separated_from name grouped_from group atom unary signed term sum worth null_test members_from members membership against test negation conjunction cond at expr table value condition cell filter order_key order number counted count offset paged page table_ahead_from table_ahead items select_of select column row wide_group insert_of insert any_statement statement
returns-clause-all_columns c = refl

pub returns-clause-any_case : goal.returns-clause-any_case
unfolding token keyword same_kind kind spelling next sees after expect separated_from name grouped_from group atom unary signed term sum worth null_test members_from members membership against test negation conjunction cond at expr table value condition cell filter order_key order number counted count offset paged page table_ahead_from table_ahead items select_of select column row wide_group insert_of insert any_statement statement
returns-clause-any_case c = refl

pub returns-clause-offset_first : goal.returns-clause-offset_first
unfolding token keyword same_kind kind spelling next sees after expect separated_from name grouped_from group atom unary signed term sum worth null_test members_from members membership against test negation conjunction cond at expr table value condition cell filter order_key order number counted count offset paged page table_ahead_from table_ahead items select_of select column row wide_group insert_of insert any_statement statement
returns-clause-offset_first c = refl

pub returns-clause-offset_last : goal.returns-clause-offset_last
unfolding token keyword same_kind kind spelling next sees after expect separated_from name grouped_from group atom unary signed term sum worth null_test members_from members membership against test negation conjunction cond at expr table value condition cell filter order_key order number counted count offset paged page table_ahead_from table_ahead items select_of select column row wide_group insert_of insert any_statement statement
returns-clause-offset_last c = refl

pub returns-clause-no_condition : goal.returns-clause-no_condition
unfolding token keyword same_kind kind spelling next sees after expect separated_from name grouped_from group atom unary signed term sum worth null_test members_from members membership against test negation conjunction cond at expr table value condition cell filter order_key order number counted count offset paged page table_ahead_from table_ahead items select_of select column row wide_group insert_of insert any_statement statement
returns-clause-no_condition c = refl

pub returns-clause-two_tables : goal.returns-clause-two_tables
unfolding token keyword same_kind kind spelling next sees after expect separated_from name grouped_from group atom unary signed term sum worth null_test members_from members membership against test negation conjunction cond at expr table value condition cell filter order_key order number counted count offset paged page table_ahead_from table_ahead items select_of select column row wide_group insert_of insert any_statement statement
returns-clause-two_tables c = refl

pub returns-clause-few_cells : goal.returns-clause-few_cells
unfolding token keyword same_kind kind spelling next sees after expect separated_from name grouped_from group atom unary signed term sum worth null_test members_from members membership against test negation conjunction cond at expr table value condition cell filter order_key order number counted count offset paged page table_ahead_from table_ahead items select_of select column row wide_group insert_of insert any_statement statement
returns-clause-few_cells c = refl

pub returns-clause-nobody_counts : goal.returns-clause-nobody_counts
unfolding token keyword same_kind kind spelling next sees after expect separated_from name grouped_from group atom unary signed term sum worth null_test members_from members membership against test negation conjunction cond at expr table value condition cell filter order_key order number counted count offset paged page table_ahead_from table_ahead items select_of select column row wide_group insert_of insert any_statement statement
returns-clause-nobody_counts c = refl
