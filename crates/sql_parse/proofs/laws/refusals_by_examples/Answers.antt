use Rattle.std.proofs.Common.{◌≡◌, ℕ, Bool, true, false, ◌&&◌, List, [], ◌∷◌, Option, Some, None, Ok, Err, refl, ap, ◌∙◌}
use Rattle.std.specs.Prelude.{if◌then◌else◌, Result}
use Rattle.request_types.specs.declared.codes.Code.{Code}
use Rattle.request_types.specs.declared.codes.Code.TheVariants as codes
use Rattle.sql_value.specs.declared.exprs.ArithOp.TheVariants.{Sum}
use Rattle.sql_value.specs.declared.exprs.Expr.{Expr}
use Rattle.sql_value.specs.declared.exprs.Expr.TheVariants as exprs
use Rattle.sql_value.specs.declared.kinds.ExprKind.{ExprKind}
use Rattle.sql_value.specs.declared.kinds.ExprKind.TheVariants.{Number}
use Rattle.sql_value.specs.declared.statements.Statement.{Statement}
use Rattle.sql_value.specs.Kinds.{numeric, kind_of}
use Rattle.sql_parse.specs.Lex.{token, keyword, same_kind}
use Rattle.sql_parse.specs.Input.{kind, spelling, next, sees, after, expect, separated_from}
use Rattle.sql_parse.specs.Names.{name}
use Rattle.sql_parse.specs.Grammar.{grouped_from, group, atom, unary, signed, term, value as sum, worth, null_test, members_from, members, membership, against, test, negation, conjunction, condition as cond, at, expr}
use Rattle.sql_parse.specs.Statements.{table, value, condition, cell, filter, order_key, order, number, counted, count, offset, paged, page, table_ahead_from, table_ahead, items, select_of, select, column, group as row, wide_group, insert_of, insert, any_statement, statement}
use Rattle.sql_parse.specs.Names.{nowhere}
use Rattle.sql_parse.specs.Standing.{is_within}
use Rattle.sql_parse.specs.Fitting.{is_value, kinds_fit}
use Rattle.sql_parse.specs.Reading.{parse_of}
use Rattle.sql_parse.specs.Examples.{some_columns, some_schema, selected, inserted, n as column_n}
use Rattle.sql_parse.proofs.Folds.{within-Column, within-Negate, within-Arith, kind-Column, kind-Negate}
use Rattle.sql_parse.proofs.laws.refusals_by_examples.Goals as goal

-- A SELECT of one item of t, by whether its names are there and what it gives.
abbrev selected_by : Expr → Bool → Option ExprKind → Result Statement Code
selected_by item names kind =
    if (names && true) && true then (if (is_value kind && true) && true then Ok (selected 0 (item ∷ []) None) else Err codes.WrongKind)
    else Err codes.Name

pub returns-clause-syntax_before_name : goal.returns-clause-syntax_before_name
unfolding token keyword same_kind kind spelling next sees after expect separated_from name grouped_from group atom unary signed term sum worth null_test members_from members membership against test negation conjunction cond at expr table value condition cell filter order_key order number counted count offset paged page table_ahead_from table_ahead items select_of select column row wide_group insert_of insert any_statement statement parse_of
returns-clause-syntax_before_name c = refl

pub returns-clause-no_table : goal.returns-clause-no_table
unfolding token keyword same_kind kind spelling next sees after expect separated_from name grouped_from group atom unary signed term sum worth null_test members_from members membership against test negation conjunction cond at expr table value condition cell filter order_key order number counted count offset paged page table_ahead_from table_ahead items select_of select column row wide_group insert_of insert any_statement statement parse_of
returns-clause-no_table c = refl

pub returns-clause-two_tables : goal.returns-clause-two_tables
unfolding token keyword same_kind kind spelling next sees after expect separated_from name grouped_from group atom unary signed term sum worth null_test members_from members membership against test negation conjunction cond at expr table value condition cell filter order_key order number counted count offset paged page table_ahead_from table_ahead items select_of select column row wide_group insert_of insert any_statement statement parse_of
returns-clause-two_tables c = refl

pub returns-clause-listed_twice : goal.returns-clause-listed_twice
unfolding token keyword same_kind kind spelling next sees after expect separated_from name grouped_from group atom unary signed term sum worth null_test members_from members membership against test negation conjunction cond at expr table value condition cell filter order_key order number counted count offset paged page table_ahead_from table_ahead items select_of select column row wide_group insert_of insert any_statement statement parse_of
returns-clause-listed_twice c = refl

pub returns-clause-column_in_a_group : goal.returns-clause-column_in_a_group
unfolding token keyword same_kind kind spelling next sees after expect separated_from name grouped_from group atom unary signed term sum worth null_test members_from members membership against test negation conjunction cond at expr table value condition cell filter order_key order number counted count offset paged page table_ahead_from table_ahead items select_of select column row wide_group insert_of insert any_statement statement parse_of
returns-clause-column_in_a_group c =
    let statement = inserted 0 (0 ∷ []) (column_n ∷ []) in
    ap (λ (names : Bool). if (names && true) && true then (if kinds_fit some_schema statement then Ok statement else Err codes.WrongKind) else Err codes.Name)
    (within-Column 0 2)

pub returns-clause-name_before_kind : goal.returns-clause-name_before_kind
unfolding token keyword same_kind kind spelling next sees after expect separated_from name grouped_from group atom unary signed term sum worth null_test members_from members membership against test negation conjunction cond at expr table value condition cell filter order_key order number counted count offset paged page table_ahead_from table_ahead items select_of select column row wide_group insert_of insert any_statement statement parse_of
returns-clause-name_before_kind c =
    let item = exprs.Arith Sum (exprs.Column nowhere) (exprs.Column 1) in
    let names : is_within 3 item ≡ false = within-Arith 3 Sum (exprs.Column nowhere) (exprs.Column 1) ∙ ap (λ (b : Bool). b && is_within 3 (exprs.Column 1)) (within-Column 3 nowhere) in
    ap (λ (b : Bool). selected_by item b (kind_of some_columns item)) names

pub returns-clause-kind : goal.returns-clause-kind
unfolding token keyword same_kind kind spelling next sees after expect separated_from name grouped_from group atom unary signed term sum worth null_test members_from members membership against test negation conjunction cond at expr table value condition cell filter order_key order number counted count offset paged page table_ahead_from table_ahead items select_of select column row wide_group insert_of insert any_statement statement parse_of
returns-clause-kind c =
    let item = exprs.Negate (exprs.Column 1) in
    let names : is_within 3 item ≡ true = within-Negate 3 (exprs.Column 1) ∙ within-Column 3 1 in
    let kind : kind_of some_columns item ≡ None = kind-Negate some_columns (exprs.Column 1) ∙ ap (λ k. numeric k k) (kind-Column some_columns 1) in
    ap (λ (b : Bool). selected_by item b (kind_of some_columns item)) names ∙ ap (λ k. selected_by item true k) kind

pub returns-clause-none : goal.returns-clause-none
unfolding token keyword same_kind kind spelling next sees after expect separated_from name grouped_from group atom unary signed term sum worth null_test members_from members membership against test negation conjunction cond at expr table value condition cell filter order_key order number counted count offset paged page table_ahead_from table_ahead items select_of select column row wide_group insert_of insert any_statement statement parse_of
returns-clause-none c =
    let item = exprs.Negate column_n in
    let names : is_within 3 item ≡ true = within-Negate 3 column_n ∙ within-Column 3 2 in
    let kind : kind_of some_columns item ≡ Some Number = kind-Negate some_columns column_n ∙ ap (λ k. numeric k k) (kind-Column some_columns 2) in
    ap (λ (b : Bool). selected_by item b (kind_of some_columns item)) names ∙ ap (λ k. selected_by item true k) kind
