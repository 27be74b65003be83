-- A statement that was read has parts: items, groups, assignments.
use Rattle.std.proofs.Common.{◌≡◌, ℕ, zero, suc, ◌+◌, ◌≤◌, Bool, true, false, not, ◌||◌, List, [], ◌∷◌, length, map, Option, Some, None, refl, subst, arith}
use Rattle.std.specs.Prelude.{nat_eq, ⊤}
use Rattle.row_types.specs.declared.columns.Column.{Column}
use Rattle.row_types.specs.declared.tables.Schema.{Schema}
use Rattle.sql_value.specs.declared.statements.SelectSpec.{SelectSpec}
use Rattle.sql_value.specs.declared.statements.InsertStmt.{InsertStmt}
use Rattle.sql_value.specs.declared.statements.UpdateStmt.{UpdateStmt}
use Rattle.sql_value.specs.declared.statements.Statement.{Statement}
use Rattle.sql_value.specs.declared.statements.Statement.TheVariants as s
use Rattle.sql_value.specs.declared.exprs.Expr.{Expr}
use Rattle.sql_parse.specs.declared.token_kinds.TokenKind.{TokenKind}
use Rattle.sql_parse.specs.declared.token_kinds.TokenKind.TheVariants as k
use Rattle.sql_parse.specs.Names.{columns_of}
use Rattle.sql_parse.specs.Input.{Input, Outcome, Parser, ◌>>=◌, ◌>>◌, pure, and_then, expect, sees, after, kind}
use Rattle.sql_parse.specs.Statements.{table, value, filter, order, count, page, table_ahead, places_from, all_columns, values, items_by, items, select_of, select, column_list, columns_by, wide_group, groups, is_counted, insert_of, insert, assign, assigns, update, delete, statement_by, any_statement, statement}
use Rattle.sql_parse.proofs.Yields.{Yields, then_yields, then_keeps, some_separated}

-- A SELECT of a table with columns has items, an INSERT groups, and an UPDATE assignments.
abbrev pub HasParts : Schema → Statement → Type 0
HasParts schema (s.Select spec) = 1 ≤ length (columns_of schema spec.table) → 1 ≤ length spec.items
HasParts schema (s.Insert insert) = 1 ≤ length insert.groups
HasParts schema (s.Update update) = 1 ≤ length update.assigns
HasParts schema (s.Delete delete) = Unit {0}

abbrev HasItems : List Column → List Expr → Type 0
HasItems columns found = 1 ≤ length columns → 1 ≤ length found

all_some : (columns : List Column) → HasItems columns (all_columns columns)
all_some [] some = absurd (omega (arith, some))
all_some (c ∷ cs) some = omega arith

some_items : (columns : List Column) (i : Input) → Yields (items columns i) (HasItems columns)
unfolding items
some_items columns i = go (sees k.Star i) where
  weaken : (o : Outcome (List Expr)) → Yields o (λ xs. 1 ≤ length xs) → Yields o (HasItems columns)
  weaken None is = tt
  weaken (Some p) is = λ _. is

  go : (all : Bool) → Yields (items_by columns all (after k.Star i)) (HasItems columns)
  go true = all_some columns
  go false = weaken _ (some_separated (value columns 0) (after k.Star i))

some_select : (schema : Schema) (number : ℕ) (i : Input) → Yields (select_of schema number i) (λ spec. HasParts schema (s.Select spec))
unfolding select_of
some_select schema number i =
    let P = λ (spec : SelectSpec). HasParts schema (s.Select spec) in
    let columns = columns_of schema number in
    then_keeps (HasItems columns) P (items columns i) _ (some_items columns i) (λ shown a some.
    then_yields P (expect k.From a) _ (λ _ b.
    then_yields P (table schema b) _ (λ _ c.
    then_yields P (filter columns c) _ (λ _ d.
    then_yields P (order columns d) _ (λ _ e.
    then_yields P (page e) _ (λ _ _. some))))))

some_insert : (schema : Schema) (number : ℕ) (i : Input) → Yields (insert_of schema number i) (λ stmt. HasParts schema (s.Insert stmt))
unfolding insert_of
some_insert schema number i =
    let P = λ (stmt : InsertStmt). HasParts schema (s.Insert stmt) in
    let columns = columns_of schema number in
    let has_list = sees k.Open i in
    then_yields P (columns_by columns has_list (after k.Open i)) _ (λ places a.
    then_yields P (expect k.Values a) _ (λ _ b.
    then_keeps (λ xs. 1 ≤ length xs) P (groups columns (is_counted schema number has_list) (length places) b) _
    (some_separated (wide_group columns (is_counted schema number has_list) (length places)) b)
    (λ found c some. some)))

some_update : (schema : Schema) (i : Input) → Yields (update schema i) (λ stmt. HasParts schema (s.Update stmt))
unfolding update
some_update schema i =
    let P = λ (stmt : UpdateStmt). HasParts schema (s.Update stmt) in
    then_yields P (table schema i) _ (λ number a.
    then_yields P (expect k.Set a) _ (λ _ b.
    then_keeps (λ xs. 1 ≤ length xs) P (assigns (columns_of schema number) b) _ (some_separated (assign (columns_of schema number)) b) (λ made c some.
    then_yields P (filter (columns_of schema number) c) _ (λ _ d.
    then_yields P (order (columns_of schema number) d) _ (λ _ e.
    then_yields P (count e) _ (λ _ _. some))))))

some_by : (schema : Schema) (kind : TokenKind) (i : Input) → Yields (statement_by schema kind i) (HasParts schema)
unfolding select insert
some_by schema k.Select i =
    then_keeps (λ spec. HasParts schema (s.Select spec)) (HasParts schema) (select schema i) _
    (then_yields (λ spec. HasParts schema (s.Select spec)) (table_ahead schema i) _ (λ number j. some_select schema number j))
    (λ spec j some. some)
some_by schema k.Insert i =
    then_keeps (λ stmt. HasParts schema (s.Insert stmt)) (HasParts schema) (insert schema i) _
    (then_yields (λ stmt. HasParts schema (s.Insert stmt)) (table schema (after k.Into i)) _ (λ number j. some_insert schema number j))
    (λ stmt j some. some)
some_by schema k.Update i =
    then_keeps (λ stmt. HasParts schema (s.Update stmt)) (HasParts schema) (update schema i) _ (some_update schema i) (λ stmt j some. some)
some_by schema k.Delete i = then_yields (HasParts schema) (delete schema i) _ (λ stmt j. tt)
some_by schema _ i = tt

pub some_parts : (schema : Schema) (i : Input) → Yields (statement schema i) (HasParts schema)
unfolding statement any_statement
some_parts schema i =
    then_keeps (HasParts schema) (HasParts schema) (any_statement schema i) _ (some_by schema (kind i) _) (λ stmt a some.
    then_yields (HasParts schema) (expect k.End (after k.Semicolon a)) _ (λ _ _. some))
