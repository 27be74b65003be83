-- What is read fits the schema.
use Rattle.std.proofs.Common.{◌≡◌, ℕ, zero, suc, ◌<◌, ◌≤◌, Bool, true, false, ◌&&◌, List, [], ◌∷◌, length, Option, Some, None, Ok, Err, refl, sym, ap, subst, ◌∙◌, arith}
use Rattle.std.specs.Prelude.{nat_lt, nat_eq, slice_get, IsSomeAnd, IfSome, IfOk, if◌then◌else◌, Result}
use Rattle.std.specs.List.{list_all, All, AllByRecursion}
use Rattle.std.proofs.lemmas.Bool.{ltb-true}
use Rattle.std.proofs.lemmas.List.Elements.{All-from_recursion}
use Rattle.row_types.specs.declared.columns.Kind.{Kind}
use Rattle.row_types.specs.declared.columns.Kind.TheVariants as kinds
use Rattle.row_types.specs.declared.columns.Column.{Column}
use Rattle.row_types.specs.declared.tables.TableDef.{TableDef}
use Rattle.row_types.specs.declared.tables.Schema.{Schema}
use Rattle.row_types.specs.Valid.{are_distinct, IsTable, IsValid}
use Rattle.request_types.specs.declared.codes.Code.TheVariants as codes
use Rattle.request_types.specs.declared.faults.Fault.{Fault}
use Rattle.request_types.specs.Refusal.{Gives}
use Rattle.request_types.specs.Fits.{AreNumbers}
use Rattle.sql_value.specs.declared.exprs.Expr.{Expr}
use Rattle.sql_value.specs.declared.kinds.ExprKind.{ExprKind}
use Rattle.sql_value.specs.declared.kinds.ExprKind.TheVariants.{Condition, Number, Text, Null}
use Rattle.sql_value.specs.declared.orders.OrderKey.{OrderKey}
use Rattle.sql_value.specs.declared.changes.Cell.{Cell}
use Rattle.sql_value.specs.declared.changes.Cell.TheVariants.{Preset, Of}
use Rattle.sql_value.specs.declared.changes.Assign.{Assign}
use Rattle.sql_value.specs.declared.statements.Statement.{Statement}
use Rattle.sql_value.specs.declared.statements.Statement.TheVariants as s
use Rattle.sql_value.specs.Kinds.{kind_of_cells, kind_of}
use Rattle.sql_value.specs.Fits.{IsValue, IsOf, IsCondition, CellFits, GroupFits, RowsFit, SelectFitsTable, InsertFitsTable, UpdateFitsTable, DeleteFitsTable, StatementFits}
use Rattle.sql_parse.specs.Lex.{skip}
use Rattle.sql_parse.specs.Names.{columns_of, columns_in}
use Rattle.sql_parse.specs.Input.{Outcome}
use Rattle.sql_parse.specs.Standing.{cell_within, condition_within, keys_within, rows_within, insert_within, assigns_within, is_within, statement_within, table_of, names_stand}
use Rattle.sql_parse.specs.Fitting.{is_value, is_truth, goes_into, condition_fits, cell_into, cell_fits, group_fits, statement_fits, kinds_fit}
use Rattle.sql_parse.specs.Statements.{statement}
use Rattle.sql_parse.specs.Reading.{checked, judged, parse_of}
use Rattle.sql_parse.proofs.Cases.{and_true, some_same, some_at, all_get, each_by, get_within}
use Rattle.sql_parse.proofs.Yields.{Yields}
use Rattle.sql_parse.proofs.SomeParts.{HasParts, some_parts}

value_is : (kind : Option ExprKind) → is_value kind ≡ true → IsValue kind
value_is (Some Number) e = tt
value_is (Some Text) e = tt
value_is (Some Null) e = tt
value_is (Some Condition) e = absurd cc
value_is None e = absurd cc

truth_is : (kind : Option ExprKind) → is_truth kind ≡ true → kind ≡ Some Condition
truth_is (Some Condition) e = refl
truth_is (Some Number) e = absurd cc
truth_is (Some Text) e = absurd cc
truth_is (Some Null) e = absurd cc
truth_is None e = absurd cc

into_is : (kind : Kind) (given : Option ExprKind) → goes_into kind given ≡ true → IsOf (kind_of_cells kind) given
into_is kind (Some Null) e = tt
into_is kinds.Int (Some Number) e = refl
into_is (kinds.Bytes most) (Some Text) e = refl
into_is kinds.Int (Some Text) e = absurd cc
into_is kinds.Int (Some Condition) e = absurd cc
into_is (kinds.Bytes most) (Some Number) e = absurd cc
into_is (kinds.Bytes most) (Some Condition) e = absurd cc
into_is kinds.Int None e = absurd cc
into_is (kinds.Bytes most) None e = absurd cc

condition_is : (columns : List Column) (condition : Option Expr) → condition_fits columns condition ≡ true → IfSome condition (IsCondition columns)
condition_is columns None e = tt
condition_is columns (Some e) is = truth_is (kind_of columns e) is

cell_is : (named columns : List Column) (place : ℕ) (cell : Cell) → cell_fits named columns place cell ≡ true → CellFits named columns place cell
cell_is named columns place cell e = go (slice_get columns place) refl cell e where
  go : (at : Option Column) → slice_get columns place ≡ at → (cell : Cell) → cell_into named cell at ≡ true → CellFits named columns place cell
  go None is cell e = absurd cc
  go (Some c) is Preset e = get_within columns place c is
  go (Some c) is (Of expr) e = some_at (λ (c : Column). IsOf (kind_of_cells c.kind) (kind_of named expr)) (slice_get columns place) c is (into_is c.kind (kind_of named expr) e)

group_is : (columns : List Column) (places : List ℕ) (cells : List Cell) → group_fits columns places cells ≡ true → GroupFits columns places cells
group_is columns [] [] e = tt
group_is columns [] (cell ∷ cells) e = absurd cc
group_is columns (place ∷ places) [] e = absurd cc
group_is columns (place ∷ places) (cell ∷ cells) e =
    let parts = and_true (cell_fits [] columns place cell) (group_fits columns places cells) e in
    (cell_is [] columns place cell parts.0, group_is columns places cells parts.1)

all_by : {A : Type 0} (P : A → Type 0) (test : A → Bool) → ((x : A) → test x ≡ true → P x) → (xs : List A) → list_all test xs ≡ true → All P xs
all_by P test f xs e = All-from_recursion P xs (each_by P test f xs e)

rows_are : (columns : List Column) (condition : Option Expr) (order : List OrderKey) → rows_within (length columns) condition order ≡ true → condition_fits columns condition ≡ true → RowsFit columns condition order
rows_are columns condition order within fits =
    let parts = and_true (keys_within (length columns) order) (condition_within (length columns) condition) within in
    record {
      met = condition_is columns condition fits;
      sorted = all_by (λ (key : OrderKey). key.column < length columns) (λ (key : OrderKey). nat_lt key.column (length columns)) (λ key e. ltb-true key.column (length columns) e) order parts.0;
    }

-- What fits the table at the number fits the schema.
fits_table : (schema : Schema) (statement : Statement) (t : TableDef) → slice_get schema.tables (table_of statement) ≡ Some t → 1 ≤ length t.columns → HasParts schema statement → statement_within (length t.columns) statement ≡ true → statement_fits t.columns statement ≡ true → StatementFits schema statement
fits_table schema (s.Select spec) t at wide some within fits =
    let named = and_true (list_all (is_within (length t.columns)) spec.items) (rows_within (length t.columns) spec.condition spec.order) within in
    let kinds = and_true (list_all (λ e. is_value (kind_of t.columns e)) spec.items) (condition_fits t.columns spec.condition) fits in
    let columns : columns_of schema spec.table ≡ t.columns = ap columns_in at in
    some_at (λ t. SelectFitsTable t spec) (slice_get schema.tables spec.table) t at (record {
      some = some (subst (λ cs. 1 ≤ length cs) (sym columns) wide);
      items = all_by (λ e. IsValue (kind_of t.columns e)) (λ e. is_value (kind_of t.columns e)) (λ e is. value_is (kind_of t.columns e) is) spec.items kinds.0;
      rows = rows_are t.columns spec.condition spec.order named.1 kinds.1;
    })
fits_table schema (s.Insert insert) t at wide some within fits =
    let places = and_true (list_all (λ place. nat_lt place (length t.columns)) insert.columns && are_distinct nat_eq insert.columns) (list_all (λ cells. list_all (cell_within 0) cells) insert.groups) within in
    let listed = and_true (list_all (λ place. nat_lt place (length t.columns)) insert.columns) (are_distinct nat_eq insert.columns) places.0 in
    some_at (λ t. InsertFitsTable t insert) (slice_get schema.tables insert.table) t at (record {
      columns = record {
        within = all_by (λ n. n < length t.columns) (λ n. nat_lt n (length t.columns)) (λ n e. ltb-true n (length t.columns) e) insert.columns listed.0;
        once = listed.1;
      };
      some = some;
      groups = all_by (GroupFits t.columns insert.columns) (λ cells. group_fits t.columns insert.columns cells) (λ cells e. group_is t.columns insert.columns cells e) insert.groups fits;
    })
fits_table schema (s.Update update) t at wide some within fits =
    let named = and_true (assigns_within (length t.columns) update.assigns) (rows_within (length t.columns) update.condition update.order) within in
    let kinds = and_true (list_all (λ (a : Assign). cell_fits t.columns t.columns a.column a.cell) update.assigns) (condition_fits t.columns update.condition) fits in
    some_at (λ t. UpdateFitsTable t update) (slice_get schema.tables update.table) t at (record {
      some = some;
      assigns = all_by (λ (a : Assign). CellFits t.columns t.columns a.column a.cell) (λ (a : Assign). cell_fits t.columns t.columns a.column a.cell) (λ a e. cell_is t.columns t.columns a.column a.cell e) update.assigns kinds.0;
      rows = rows_are t.columns update.condition update.order named.1 kinds.1;
    })
fits_table schema (s.Delete delete) t at wide some within fits =
    some_at (λ t. DeleteFitsTable t delete) (slice_get schema.tables delete.table) t at (rows_are t.columns delete.condition delete.order within fits)

stands_fits : (schema : Schema) (statement : Statement) → IsValid schema → HasParts schema statement → names_stand schema statement ≡ true → kinds_fit schema statement ≡ true → StatementFits schema statement
stands_fits schema statement valid some names kinds = go (slice_get schema.tables (table_of statement)) refl where
  go : (at : Option TableDef) → slice_get schema.tables (table_of statement) ≡ at → StatementFits schema statement
  go None at = absurd (let e : names_stand schema statement ≡ false = rw at refl in cc)
  go (Some t) at =
      let table : IsTable t = all_get IsTable schema.tables (table_of statement) t valid.tables at in
      let columns : columns_of schema (table_of statement) ≡ t.columns = ap columns_in at in
      let within : statement_within (length t.columns) statement ≡ true = (let e : names_stand schema statement ≡ statement_within (length t.columns) statement = rw at refl in sym e ∙ names) in
      fits_table schema statement t at table.columns.some some within (subst (λ cs. statement_fits cs statement ≡ true) columns kinds)

-- What a statement that was read and judged fine.
checked_fits : (schema : Schema) (read other : Statement) → IsValid schema → HasParts schema read → checked schema read ≡ Ok other → StatementFits schema other
checked_fits schema read other valid some is = go (names_stand schema read) (kinds_fit schema read) refl refl is where
  go : (names kinds : Bool) → names_stand schema read ≡ names → kinds_fit schema read ≡ kinds → (if names then (if kinds then Ok read else Err codes.WrongKind) else Err codes.Name) ≡ Ok other → StatementFits schema other
  go true true n k e = subst (StatementFits schema) (let same : read ≡ other = cc in same) (stands_fits schema read valid some n k)
  go true false n k e = absurd cc
  go false kinds n k e = absurd cc

pub read_fits : (schema : Schema) (line : List ℕ) (found : Statement) → IsValid schema → parse_of schema line ≡ Ok found → StatementFits schema found
unfolding parse_of
read_fits schema line found valid is = go (statement schema (skip line)) (some_parts schema (skip line)) is where
  go : (o : Outcome Statement) → Yields o (HasParts schema) → judged schema o ≡ Ok found → StatementFits schema found
  go None some e = absurd cc
  go (Some p) some e = checked_fits schema p.0 found valid some e

-- What a call answered fits, if it is what is read.
pub given_fits : (schema : Schema) (line : List ℕ) (r : Result Statement Fault) → Gives (λ s. s) r (parse_of schema line) → IsValid schema → IfOk r (StatementFits schema)
given_fits schema line (Ok found) is valid = read_fits schema line found valid is
given_fits schema line (Err fault) is valid = tt
