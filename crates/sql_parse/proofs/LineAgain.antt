-- The line of a statement is read as the statement.
use Rattle.std.proofs.Common.{◌≡◌, ℕ, ◌<◌, ◌≤◌, true, ◌&&◌, List, [], length, Option, Some, None, Ok, Err, refl, ap, sym, subst, ◌∙◌, arith}
use Rattle.std.specs.Prelude.{nat_lt, nat_eq, if◌then◌else◌, codes, slice_get, IfSome, IsSomeAnd}
use Rattle.std.specs.List.{list_all, AllByRecursion}
use Rattle.std.proofs.lemmas.Bool.{lt-ltb}
use Rattle.row_types.specs.declared.tables.TableDef.{TableDef}
use Rattle.row_types.specs.declared.tables.Schema.{Schema}
use Rattle.row_types.specs.Valid.{are_distinct, IsValid}
use Rattle.request_types.specs.declared.codes.Code.TheVariants as refusals
use Rattle.sql_value.specs.declared.exprs.Expr.{Expr}
use Rattle.sql_value.specs.declared.kinds.ExprKind.TheVariants.{Condition}
use Rattle.sql_value.specs.declared.orders.OrderKey.{OrderKey}
use Rattle.sql_value.specs.declared.changes.Assign.{Assign}
use Rattle.sql_value.specs.declared.statements.SelectSpec.{SelectSpec}
use Rattle.sql_value.specs.declared.statements.InsertStmt.{InsertStmt}
use Rattle.sql_value.specs.declared.statements.UpdateStmt.{UpdateStmt}
use Rattle.sql_value.specs.declared.statements.DeleteStmt.{DeleteStmt}
use Rattle.sql_value.specs.declared.statements.Statement.{Statement}
use Rattle.sql_value.specs.declared.statements.Statement.TheVariants.{Select, Insert, Update, Delete}
use Rattle.sql_value.specs.Kinds.{kind_of}
use Rattle.sql_value.specs.Fits.{IsValue, CellFits, GroupFits, RowsFit, SelectFitsTable, InsertFitsTable, UpdateFitsTable, DeleteFitsTable, StatementFits}
use Rattle.sql_parse.specs.declared.token_kinds.TokenKind.{TokenKind}
use Rattle.sql_parse.specs.declared.token_kinds.TokenKind.TheVariants as k
use Rattle.sql_parse.specs.Lex.{token, same_kind}
use Rattle.sql_parse.specs.Names.{columns_in, columns_of}
use Rattle.sql_parse.specs.Input.{Input, ◌>>◌, pure, eat, expect, kind, next, sees}
use Rattle.sql_parse.specs.Statements as s
use Rattle.sql_parse.specs.Standing.{is_within, rows_within, cell_within, assigns_within, statement_within, table_of, names_stand}
use Rattle.sql_parse.specs.Fitting.{is_value, condition_fits, cell_fits, group_fits, statement_fits, kinds_fit}
use Rattle.sql_parse.specs.Reading.{judged, parse_of}
use Rattle.sql_parse.specs.Spelling as t
use Rattle.sql_parse.specs.Spelling.{HasText, CellHasText, StatementHasText, spelled}
use Rattle.sql_parse.proofs.Cases.{both_true}
use Rattle.sql_parse.proofs.Pieces.{Bare, IsToken, kind_of_word, next_of_word, eats_none}
use Rattle.sql_parse.proofs.Fixed.{select_token, from_token, insert_token, into_token, update_token, delete_token}
use Rattle.sql_parse.proofs.Grouping.{bind}
use Rattle.sql_parse.proofs.RowsAgain.{rest_end, not_next}
use Rattle.sql_parse.proofs.CellsAgain.{value_gives, cell_place}
use Rattle.sql_parse.proofs.StatementsAgain.{AreRows, named_bare, select_bare, select_read, insert_read, update_read, delete_read}
use Rattle.sql_parse.proofs.FitsAgain.{each_of, all_pass, inside, value_passes, condition_passes, rows_inside, cell_passes, group_passes, cell_inside, group_inside}

-- ---- the line

end_read : expect k.End [] ≡ Some (tt, [])
unfolding expect sees kind next token same_kind
end_read = refl

-- A statement by its first word.
begun : (schema : Schema) (its : TokenKind) (p : List ℕ) (y : Input) (found : Statement) → IsToken its p → Bare y → s.statement_by schema its y ≡ Some (found, []) → s.statement schema (t.word p y) ≡ Some (found, [])
unfolding s.statement s.any_statement same_kind
begun schema its p y found token bare read =
    let i = t.word p y in
    bind (λ found. eat k.Semicolon >> (expect k.End >> pure found)) {o = s.any_statement schema i}
    (ap (λ x. s.statement_by schema x (next i)) (kind_of_word its p token y) ∙ ap (s.statement_by schema its) (next_of_word its p token y bare) ∙ read)
    (bind (λ _. expect k.End >> pure found) {o = eat k.Semicolon []} (eats_none k.Semicolon [] (not_next [] k.End k.Semicolon rest_end refl))
    (bind (λ _. pure found) {o = expect k.End []} end_read refl))

module _ (schema : Schema) (d : TableDef) (n : ℕ) (valid : IsValid schema) (at : slice_get schema.tables n ≡ Some d) where
  same : columns_of schema n ≡ d.columns
  same = ap columns_in at

  rows : (condition : Option Expr) (order : List OrderKey) → RowsFit d.columns condition order → IfSome condition (HasText 100) → AreRows schema d n valid at condition order
  rows condition order fits text = record {
    met = subst (λ cs. IfSome condition (λ e. kind_of cs e ≡ Some Condition)) (sym same) fits.met;
    sorted = subst (λ cs. AllByRecursion (λ (key : OrderKey). key.column < length cs) order) (sym same) (each_of (λ (key : OrderKey). key.column < length d.columns) order fits.sorted);
    text = text;
  }

  select_line : (spec : SelectSpec) → SelectFitsTable d spec → AllByRecursion (HasText 100) spec.items → IfSome spec.condition (HasText 100) → IfSome spec.limit t.IsPage → s.statement schema (t.select (columns_of schema n) (t.table_name (Some d)) spec []) ≡ Some (Select (record { table = n; items = spec.items; condition = spec.condition; order = spec.order; limit = spec.limit }), [])
  select_line spec fits items condition cut =
      let is = each_of (λ e. IsValue (kind_of d.columns e)) spec.items fits.items in
      let values = subst (λ cs. AllByRecursion (λ e. IsValue (kind_of cs e)) spec.items) (sym same) is in
      begun schema k.Select (codes "SELECT") _ _ select_token
      (select_bare schema d n valid at spec fits.some values items _ (from_token.bare _))
      (bind (λ found. pure (Select found)) (select_read schema d n valid at spec fits.some values items (rows spec.condition spec.order fits.rows condition) cut) refl)

  insert_line : (stmt : InsertStmt) → InsertFitsTable d stmt → 1 ≤ length stmt.columns → AllByRecursion (AllByRecursion (CellHasText 99)) stmt.groups → s.statement schema (t.insert (columns_of schema n) (t.table_name (Some d)) stmt []) ≡ Some (Insert (record { table = n; columns = stmt.columns; groups = stmt.groups }), [])
  insert_line stmt fits some has =
      let within = subst (λ cs. AllByRecursion (λ place. place < length cs) stmt.columns) (sym same) (each_of (λ place. place < length d.columns) stmt.columns fits.columns.within) in
      let groups = subst (λ cs. AllByRecursion (GroupFits cs stmt.columns) stmt.groups) (sym same) (each_of (GroupFits d.columns stmt.columns) stmt.groups fits.groups) in
      begun schema k.Insert (codes "INSERT") _ _ insert_token (into_token.bare _)
      (bind (λ found. pure (Insert found)) (insert_read schema d n valid at stmt some within fits.some groups has) refl)

  update_line : (stmt : UpdateStmt) → UpdateFitsTable d stmt → AllByRecursion (λ (a : Assign). CellHasText 100 a.cell) stmt.assigns → IfSome stmt.condition (HasText 100) → IfSome stmt.limit t.IsCount → s.statement schema (t.update (columns_of schema n) (t.table_name (Some d)) stmt []) ≡ Some (Update (record { table = n; assigns = stmt.assigns; condition = stmt.condition; order = stmt.order; limit = stmt.limit }), [])
  update_line stmt fits has condition cut =
      let cells = subst (λ cs. AllByRecursion (λ (a : Assign). CellFits cs cs a.column a.cell) stmt.assigns) (sym same) (each_of (λ (a : Assign). CellFits d.columns d.columns a.column a.cell) stmt.assigns fits.assigns) in
      begun schema k.Update (codes "UPDATE") _ _ update_token (named_bare schema d n valid at _)
      (bind (λ found. pure (Update found)) (update_read schema d n valid at stmt fits.some cells has (rows stmt.condition stmt.order fits.rows condition) cut) refl)

  delete_line : (stmt : DeleteStmt) → DeleteFitsTable d stmt → IfSome stmt.condition (HasText 100) → IfSome stmt.limit t.IsCount → s.statement schema (t.delete (columns_of schema n) (t.table_name (Some d)) stmt []) ≡ Some (Delete (record { table = n; condition = stmt.condition; order = stmt.order; limit = stmt.limit }), [])
  delete_line stmt fits condition cut =
      begun schema k.Delete (codes "DELETE") _ _ delete_token (from_token.bare _)
      (bind (λ found. pure (Delete found)) (delete_read schema d n valid at stmt (rows stmt.condition stmt.order fits condition) cut) refl)

  -- ---- its names and kinds

  rows_pass : (condition : Option Expr) (order : List OrderKey) → RowsFit d.columns condition order → rows_within (length d.columns) condition order ≡ true
  rows_pass condition order fits = rows_inside d.columns condition order fits.met (each_of (λ (key : OrderKey). key.column < length d.columns) order fits.sorted)

  select_names : (spec : SelectSpec) → SelectFitsTable d spec → statement_within (length d.columns) (Select spec) ≡ true
  select_names spec fits =
      both_true (list_all (is_within (length d.columns)) spec.items) (rows_within (length d.columns) spec.condition spec.order)
      (all_pass (λ e. IsValue (kind_of d.columns e)) (is_within (length d.columns))
      (λ e is. let worth = value_gives (kind_of d.columns e) is in inside d.columns (length d.columns) (omega arith) e worth.gives worth.is)
      spec.items (each_of (λ e. IsValue (kind_of d.columns e)) spec.items fits.items))
      (rows_pass spec.condition spec.order fits.rows)

  select_kinds : (spec : SelectSpec) → SelectFitsTable d spec → statement_fits d.columns (Select spec) ≡ true
  select_kinds spec fits =
      both_true (list_all (λ e. is_value (kind_of d.columns e)) spec.items) (condition_fits d.columns spec.condition)
      (all_pass (λ e. IsValue (kind_of d.columns e)) (λ e. is_value (kind_of d.columns e)) (λ e is. value_passes (kind_of d.columns e) is)
      spec.items (each_of (λ e. IsValue (kind_of d.columns e)) spec.items fits.items))
      (condition_passes d.columns spec.condition fits.rows.met)

  insert_names : (stmt : InsertStmt) → InsertFitsTable d stmt → statement_within (length d.columns) (Insert stmt) ≡ true
  insert_names stmt fits =
      let places = list_all (λ place. nat_lt place (length d.columns)) stmt.columns in
      let once = are_distinct nat_eq stmt.columns in
      both_true (places && once) (list_all (λ cells. list_all (cell_within 0) cells) stmt.groups)
      (both_true places once (all_pass (λ place. place < length d.columns) (λ place. nat_lt place (length d.columns)) (λ place lt. lt-ltb place (length d.columns) lt) stmt.columns (each_of (λ place. place < length d.columns) stmt.columns fits.columns.within)) fits.columns.once)
      (all_pass (GroupFits d.columns stmt.columns) (λ cells. list_all (cell_within 0) cells) (λ cells is. group_inside d.columns stmt.columns cells is) stmt.groups (each_of (GroupFits d.columns stmt.columns) stmt.groups fits.groups))

  insert_kinds : (stmt : InsertStmt) → InsertFitsTable d stmt → statement_fits d.columns (Insert stmt) ≡ true
  insert_kinds stmt fits =
      all_pass (GroupFits d.columns stmt.columns) (λ cells. group_fits d.columns stmt.columns cells) (λ cells is. group_passes d.columns stmt.columns cells is) stmt.groups (each_of (GroupFits d.columns stmt.columns) stmt.groups fits.groups)

  update_names : (stmt : UpdateStmt) → UpdateFitsTable d stmt → statement_within (length d.columns) (Update stmt) ≡ true
  update_names stmt fits =
      let most = length d.columns in
      both_true (assigns_within most stmt.assigns) (rows_within most stmt.condition stmt.order)
      (all_pass (λ (a : Assign). CellFits d.columns d.columns a.column a.cell) (λ (a : Assign). nat_lt a.column most && cell_within most a.cell)
      (λ a is. both_true (nat_lt a.column most) (cell_within most a.cell) (lt-ltb a.column most (cell_place d.columns d.columns a.column a.cell is)) (cell_inside d.columns d.columns a.column a.cell is))
      stmt.assigns (each_of (λ (a : Assign). CellFits d.columns d.columns a.column a.cell) stmt.assigns fits.assigns))
      (rows_pass stmt.condition stmt.order fits.rows)

  update_kinds : (stmt : UpdateStmt) → UpdateFitsTable d stmt → statement_fits d.columns (Update stmt) ≡ true
  update_kinds stmt fits =
      both_true (list_all (λ (a : Assign). cell_fits d.columns d.columns a.column a.cell) stmt.assigns) (condition_fits d.columns stmt.condition)
      (all_pass (λ (a : Assign). CellFits d.columns d.columns a.column a.cell) (λ (a : Assign). cell_fits d.columns d.columns a.column a.cell)
      (λ a is. cell_passes d.columns d.columns a.column a.cell is)
      stmt.assigns (each_of (λ (a : Assign). CellFits d.columns d.columns a.column a.cell) stmt.assigns fits.assigns))
      (condition_passes d.columns stmt.condition fits.rows.met)

-- What a line is read as, and that nothing of it is refused.
record IsLine (schema : Schema) (st : Statement) : Type 0 where
  bare : Bare (spelled schema st)
  read : s.statement schema (spelled schema st) ≡ Some (st, [])
  names : names_stand schema st ≡ true
  kinds : kinds_fit schema st ≡ true

-- The same, from what holds of its table.
line : (schema : Schema) (st : Statement) (d : TableDef) → slice_get schema.tables (table_of st) ≡ Some d → (its : TokenKind) (p : List ℕ) (y : Input) → IsToken its p → t.statement (columns_of schema (table_of st)) (t.table_name (Some d)) st [] ≡ t.word p y
    → s.statement schema (t.statement (columns_of schema (table_of st)) (t.table_name (Some d)) st []) ≡ Some (st, []) → statement_within (length d.columns) st ≡ true → statement_fits d.columns st ≡ true → IsLine schema st
line schema st d at its p y token begins read names kinds =
    let same : spelled schema st ≡ t.statement (columns_of schema (table_of st)) (t.table_name (Some d)) st [] = ap (λ o. t.statement (columns_of schema (table_of st)) (t.table_name o) st []) at in
    record {
      bare = subst Bare (sym (same ∙ begins)) (token.bare y);
      read = ap (s.statement schema) same ∙ read;
      names = (let e : names_stand schema st ≡ statement_within (length d.columns) st = rw at refl in e ∙ names);
      kinds = subst (λ cs. statement_fits cs st ≡ true) (sym (ap columns_in at)) kinds;
    }

lines : (schema : Schema) (st : Statement) → IsValid schema → StatementFits schema st → StatementHasText st → IsLine schema st
lines schema (Select spec) valid fits has = go (slice_get schema.tables spec.table) refl fits where
  go : (o : Option TableDef) → slice_get schema.tables spec.table ≡ o → IsSomeAnd o (λ t. SelectFitsTable t spec) → IsLine schema (Select spec)
  go None at is = absurd is
  go (Some d) at is =
      line schema (Select spec) d at k.Select (codes "SELECT") _ select_token refl
      (select_line schema d spec.table valid at spec is has.0 has.1 has.2) (select_names schema d spec.table valid at spec is) (select_kinds schema d spec.table valid at spec is)
lines schema (Insert stmt) valid fits has = go (slice_get schema.tables stmt.table) refl fits where
  go : (o : Option TableDef) → slice_get schema.tables stmt.table ≡ o → IsSomeAnd o (λ t. InsertFitsTable t stmt) → IsLine schema (Insert stmt)
  go None at is = absurd is
  go (Some d) at is =
      line schema (Insert stmt) d at k.Insert (codes "INSERT") _ insert_token refl
      (insert_line schema d stmt.table valid at stmt is has.0 has.1) (insert_names schema d stmt.table valid at stmt is) (insert_kinds schema d stmt.table valid at stmt is)
lines schema (Update stmt) valid fits has = go (slice_get schema.tables stmt.table) refl fits where
  go : (o : Option TableDef) → slice_get schema.tables stmt.table ≡ o → IsSomeAnd o (λ t. UpdateFitsTable t stmt) → IsLine schema (Update stmt)
  go None at is = absurd is
  go (Some d) at is =
      line schema (Update stmt) d at k.Update (codes "UPDATE") _ update_token refl
      (update_line schema d stmt.table valid at stmt is has.0 has.1 has.2) (update_names schema d stmt.table valid at stmt is) (update_kinds schema d stmt.table valid at stmt is)
lines schema (Delete stmt) valid fits has = go (slice_get schema.tables stmt.table) refl fits where
  go : (o : Option TableDef) → slice_get schema.tables stmt.table ≡ o → IsSomeAnd o (λ t. DeleteFitsTable t stmt) → IsLine schema (Delete stmt)
  go None at is = absurd is
  go (Some d) at is =
      line schema (Delete stmt) d at k.Delete (codes "DELETE") _ delete_token refl
      (delete_line schema d stmt.table valid at stmt is has.0 has.1) (rows_pass schema d stmt.table valid at stmt.condition stmt.order is) (condition_passes d.columns stmt.condition is.met)

-- What is spelled is read.
pub spelled_is_read : (schema : Schema) (st : Statement) → IsValid schema → StatementFits schema st → StatementHasText st → parse_of schema (spelled schema st) ≡ Ok st
unfolding parse_of
spelled_is_read schema st valid fits has =
    let it = lines schema st valid fits has in
    ap (λ i. judged schema (s.statement schema i)) it.bare
    ∙ ap (judged schema) it.read
    ∙ ap (λ b. if b then (if kinds_fit schema st then Ok st else Err refusals.WrongKind) else Err refusals.Name) it.names
    ∙ ap (λ b. if b then Ok st else Err refusals.WrongKind) it.kinds
