-- Statements, as they are spelled, are read.
use Rattle.std.proofs.Common.{◌≡◌, ℕ, zero, suc, ◌<◌, ◌≤◌, Bool, true, List, [], ◌∷◌, length, map, Option, Some, refl, ap, sym, subst, ◌∙◌, arith}
use Rattle.std.specs.Prelude.{nat_eq, if◌then◌else◌, codes, slice_get, IfSome, ⊤}
use Rattle.std.specs.List.{AllByRecursion}
use Rattle.row_types.specs.declared.columns.Column.{Column}
use Rattle.row_types.specs.declared.tables.TableDef.{TableDef}
use Rattle.row_types.specs.declared.tables.Schema.{Schema}
use Rattle.row_types.specs.Valid.{AreColumns, IsTable, IsValid}
use Rattle.sql_value.specs.declared.exprs.Expr.{Expr}
use Rattle.sql_value.specs.declared.kinds.ExprKind.TheVariants.{Condition}
use Rattle.sql_value.specs.declared.orders.OrderKey.{OrderKey}
use Rattle.sql_value.specs.declared.changes.Cell.{Cell}
use Rattle.sql_value.specs.declared.changes.Assign.{Assign}
use Rattle.sql_value.specs.declared.statements.SelectSpec.{SelectSpec}
use Rattle.sql_value.specs.declared.statements.InsertStmt.{InsertStmt}
use Rattle.sql_value.specs.declared.statements.UpdateStmt.{UpdateStmt}
use Rattle.sql_value.specs.declared.statements.DeleteStmt.{DeleteStmt}
use Rattle.sql_value.specs.Kinds.{kind_of}
use Rattle.sql_value.specs.Fits.{IsValue, CellFits, GroupFits}
use Rattle.sql_parse.specs.declared.token_kinds.TokenKind.TheVariants as k
use Rattle.sql_parse.specs.Names.{columns_in, columns_of}
use Rattle.sql_parse.specs.Input.{Input, Parser, ◌>>=◌, ◌>>◌, pure, refuse, eat, expect}
use Rattle.sql_parse.specs.Statements as s
use Rattle.sql_parse.specs.Spelling as t
use Rattle.sql_parse.specs.Spelling.{Front, ◌<+>◌, spell, quoted, parens, commas, HasText, CellHasText}
use Rattle.sql_parse.specs.Lex.{same_kind}
use Rattle.sql_parse.proofs.Cases.{all_get}
use Rattle.sql_parse.proofs.Pieces.{Bare, kind_of_word, next_of_word, eats_word, eats_none, expects_word, sees_other}
use Rattle.sql_parse.proofs.Fixed.{from_token, open_token, close_token, equal_token, into_token, values_token, set_token}
use Rattle.sql_parse.proofs.Literals.{quoted_token}
use Rattle.sql_parse.proofs.Grouping.{bind, IsEnd, at_comma, at_close, at_from}
use Rattle.sql_parse.proofs.Fronts.{Ahead, length_word, front_both, front_parens, front_word}
use Rattle.sql_parse.proofs.Series.{IsItem, all_read, all_front}
use Rattle.sql_parse.proofs.RowsAgain.{table_read, rest_end, rest_ends, not_next, page_rest, count_rest, order_rest, filter_rest, cut_kind, order_kind, filter_kind, cut_no_order, order_no_where, page_read, count_read, filter_read, order_read, column_front, column_read}
use Rattle.sql_parse.proofs.CellsAgain.{value_gives, cell_place, said, value_item, cell_item}

value_items : (columns : List Column) → AreColumns columns → (es : List Expr) → AllByRecursion (λ e. IsValue (kind_of columns e)) es → AllByRecursion (HasText 100) es → AllByRecursion (IsItem (s.value columns 0) (t.expression columns) IsEnd at_comma) es
value_items columns are [] values has = tt
value_items columns are (e ∷ es) values has =
    (value_item columns are e (said columns are columns (omega arith) e (value_gives (kind_of columns e) values.0) has.0.written) has.0, value_items columns are es values.1 has.1)

cell_items : (columns : List Column) → AreColumns columns → (places : List ℕ) (cells : List Cell) → GroupFits columns places cells → AllByRecursion (CellHasText 99) cells → AllByRecursion (IsItem (s.cell columns 1) (t.cell columns) IsEnd at_comma) cells
cell_items columns are [] [] fits has = tt
cell_items columns are [] (c ∷ cs) fits has = absurd fits
cell_items columns are (p ∷ ps) [] fits has = tt
cell_items columns are (p ∷ ps) (c ∷ cs) fits has =
    (cell_item columns are [] (omega arith) 1 99 refl p c fits.0 has.0, cell_items columns are ps cs fits.1 has.1)

-- A group has as many cells as there are columns.
group_length : (columns : List Column) (places : List ℕ) (cells : List Cell) → GroupFits columns places cells → length cells ≡ length places
group_length columns [] [] fits = refl
group_length columns [] (c ∷ cs) fits = absurd fits
group_length columns (p ∷ ps) [] fits = absurd fits
group_length columns (p ∷ ps) (c ∷ cs) fits = ap suc (group_length columns ps cs fits.1)

module _ (columns : List Column) (are : AreColumns columns) where
  place_item : (place : ℕ) → place < length columns → IsItem (s.column columns) (t.column columns) (λ _. ⊤) tt place
  place_item place lt = record { front = column_front columns are place lt; read = λ z bare _. column_read columns are place lt z bare }

  place_items : (places : List ℕ) → AllByRecursion (λ place. place < length columns) places → AllByRecursion (IsItem (s.column columns) (t.column columns) (λ _. ⊤) tt) places
  place_items [] each = tt
  place_items (p ∷ ps) each = (place_item p each.0, place_items ps each.1)

  group_item : (places : List ℕ) → 1 ≤ length places → (cells : List Cell) → GroupFits columns places cells → AllByRecursion (CellHasText 99) cells → IsItem (s.wide_group columns true (length places)) (t.group columns) (λ _. ⊤) tt cells
  unfolding s.wide_group s.group same_kind
  group_item places some cells fits has =
      let wide = group_length columns places cells fits in
      let some_cell : 1 ≤ length cells = omega (arith, some, wide) in
      let items = cell_items columns are places cells fits has in
      let text = commas (map (t.cell columns) cells) in
      let front = all_front (s.cell columns 1) (t.cell columns) IsEnd at_comma cells some_cell items in
      record {
        front = front_parens text front;
        read = λ z bare _.
            let shut = spell ")" z in
            let asked : Parser (List Cell) = if nat_eq (length cells) (length places) then pure cells else refuse in
            bind (λ found. if nat_eq (length found) (length places) then pure found else refuse) {o = s.group columns (t.group columns cells z)}
            (bind _ {o = expect k.Open (spell "(" (text shut))} (expects_word k.Open (codes "(") open_token (text shut) (front.bare shut (close_token.bare z)))
            (bind _ {o = s.cells columns (text shut)} (all_read (s.cell columns 1) (t.cell columns) IsEnd at_comma cells some_cell items shut (close_token.bare z) (subst IsEnd (sym (kind_of_word k.Close (codes ")") close_token z)) at_close) (sees_other k.Close k.Comma (codes ")") close_token refl z))
            (bind (λ _. pure cells) {o = expect k.Close shut} (expects_word k.Close (codes ")") close_token z bare) refl)))
            (ap (λ b. (if b then pure cells else refuse) z) (let e : nat_eq (length cells) (length places) ≡ true = grind (arith, wide) in e));
      }

  group_items : (places : List ℕ) → 1 ≤ length places → (groups : List (List Cell)) → AllByRecursion (GroupFits columns places) groups → AllByRecursion (AllByRecursion (CellHasText 99)) groups → AllByRecursion (IsItem (s.wide_group columns true (length places)) (t.group columns) (λ _. ⊤) tt) groups
  group_items places some [] fits has = tt
  group_items places some (g ∷ gs) fits has = (group_item places some g fits.0 has.0, group_items places some gs fits.1 has.1)

  assign_item : (a : Assign) → a.column < length columns → CellFits columns columns a.column a.cell → CellHasText 100 a.cell → IsItem (s.assign columns) (t.assign columns) IsEnd at_comma a
  unfolding s.assign
  assign_item a lt fits has =
      let item = cell_item columns are columns (omega arith) 0 100 refl a.column a.cell fits has in
      record {
        front = front_both (t.column columns a.column) (spell "=" <+> t.cell columns a.cell) (column_front columns are a.column lt)
            (front_both (spell "=") (t.cell columns a.cell) (front_word k.Equal (codes "=") equal_token (λ schema more i. refl)) item.front);
        read = λ z bare ends.
            let y = t.cell columns a.cell z in
            bind _ {o = s.column columns (t.column columns a.column (spell "=" y))} (column_read columns are a.column lt (spell "=" y) (equal_token.bare y))
            (bind _ {o = expect k.Equal (spell "=" y)} (expects_word k.Equal (codes "=") equal_token y (item.front.bare z bare))
            (bind (λ made. pure (record { column = a.column; cell = made })) {o = s.cell columns 0 y} (item.read z bare ends) refl));
      }

  assign_items : (xs : List Assign) → AllByRecursion (λ (a : Assign). CellFits columns columns a.column a.cell) xs → AllByRecursion (λ (a : Assign). CellHasText 100 a.cell) xs → AllByRecursion (IsItem (s.assign columns) (t.assign columns) IsEnd at_comma) xs
  assign_items [] fits has = tt
  assign_items (a ∷ xs) fits has = (assign_item a (cell_place columns columns a.column a.cell fits.0) fits.0 has.0, assign_items xs fits.1 has.1)

-- A table that the schema has, by its number.
module _ (schema : Schema) (d : TableDef) (n : ℕ) (valid : IsValid schema) (at : slice_get schema.tables n ≡ Some d) where
  is_table : IsTable d
  is_table = all_get IsTable schema.tables n d valid.tables at

  pub has_columns : AreColumns (columns_of schema n)
  has_columns = subst AreColumns (sym (ap columns_in at)) is_table.columns

  pub named_bare : (z : Input) → Bare (t.table_name (Some d) z)
  named_bare z = (quoted_token d.db is_table.db).bare (spell "." (quoted d.name z))

  named_read : (z : Input) → Bare z → s.table schema (t.table_name (Some d) z) ≡ Some (n, z)
  named_read = table_read schema d n valid is_table at

  -- Behind the items of a SELECT.
  from_ahead : (z : Input) → Bare z → Ahead schema (Some (n, z)) (spell "FROM" (t.table_name (Some d) z))
  unfolding s.table_ahead_from
  from_ahead z bare zero le = absurd (omega (arith, le, length_word (codes "FROM") (t.table_name (Some d) z)))
  from_ahead z bare (suc m) le =
      let y = t.table_name (Some d) z in
      ap (λ x. s.ahead_by schema (s.table_ahead_from schema m) x (spell "FROM" y)) (kind_of_word k.From (codes "FROM") from_token y)
      ∙ ap (s.table schema) (next_of_word k.From (codes "FROM") from_token y (named_bare z))
      ∙ named_read z bare

  -- Which rows: a condition of the table's columns, an order by them.
  pub record AreRows (condition : Option Expr) (order : List OrderKey) : Type 0 where
    pub met : IfSome condition (λ e. kind_of (columns_of schema n) e ≡ Some Condition)
    pub sorted : AllByRecursion (λ (key : OrderKey). key.column < length (columns_of schema n)) order
    pub text : IfSome condition (HasText 100)

  items_read : (es : List Expr) → 1 ≤ length es → AllByRecursion (λ e. IsValue (kind_of (columns_of schema n) e)) es → AllByRecursion (HasText 100) es → (z : Input) → s.items (columns_of schema n) (commas (map (t.expression (columns_of schema n)) es) (spell "FROM" z)) ≡ Some (es, spell "FROM" z)
  unfolding s.items same_kind
  items_read [] some values has z = absurd (omega (arith, some))
  items_read (e ∷ es) some values has z =
      let columns = columns_of schema n in
      let i = commas (map (t.expression columns) (e ∷ es)) (spell "FROM" z) in
      let first = said columns has_columns columns (omega arith) e (value_gives (kind_of columns e) values.0) has.0.written in
      let rest = t.more (map (t.expression columns) es) (spell "FROM" z) in
      bind (s.items_by columns) {o = eat k.Star i} (eats_none k.Star i (first.told.plain rest).star)
      (all_read (s.value columns 0) (t.expression columns) IsEnd at_comma (e ∷ es) some (value_items columns has_columns (e ∷ es) values has) (spell "FROM" z) (from_token.bare z)
      (subst IsEnd (sym (kind_of_word k.From (codes "FROM") from_token z)) at_from) (sees_other k.From k.Comma (codes "FROM") from_token refl z))

  pub select_bare : (spec : SelectSpec) → 1 ≤ length spec.items → AllByRecursion (λ e. IsValue (kind_of (columns_of schema n) e)) spec.items → AllByRecursion (HasText 100) spec.items → (z : Input) → Bare z → Bare (commas (map (t.expression (columns_of schema n)) spec.items) z)
  select_bare spec some values has z bare =
      (all_front (s.value (columns_of schema n) 0) (t.expression (columns_of schema n)) IsEnd at_comma spec.items some (value_items (columns_of schema n) has_columns spec.items values has)).bare z bare

  pub select_read : (spec : SelectSpec) → 1 ≤ length spec.items → AllByRecursion (λ e. IsValue (kind_of (columns_of schema n) e)) spec.items → AllByRecursion (HasText 100) spec.items → AreRows spec.condition spec.order → IfSome spec.limit t.IsPage
      → s.select schema ((commas (map (t.expression (columns_of schema n)) spec.items) <+> spell "FROM" <+> t.table_name (Some d) <+> t.filter (columns_of schema n) spec.condition <+> t.order (columns_of schema n) spec.order <+> t.page spec.limit) [])
      ≡ Some (record { table = n; items = spec.items; condition = spec.condition; order = spec.order; limit = spec.limit }, [])
  unfolding s.select s.table_ahead s.select_of
  select_read spec some values has rows cut =
      let columns = columns_of schema n in
      let z3 = t.page spec.limit [] in
      let z2 = t.order columns spec.order z3 in
      let z1 = t.filter columns spec.condition z2 in
      let z0 = t.table_name (Some d) z1 in
      let rest3 = page_rest spec.limit in
      let rest2 = order_rest columns spec.order z3 (cut_kind spec.limit) rest3 in
      let rest1 = filter_rest columns spec.condition z2 (order_kind spec.order (cut_kind spec.limit)) rest2 in
      let items = value_items columns has_columns spec.items values has in
      let i = commas (map (t.expression columns) spec.items) (spell "FROM" z0) in
      let front = all_front (s.value columns 0) (t.expression columns) IsEnd at_comma spec.items some items in
      let ahead = front.passes schema (Some (n, z1)) (spell "FROM" z0) (from_token.bare z0) (from_ahead z1 rest1.bare) in
      bind (s.select_of schema) {o = s.table_ahead schema i} (ap (s.found_ahead i) (ahead (length i) (omega arith)))
      (bind _ {o = s.items columns i} (items_read spec.items some values has z0)
      (bind _ {o = expect k.From (spell "FROM" z0)} (expects_word k.From (codes "FROM") from_token z0 (named_bare z1))
      (bind _ {o = s.table schema z0} (named_read z1 rest1.bare)
      (bind _ {o = s.filter columns z1} (filter_read columns has_columns spec.condition rows.met rows.text z2 (order_kind spec.order (cut_kind spec.limit)) rest2 (order_no_where spec.order spec.limit))
      (bind _ {o = s.order columns z2} (order_read columns has_columns spec.order rows.sorted z3 (cut_kind spec.limit) rest3 (cut_no_order spec.limit))
      (bind (λ cut. pure (record { table = n; items = spec.items; condition = spec.condition; order = spec.order; limit = cut })) {o = s.page z3} (page_read spec.limit cut) refl))))))

  pub delete_read : (stmt : DeleteStmt) → AreRows stmt.condition stmt.order → IfSome stmt.limit t.IsCount
      → s.delete schema ((spell "FROM" <+> t.table_name (Some d) <+> t.filter (columns_of schema n) stmt.condition <+> t.order (columns_of schema n) stmt.order <+> t.count stmt.limit) [])
      ≡ Some (record { table = n; condition = stmt.condition; order = stmt.order; limit = stmt.limit }, [])
  unfolding s.delete
  delete_read stmt rows cut =
      let columns = columns_of schema n in
      let z3 = t.count stmt.limit [] in
      let z2 = t.order columns stmt.order z3 in
      let z1 = t.filter columns stmt.condition z2 in
      let z0 = t.table_name (Some d) z1 in
      let rest3 = count_rest stmt.limit in
      let rest2 = order_rest columns stmt.order z3 (cut_kind stmt.limit) rest3 in
      let rest1 = filter_rest columns stmt.condition z2 (order_kind stmt.order (cut_kind stmt.limit)) rest2 in
      bind _ {o = expect k.From (spell "FROM" z0)} (expects_word k.From (codes "FROM") from_token z0 (named_bare z1))
      (bind _ {o = s.table schema z0} (named_read z1 rest1.bare)
      (bind _ {o = s.filter columns z1} (filter_read columns has_columns stmt.condition rows.met rows.text z2 (order_kind stmt.order (cut_kind stmt.limit)) rest2 (order_no_where stmt.order stmt.limit))
      (bind _ {o = s.order columns z2} (order_read columns has_columns stmt.order rows.sorted z3 (cut_kind stmt.limit) rest3 (cut_no_order stmt.limit))
      (bind (λ cut. pure (record { table = n; condition = stmt.condition; order = stmt.order; limit = cut })) {o = s.count z3} (count_read stmt.limit cut) refl))))

  pub update_read : (stmt : UpdateStmt) → 1 ≤ length stmt.assigns → AllByRecursion (λ (a : Assign). CellFits (columns_of schema n) (columns_of schema n) a.column a.cell) stmt.assigns → AllByRecursion (λ (a : Assign). CellHasText 100 a.cell) stmt.assigns → AreRows stmt.condition stmt.order → IfSome stmt.limit t.IsCount
      → s.update schema ((t.table_name (Some d) <+> spell "SET" <+> commas (map (t.assign (columns_of schema n)) stmt.assigns) <+> t.filter (columns_of schema n) stmt.condition <+> t.order (columns_of schema n) stmt.order <+> t.count stmt.limit) [])
      ≡ Some (record { table = n; assigns = stmt.assigns; condition = stmt.condition; order = stmt.order; limit = stmt.limit }, [])
  unfolding s.update
  update_read stmt some fits has rows cut =
      let columns = columns_of schema n in
      let z3 = t.count stmt.limit [] in
      let z2 = t.order columns stmt.order z3 in
      let z1 = t.filter columns stmt.condition z2 in
      let y = commas (map (t.assign columns) stmt.assigns) z1 in
      let set = spell "SET" y in
      let its1 = filter_kind stmt.condition (order_kind stmt.order (cut_kind stmt.limit)) in
      let rest3 = count_rest stmt.limit in
      let rest2 = order_rest columns stmt.order z3 (cut_kind stmt.limit) rest3 in
      let rest1 = filter_rest columns stmt.condition z2 (order_kind stmt.order (cut_kind stmt.limit)) rest2 in
      let items = assign_items columns has_columns stmt.assigns fits has in
      let front = all_front (s.assign columns) (t.assign columns) IsEnd at_comma stmt.assigns some items in
      bind _ {o = s.table schema (t.table_name (Some d) set)} (named_read set (set_token.bare y))
      (bind _ {o = expect k.Set set} (expects_word k.Set (codes "SET") set_token y (front.bare z1 rest1.bare))
      (bind _ {o = s.assigns columns y} (all_read (s.assign columns) (t.assign columns) IsEnd at_comma stmt.assigns some items z1 rest1.bare (rest_ends z1 its1 rest1) (not_next z1 its1 k.Comma rest1 rest1.comma))
      (bind _ {o = s.filter columns z1} (filter_read columns has_columns stmt.condition rows.met rows.text z2 (order_kind stmt.order (cut_kind stmt.limit)) rest2 (order_no_where stmt.order stmt.limit))
      (bind _ {o = s.order columns z2} (order_read columns has_columns stmt.order rows.sorted z3 (cut_kind stmt.limit) rest3 (cut_no_order stmt.limit))
      (bind (λ cut. pure (record { table = n; assigns = stmt.assigns; condition = stmt.condition; order = stmt.order; limit = cut })) {o = s.count z3} (count_read stmt.limit cut) refl)))))

  pub insert_read : (stmt : InsertStmt) → 1 ≤ length stmt.columns → AllByRecursion (λ place. place < length (columns_of schema n)) stmt.columns → 1 ≤ length stmt.groups → AllByRecursion (GroupFits (columns_of schema n) stmt.columns) stmt.groups → AllByRecursion (AllByRecursion (CellHasText 99)) stmt.groups
      → s.insert schema ((spell "INTO" <+> t.table_name (Some d) <+> parens (commas (map (t.column (columns_of schema n)) stmt.columns)) <+> spell "VALUES" <+> commas (map (t.group (columns_of schema n)) stmt.groups)) [])
      ≡ Some (record { table = n; columns = stmt.columns; groups = stmt.groups }, [])
  unfolding s.insert s.insert_of same_kind
  insert_read stmt some_place within some fits has =
      let columns = columns_of schema n in
      let groups = group_items columns has_columns stmt.columns some_place stmt.groups fits has in
      let made : List ℕ → List (List Cell) → Parser InsertStmt = λ places found. pure (record { table = n; columns = places; groups = found }) in
      let behind : Bool → List ℕ → Parser InsertStmt = λ b places. expect k.Values >> (s.groups columns (s.is_counted schema n b) (length places) >>= made places) in
      let listed : Bool → Parser InsertStmt = λ b. s.columns_by columns b >>= behind b in
      let places = place_items columns has_columns stmt.columns within in
      let z = commas (map (t.group columns) stmt.groups) [] in
      let told = spell "VALUES" z in
      let shut = spell ")" told in
      let y = commas (map (t.column columns) stmt.columns) shut in
      let list = spell "(" y in
      let i = t.table_name (Some d) list in
      let bare_z : Bare z = (all_front (s.wide_group columns true (length stmt.columns)) (t.group columns) (λ _. ⊤) tt stmt.groups some groups).bare [] refl in
      let bare_y : Bare y = (all_front (s.column columns) (t.column columns) (λ _. ⊤) tt stmt.columns some_place places).bare shut (close_token.bare told) in
      bind (λ _. s.table schema >>= s.insert_of schema) {o = eat k.Into (spell "INTO" i)} (eats_word k.Into (codes "INTO") into_token i (named_bare list))
      (bind (s.insert_of schema) {o = s.table schema i} (named_read list (open_token.bare y))
      (bind listed {o = eat k.Open list} (eats_word k.Open (codes "(") open_token y bare_y)
      (bind (behind true) {o = s.columns_by columns true y}
      (bind _ {o = s.column_list columns y} (all_read (s.column columns) (t.column columns) (λ _. ⊤) tt stmt.columns some_place places shut (close_token.bare told) tt (sees_other k.Close k.Comma (codes ")") close_token refl told))
      (bind (λ _. pure stmt.columns) {o = expect k.Close shut} (expects_word k.Close (codes ")") close_token told (values_token.bare z)) refl))
      (bind (λ _. s.groups columns true (length stmt.columns) >>= made stmt.columns) {o = expect k.Values told} (expects_word k.Values (codes "VALUES") values_token z bare_z)
      (bind (made stmt.columns) {o = s.groups columns true (length stmt.columns) z} (all_read (s.wide_group columns true (length stmt.columns)) (t.group columns) (λ _. ⊤) tt stmt.groups some groups [] refl tt (not_next [] k.End k.Comma rest_end refl)) refl)))))
