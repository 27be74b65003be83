-- What an id is opened for fits the schema, where the schema is valid.
use Rattle.std.proofs.Common.{◌≡◌, ℕ, zero, suc, ◌<◌, true, false, List, [], ◌∷◌, ◌++◌, length, map, Option, Some, Ok, eqb, refl, sym, ap, subst, arith}
use Rattle.std.specs.Prelude.{slice_get, None, option_map, not, ◌||◌, nat_eq, nat_lt, ◌==◌}
use Rattle.std.specs.List.{list_any, list_all}
use Rattle.std.proofs.lemmas.Option.{none-some}
use Rattle.std.proofs.lemmas.Bool.{ltb-true, eqb-false, ne_eqb}
use Rattle.std.proofs.lemmas.List.Elements.{All-from_recursion}
use Rattle.hs_token.specs.declared.tokens.Token.{Token}
use Rattle.hs_token.specs.declared.tokens.Token.TheVariants as tokens
use Rattle.row_types.specs.declared.columns.Column.{Column}
use Rattle.row_types.specs.declared.indexes.IndexDef.{IndexDef}
use Rattle.row_types.specs.declared.tables.TableDef.{TableDef}
use Rattle.row_types.specs.declared.tables.Schema.{Schema}
use Rattle.row_types.specs.Valid.{are_distinct, IsIndex, IsTable, IsValid}
use Rattle.request_types.specs.declared.codes.Code.TheVariants as refused
use Rattle.open_index.specs.declared.handles.Handle.{Handle}
use Rattle.open_index.specs.declared.handles.OpenColumn.{OpenColumn}
use Rattle.request_types.specs.Refusal.{or_refuse}
use Rattle.request_types.specs.Names.{table_named, index_named, column_named}
use Rattle.open_index.specs.Tokens.{u32_at}
use Rattle.open_index.specs.Open.{numbered, table_at, index_at, column_at, names_of, is_listed, column_onto, columns_onto, columns_of, part_of, filter_columns_of, lists_of, handle_by, handle_of, has_room, open_of}
use Rattle.open_index.specs.Find.{numbers}
use Rattle.open_index.specs.Fits.{IsColumnOf, HandleFitsTable, HandleFits}
use Rattle.open_index.proofs.Cases.{bind_ok, guard_ok, need_ok, refuse_ok, ok_same, some_same, and_true, or_false, not_true, some_at, all_get, all_push}
use Rattle.open_index.proofs.ColumnFits.{AreOf}

-- What was found by its number stands there.
numbered_is : {A : Type 0} (xs : List A) (o : Option ℕ) (t : ℕ × A) → numbered xs o ≡ Some t → slice_get xs t.0 ≡ Some t.1
numbered_is {A = A} xs None t e = absurd (none-some t e)
numbered_is {A = A} xs (Some n) t e = item (slice_get xs n) refl e where
  item : (found : Option A) → slice_get xs n ≡ found → option_map (λ (x : A). (n, x)) found ≡ Some t → slice_get xs t.0 ≡ Some t.1
  item None at is = absurd (none-some t is)
  item (Some x) at is = subst (λ (u : ℕ × A). slice_get xs u.0 ≡ Some u.1) (some_same (n, x) t is) at

table_is : (tables : List TableDef) (db name : Token) (t : ℕ × TableDef) → table_at tables db name ≡ Some t → slice_get tables t.0 ≡ Some t.1
table_is tables tokens.Null name t e = absurd (none-some t e)
table_is tables (tokens.Text db) tokens.Null t e = absurd (none-some t e)
table_is tables (tokens.Text db) (tokens.Text name) t e = numbered_is tables (table_named tables db name) t e

index_is : (indexes : List IndexDef) (name : Token) (i : ℕ × IndexDef) → index_at indexes name ≡ Some i → slice_get indexes i.0 ≡ Some i.1
index_is indexes tokens.Null i e = absurd (none-some i e)
index_is indexes (tokens.Text name) i e = numbered_is indexes (index_named indexes name) i e

column_is : (columns : List Column) (name : List ℕ) (c : OpenColumn) → column_at columns name ≡ Some c → IsColumnOf columns c
column_is columns name c e = item (numbered columns (column_named columns name)) refl e where
  as_open : ℕ × Column → OpenColumn
  as_open d = record { number = d.0; kind = (d.1).kind }

  item : (found : Option (ℕ × Column)) → numbered columns (column_named columns name) ≡ found → option_map as_open found ≡ Some c → IsColumnOf columns c
  item None at is = absurd (none-some c is)
  item (Some d) at is = subst (IsColumnOf columns) (some_same (as_open d) c is) (some_at (λ (x : Column). x.kind ≡ (d.1).kind) (slice_get columns d.0) d.1 (numbered_is columns (column_named columns name) d at) refl)

-- Columns of the table, none of them twice.
pub record AreListed (columns : List Column) (found : List OpenColumn) : Type 0 where
  pub all : AreOf columns found
  pub once : are_distinct nat_eq (numbers found) ≡ true

-- A number that isn't the new one, among those of a list with it behind.
none_more : (found : List OpenColumn) (c : OpenColumn) (n : ℕ) → list_any (λ y. nat_eq y n) (numbers found) ≡ false → eqb c.number n ≡ false → list_any (λ y. nat_eq y n) (numbers (found ++ c ∷ [])) ≡ false
none_more [] c n none new = rw new refl
none_more (d ∷ ds) c n none new =
    let both = or_false (eqb d.number n) (list_any (λ y. nat_eq y n) (numbers ds)) none in
    rw (both.0, none_more ds c n both.1 new) refl

-- One more number than those of a list that has it not.
distinct_push : (found : List OpenColumn) (c : OpenColumn) → are_distinct nat_eq (numbers found) ≡ true → is_listed found c.number ≡ false → are_distinct nat_eq (numbers (found ++ c ∷ [])) ≡ true
distinct_push [] c once none = refl
distinct_push (d ∷ ds) c once none =
    let before = and_true (not (list_any (λ y. nat_eq y d.number) (numbers ds))) (are_distinct nat_eq (numbers ds)) once in
    let other = or_false (eqb d.number c.number) (is_listed ds c.number) none in
    let differ : eqb c.number d.number ≡ false = ne_eqb c.number d.number (λ same. eqb-false d.number c.number other.0 (sym same)) in
    rw (none_more ds c d.number (not_true _ before.0) differ, distinct_push ds c before.1 other.1) refl

onto_listed : (columns : List Column) (found more : List OpenColumn) (name : List ℕ) → AreListed columns found → column_onto columns found name ≡ Ok more → AreListed columns more
unfolding column_onto
onto_listed columns found more name listed e =
    let c = bind_ok (or_refuse refused.Column (column_at columns name)) _ more e in
    let test = guard_ok (is_listed found (c.0).number) refused.Column (Ok (found ++ c.0 ∷ [])) more c.2 in
    let is : AreListed columns (found ++ c.0 ∷ []) = record {
      all = all_push (IsColumnOf columns) found c.0 listed.all (column_is columns name c.0 (refuse_ok refused.Column _ c.0 c.1));
      once = distinct_push found c.0 listed.once test.0;
    } in
    subst (AreListed columns) (ok_same (found ++ c.0 ∷ []) more test.1) is

names_listed : (columns : List Column) (found more : List OpenColumn) (names : List (List ℕ)) → AreListed columns found → columns_onto columns found names ≡ Ok more → AreListed columns more
unfolding columns_onto
names_listed columns found more [] listed e = subst (AreListed columns) (ok_same found more e) listed
names_listed columns found more (name ∷ names) listed e =
    let next = bind_ok (column_onto columns found name) _ more e in
    names_listed columns next.0 more names (onto_listed columns found next.0 name listed next.1) next.2

list_listed : (columns : List Column) (t : Token) (found : List OpenColumn) → columns_of columns t ≡ Ok found → AreListed columns found
unfolding columns_of
list_listed columns tokens.Null found e = absurd cc
list_listed columns (tokens.Text text) found e = names_listed columns [] found (names_of text) (record { all = tt; once = refl }) e

filters_listed : (columns : List Column) (ts : List Token) (found : List OpenColumn) → filter_columns_of columns ts ≡ Ok found → AreOf columns found
unfolding filter_columns_of
filters_listed columns [] found e = subst (AreOf columns) (ok_same [] found e) tt
filters_listed columns (t ∷ ts) found e = (list_listed columns t found e).all

lists_fit : (columns : List Column) (ts : List Token) (lists : List OpenColumn × List OpenColumn) → lists_of columns ts ≡ Ok lists → AreListed columns lists.0 × AreOf columns lists.1
unfolding lists_of
lists_fit columns [] lists e = absurd cc
lists_fit columns (t ∷ ts) lists e =
    let listed = bind_ok (columns_of columns t) _ lists e in
    let filtered = bind_ok (filter_columns_of columns ts) _ lists listed.2 in
    subst (λ (l : List OpenColumn × List OpenColumn). AreListed columns l.0 × AreOf columns l.1) (ok_same (listed.0, filtered.0) lists filtered.2) (list_listed columns t listed.0 listed.1, filters_listed columns ts filtered.0 filtered.1)

-- The parts of a valid index are columns of its table.
part_fits : (columns : List Column) (number : ℕ) → number < length columns → IsColumnOf columns (part_of columns number)
part_fits [] number lt = absurd (omega (arith, lt))
part_fits (c ∷ cs) zero lt = refl
part_fits (c ∷ cs) (suc n) lt = part_fits cs n (omega (arith, lt))

parts_fit : (columns : List Column) (parts : List ℕ) → list_all (λ place. nat_lt place (length columns)) parts ≡ true → AreOf columns (map (part_of columns) parts)
parts_fit columns [] within = tt
parts_fit columns (n ∷ ns) within =
    let both = and_true (nat_lt n (length columns)) _ within in
    (part_fits columns n (ltb-true n (length columns) both.0), parts_fit columns ns both.1)

same_parts : (columns : List Column) (parts : List ℕ) → numbers (map (part_of columns) parts) ≡ parts
same_parts columns [] = refl
same_parts columns (n ∷ ns) = ap (λ (ms : List ℕ). n ∷ ms) (same_parts columns ns)

handle_fits : (schema : Schema) (db name index : Token) (lists : List Token) (h : Handle) → IsValid schema → handle_of schema db name index lists ≡ Ok h → HandleFits schema h
unfolding handle_of
handle_fits schema db name index lists h valid e =
    let t = bind_ok (or_refuse refused.Table (table_at schema.tables db name)) _ h e in
    let i = bind_ok (or_refuse refused.Index (index_at (t.0).1.indexes index)) _ h t.2 in
    let cs = bind_ok (lists_of (t.0).1.columns lists) _ h i.2 in
    let table = (t.0).1 in
    let at = table_is schema.tables db name t.0 (refuse_ok refused.Table _ t.0 t.1) in
    let is_table : IsTable table = all_get IsTable schema.tables (t.0).0 table valid.tables at in
    let place = index_is table.indexes index i.0 (refuse_ok refused.Index _ i.0 i.1) in
    let is_index : IsIndex table.columns (i.0).1 = all_get (IsIndex table.columns) table.indexes (i.0).0 (i.0).1 is_table.indexes.each place in
    let fit = lists_fit table.columns lists cs.0 cs.1 in
    let parts : List OpenColumn = map (part_of table.columns) ((i.0).1).parts in
    let made : Handle = handle_by t.0 i.0 cs.0 in
    let is : HandleFitsTable table made = record {
      index = some_at (λ (d : IndexDef). numbers parts ≡ d.parts) (slice_get table.indexes (i.0).0) (i.0).1 place (same_parts table.columns ((i.0).1).parts);
      parts = All-from_recursion (IsColumnOf table.columns) parts (parts_fit table.columns ((i.0).1).parts is_index.within);
      columns = All-from_recursion (IsColumnOf table.columns) (cs.0).0 (fit.0).all;
      once = (fit.0).once;
      filter_columns = All-from_recursion (IsColumnOf table.columns) (cs.0).1 fit.1;
    } in
    subst (HandleFits schema) {x = made} (ok_same made h cs.2) (some_at (λ (d : TableDef). HandleFitsTable d made) (slice_get schema.tables (t.0).0) table at is)

-- What an id will stand for fits the schema.
pub open_fits : (schema : Schema) (handles : List (ℕ × Handle)) (ts : List Token) (o : ℕ × Handle) → IsValid schema → open_of schema handles ts ≡ Ok o → HandleFits schema o.1
unfolding open_of
open_fits schema handles [] o valid e = absurd cc
open_fits schema handles (a ∷ []) o valid e = absurd cc
open_fits schema handles (a ∷ b ∷ []) o valid e = absurd cc
open_fits schema handles (a ∷ b ∷ c ∷ []) o valid e = absurd cc
open_fits schema handles (id ∷ db ∷ name ∷ index ∷ lists) o valid e =
    let five = need_ok (length lists == 1 || length lists == 2) refused.Args _ o e in
    let n = bind_ok (or_refuse refused.Args (u32_at id)) _ o five.1 in
    let h = bind_ok (handle_of schema db name index lists) _ o n.2 in
    let room = need_ok (has_room handles n.0) refused.Ids (Ok (n.0, h.0)) o h.2 in
    subst (λ (p : ℕ × Handle). HandleFits schema p.1) (ok_same (n.0, h.0) o room.1) (handle_fits schema db name index lists h.0 valid h.1)
