-- A request that was read on open ids that fit the schema fits it too.
use Rattle.std.proofs.Common.{◌≡◌, ℕ, zero, suc, ◌≤◌, ◌<◌, Bool, true, false, cond, List, [], ◌∷◌, length, take, Option, Some, None, Ok, refl, sym, ap, subst, arith, ◌∙◌}
use Rattle.std.specs.Prelude.{IfSome, IsSomeAnd, slice_get, not, nat_eq, ◌==◌}
use Rattle.std.specs.List.{All, AllByRecursion, list_any}
use Rattle.std.specs.BTreeMap.{is_at as is_key}
use Rattle.std.specs.Ordering.{nat_cmp}
use Rattle.std.proofs.lemmas.Bool.{eqb-true}
use Rattle.std.proofs.lemmas.List.{length-take-le, length-map}
use Rattle.std.proofs.lemmas.List.Elements.{All-map, All-weaker, All-from_recursion, recursion_from_All, All-take}
use Rattle.std.proofs.lemmas.Map.Views.{IfSome-lookup_from_All}
use Rattle.hs_token.specs.declared.tokens.Token.{Token}
use Rattle.request_types.specs.declared.ports.Port.{Port}
use Rattle.row_types.specs.declared.values.Value.{Value}
use Rattle.row_types.specs.declared.columns.Column.{Column}
use Rattle.row_types.specs.declared.indexes.IndexDef.{IndexDef}
use Rattle.row_types.specs.declared.tables.TableDef.{TableDef}
use Rattle.row_types.specs.declared.tables.Schema.{Schema}
use Rattle.row_types.specs.Valid.{are_distinct}
use Rattle.request_types.specs.declared.finds.FindOp.{FindOp}
use Rattle.request_types.specs.declared.finds.InSpec.{InSpec}
use Rattle.request_types.specs.declared.finds.FindSpec.{FindSpec}
use Rattle.request_types.specs.declared.filters.FilterSpec.{FilterSpec}
use Rattle.request_types.specs.declared.mods.ModSpec.{ModSpec}
use Rattle.request_types.specs.Fits.{IsOfKind, IsAt, AreAt, AreNumbers, ListFits, KeyFits, FindFitsTable, FindFits, ModFits}
use Rattle.request_types.specs.declared.codes.Code.TheVariants as refused
use Rattle.open_index.specs.declared.handles.Handle.{Handle}
use Rattle.open_index.specs.declared.handles.OpenColumn.{OpenColumn}
use Rattle.request_types.specs.declared.inserts.InsertSpec.{InsertSpec}
use Rattle.request_types.specs.declared.requests.Request.{Request}
use Rattle.request_types.specs.declared.requests.Request.TheVariants.{Insert}
use Rattle.request_types.specs.Refusal.{◌>>=◌, or_refuse}
use Rattle.open_index.specs.Values.{values_of}
use Rattle.open_index.specs.Open.{stands_for}
use Rattle.open_index.specs.Find.{numbers, key_at, limit_at, within_at, filters_at, mod_of, asked, found_by, find_op, find_of, is_reading, count_at}
use Rattle.open_index.specs.Insert.{rest_of, insert_of}
use Rattle.open_index.specs.Line.{operation_of, request_of}
use Rattle.open_index.specs.Fits.{IsColumnOf, HandleFitsTable, HandleFits, HandlesFit}
use Rattle.request_types.specs.Fits.{InsertFitsTable, InsertFits, RequestFits}
use Rattle.open_index.proofs.Cases.{bind_ok, guard_ok, need_ok, refuse_ok, ok_same, some_same, or_false, and_true, not_true, some_then, all_get}
use Rattle.open_index.proofs.ColumnFits.{AreOf, is_at, at_front, in_range}
use Rattle.open_index.proofs.ValueFits.{values_count, values_fit}
use Rattle.open_index.proofs.PartsFit.{FilterFits, IsKeyOf, IsListOf, key_fits, count_fits, within_fits, filters_fit, mod_fits}

-- The numbers of a table's columns, of which none is there twice.
are_numbers : (columns : List Column) (opened : List OpenColumn) → All (IsColumnOf columns) opened → are_distinct nat_eq (numbers opened) ≡ true → AreNumbers columns (numbers opened)
are_numbers columns opened all once = record {
  within = All-map (λ n. n < length columns) (λ (c : OpenColumn). c.number) opened (All-weaker (IsColumnOf columns) (λ (c : OpenColumn). c.number < length columns) (in_range columns) opened all);
  once = once;
}

-- The part of a list, among all parts of the index.
part_of_all : (n : ℕ) (parts : List OpenColumn) (place : ℕ) (part : OpenColumn) → slice_get (take n parts) place ≡ Some part → (place < n) × (slice_get parts place ≡ Some part)
part_of_all zero parts place part e = absurd cc
part_of_all (suc n) [] place part e = absurd cc
part_of_all (suc n) (p ∷ ps) zero part e = (omega arith, e)
part_of_all (suc n) (p ∷ ps) (suc place) part e =
    let rest = part_of_all n ps place part e in
    (omega (arith, rest.0), rest.1)

-- A number of an open column, by its place.
number_at_place : (opened : List OpenColumn) (place : ℕ) (c : OpenColumn) → slice_get opened place ≡ Some c → slice_get (numbers opened) place ≡ Some c.number
number_at_place [] place c e = absurd cc
number_at_place (d ∷ ds) zero c e = ap (λ (x : OpenColumn). Some x.number) (some_same d c e)
number_at_place (d ∷ ds) (suc place) c e = number_at_place ds place c e

-- A list that was read for a part of the key fits the index.
list_of_index : (columns : List Column) (parts : List OpenColumn) (spec : FindSpec) (list : InSpec) → AreOf columns parts → IsListOf spec.op (take (length spec.key) parts) list → ListFits columns (numbers parts) spec list
list_of_index columns parts spec list all is =
    let at = part_of_all (length spec.key) parts list.part is.part is.at in
    let column = all_get (IsColumnOf columns) parts list.part is.part all at.1 in
    let fits : (v : Value) → IsOfKind (is.part).kind v → IsSomeAnd (slice_get (numbers parts) list.part) (λ n. IsAt IsOfKind columns n v) =
    λ v of_kind. subst (λ (o : Option ℕ). IsSomeAnd o (λ n. IsAt IsOfKind columns n v)) (sym (number_at_place parts list.part is.part at.1)) (is_at IsOfKind columns is.part v column of_kind) in
    record {
      equal = is.equal;
      part = at.0;
      some = is.some;
      values = All-weaker (IsOfKind (is.part).kind) _ fits list.values (All-from_recursion (IsOfKind (is.part).kind) list.values is.values);
    }

within_index : (columns : List Column) (parts : List OpenColumn) (spec : FindSpec) → AreOf columns parts → IfSome spec.within (IsListOf spec.op (take (length spec.key) parts)) → IfSome spec.within (ListFits columns (numbers parts) spec)
within_index columns parts spec all is = go spec.within is
  where
    go : (o : Option InSpec) → IfSome o (IsListOf spec.op (take (length spec.key) parts)) → IfSome o (ListFits columns (numbers parts) spec)
    go None is = tt
    go (Some list) is = list_of_index columns parts spec list all is

-- The find of a handle that fits its table.
record WasRead (table : TableDef) (h : Handle) (spec : FindSpec) : Type 0 where
  table_is : spec.table ≡ h.table
  index_is : spec.index ≡ h.index
  columns_are : spec.columns ≡ numbers h.columns
  key : IsKeyOf table.columns h.parts spec.key
  within : IfSome spec.within (IsListOf spec.op (take (length spec.key) h.parts))
  filters : AllByRecursion (FilterFits table.columns) spec.filters

key_of_index : (table : TableDef) (h : Handle) (spec : FindSpec) → HandleFitsTable table h → WasRead table h spec → (i : IndexDef) → numbers h.parts ≡ i.parts → KeyFits table.columns i.parts spec
key_of_index table h spec fits is i parts = subst (λ (ps : List ℕ). KeyFits table.columns ps spec) parts (record {
  some = (is.key).some;
  most = omega (arith, (is.key).most, length-map h.parts (λ (c : OpenColumn). c.number));
  key = (is.key).values;
  within = within_index table.columns h.parts spec (recursion_from_All (IsColumnOf table.columns) h.parts fits.parts) is.within;
})

find_of_table : (table : TableDef) (h : Handle) (spec : FindSpec) → HandleFitsTable table h → WasRead table h spec → FindFitsTable table spec
find_of_table table h spec fits is = record {
  index = subst (λ (n : ℕ). IsSomeAnd (slice_get table.indexes n) (λ i. KeyFits table.columns i.parts spec)) (sym is.index_is) (some_then _ _ (slice_get table.indexes h.index) fits.index (key_of_index table h spec fits is));
  filters = All-from_recursion (FilterFits table.columns) spec.filters is.filters;
  columns = subst (AreNumbers table.columns) (sym is.columns_are) (are_numbers table.columns h.columns fits.columns fits.once);
}

-- The parts of a find, as they were read.
record Parts (port : Port) (h : Handle) (op : FindOp) (ts : List Token) (r : Request) : Type 0 where
  key : List Value × List Token
  key_is : key_at h.parts ts ≡ Ok key
  limit : (ℕ × ℕ) × List Token
  within : Option InSpec × List Token
  within_is : within_at op (take (length key.0) h.parts) limit.1 ≡ Ok within
  filters : List FilterSpec × List Token
  filters_are : filters_at (length within.1) h.filter_columns within.1 ≡ Ok filters
  change : Option ModSpec
  change_is : mod_of port h.columns filters.1 ≡ Ok change
  asks : asked (found_by h op key.0 limit.0 within.0 filters.0) change ≡ r

parts_of : (port : Port) (h : Handle) (op : FindOp) (ts : List Token) (r : Request) → find_of port h op ts ≡ Ok r → Parts port h op ts r
unfolding find_of
parts_of port h op ts r e =
    let key = bind_ok (key_at h.parts ts) _ r e in
    let limit = bind_ok (limit_at (key.0).1) _ r key.2 in
    let within = bind_ok (within_at op (take (length (key.0).0) h.parts) (limit.0).1) _ r limit.2 in
    let filters = bind_ok (filters_at (length (within.0).1) h.filter_columns (within.0).1) _ r within.2 in
    let change = bind_ok (mod_of port h.columns (filters.0).1) _ r filters.2 in
    record {
      key = key.0;
      key_is = key.1;
      limit = limit.0;
      within = within.0;
      within_is = within.1;
      filters = filters.0;
      filters_are = filters.1;
      change = change.0;
      change_is = change.1;
      asks = ok_same (asked (found_by h op (key.0).0 (limit.0).0 (within.0).0 (filters.0).0) change.0) r change.2;
    }

-- The find of the parts.
abbrev find_in : (port : Port) (h : Handle) (op : FindOp) (ts : List Token) (r : Request) → Parts port h op ts r → FindSpec
find_in port h op ts r p = found_by h op (p.key).0 (p.limit).0 (p.within).0 (p.filters).0

was_read : (table : TableDef) (port : Port) (h : Handle) (op : FindOp) (ts : List Token) (r : Request) (p : Parts port h op ts r) → HandleFitsTable table h → WasRead table h (find_in port h op ts r p)
was_read table port h op ts r p fits = record {
  table_is = refl;
  index_is = refl;
  columns_are = refl;
  key = key_fits table.columns h.parts ts p.key (recursion_from_All (IsColumnOf table.columns) h.parts fits.parts) p.key_is;
  within = within_fits op (take (length (p.key).0) h.parts) (p.limit).1 p.within p.within_is;
  filters = filters_fit (length (p.within).1) table.columns h.filter_columns (p.within).1 p.filters (recursion_from_All (IsColumnOf table.columns) h.filter_columns fits.filter_columns) p.filters_are;
}

asked_fits : (schema : Schema) (find : FindSpec) (change : Option ModSpec) → FindFits schema find → IfSome change (ModFits schema find.table find.columns) → RequestFits schema (asked find change)
asked_fits schema find None fits none = fits
asked_fits schema find (Some change) fits also = (fits, also)

mod_of_schema : (schema : Schema) (port : Port) (h : Handle) (ts : List Token) (change : Option ModSpec) → HandleFits schema h → mod_of port h.columns ts ≡ Ok change → IfSome change (ModFits schema h.table (numbers h.columns))
mod_of_schema schema port h ts None fits e = tt
mod_of_schema schema port h ts (Some change) fits e = some_then _ _ (slice_get schema.tables h.table) fits (λ (t : TableDef) (f : HandleFitsTable t h). mod_fits port t h.columns ts (Some change) (recursion_from_All (IsColumnOf t.columns) h.columns f.columns) e)

pub find_fits : (schema : Schema) (port : Port) (h : Handle) (op : FindOp) (ts : List Token) (r : Request) → HandleFits schema h → find_of port h op ts ≡ Ok r → RequestFits schema r
find_fits schema port h op ts r fits e =
    let p = parts_of port h op ts r e in
    let find : FindSpec = find_in port h op ts r p in
    let of_schema : FindFits schema find = some_then _ _ (slice_get schema.tables h.table) fits (λ (t : TableDef) (f : HandleFitsTable t h). find_of_table t h find f (was_read t port h op ts r p f)) in
    subst (RequestFits schema) p.asks (asked_fits schema find p.change of_schema (mod_of_schema schema port h (p.filters).1 p.change fits p.change_is))

-- The first columns of a list that names none twice.
front_once : (n : ℕ) (opened : List OpenColumn) → are_distinct nat_eq (numbers opened) ≡ true → are_distinct nat_eq (numbers (take n opened)) ≡ true
front_once zero opened once = refl
front_once (suc n) [] once = refl
front_once (suc n) (c ∷ cs) once =
    let parts = and_true (not (list_any (λ y. nat_eq y c.number) (numbers cs))) (are_distinct nat_eq (numbers cs)) once in
    rw (none_in n cs c.number (not_true _ parts.0), front_once n cs parts.1) refl
  where
    none_in : (m : ℕ) (ds : List OpenColumn) (x : ℕ) → list_any (λ y. nat_eq y x) (numbers ds) ≡ false → list_any (λ y. nat_eq y x) (numbers (take m ds)) ≡ false
    none_in zero ds x none = refl
    none_in (suc m) [] x none = refl
    none_in (suc m) (d ∷ ds) x none =
        let both = or_false (nat_eq d.number x) (list_any (λ y. nat_eq y x) (numbers ds)) none in
        rw (both.0, none_in m ds x both.1) refl

-- A row that was read fits its table.
row_fits : (table : TableDef) (h : Handle) (n : ℕ) (tokens : List Token) (vs : List Value) → HandleFitsTable table h → n ≤ length h.columns → length tokens ≡ n → values_of h.columns tokens ≡ Ok vs → InsertFitsTable table (record { table = h.table; columns = numbers (take n h.columns); values = vs })
row_fits table h n tokens vs fits most len e =
    let count : length vs ≡ n = values_count h.columns tokens vs e ∙ len in
    let columns : length (numbers (take n h.columns)) ≡ n = length-map (take n h.columns) (λ (c : OpenColumn). c.number) ∙ length-take-le n h.columns most in
    let all = values_fit table.columns h.columns tokens vs (recursion_from_All (IsColumnOf table.columns) h.columns fits.columns) e in
    record {
      count = count ∙ sym columns;
      columns = are_numbers table.columns (take n h.columns) (All-take (IsColumnOf table.columns) n h.columns fits.columns) (front_once n h.columns fits.once);
      values = subst (λ (m : ℕ). AreAt IsOfKind table.columns (numbers (take m h.columns)) vs) count (at_front IsOfKind table.columns h.columns vs all);
    }

rest_count : (ts tokens : List Token) (n : ℕ) → rest_of ts n ≡ Ok tokens → length tokens ≡ n
unfolding rest_of
rest_count ts tokens n e =
    let test = need_ok (length ts == n) refused.Args (Ok ts) tokens e in
    subst (λ (us : List Token). length us ≡ n) (ok_same ts tokens test.1) (eqb-true (length ts) n test.0)

pub insert_fits : (schema : Schema) (port : Port) (h : Handle) (ts : List Token) (r : Request) → HandleFits schema h → insert_of port h ts ≡ Ok r → RequestFits schema r
unfolding insert_of
insert_fits schema port h ts r fits e =
    let writing = guard_ok (is_reading port) refused.ReadOnly _ r e in
    let n = bind_ok (count_at h.columns ts) _ r writing.1 in
    let tokens = bind_ok (rest_of (n.0).1 (n.0).0) _ r n.2 in
    let values = bind_ok (values_of h.columns tokens.0) _ r tokens.2 in
    let counted = count_fits h.columns ts n.0 n.1 in
    let len = rest_count (n.0).1 tokens.0 (n.0).0 tokens.1 in
    let spec : InsertSpec = record { table = h.table; columns = numbers (take (n.0).0 h.columns); values = values.0 } in
    let of_schema : InsertFits schema spec = some_then _ _ (slice_get schema.tables h.table) fits (λ (t : TableDef) (f : HandleFitsTable t h). row_fits t h (n.0).0 tokens.0 values.0 f counted.1 len values.1) in
    subst (RequestFits schema) (ok_same (Insert spec) r values.2) of_schema

operation_fits : (schema : Schema) (port : Port) (h : Handle) (op : Token) (ts : List Token) (r : Request) → HandleFits schema h → operation_of port h op ts ≡ Ok r → RequestFits schema r
unfolding operation_of
operation_fits schema port h op ts r fits e = by_word _ e
  where
    by_word : (b : Bool) → cond b (insert_of port h ts) (or_refuse refused.Op (find_op op) >>= λ o. find_of port h o ts) ≡ Ok r → RequestFits schema r
    by_word true e = insert_fits schema port h ts r fits e
    by_word false e =
        let o = bind_ok (or_refuse refused.Op (find_op op)) _ r e in
        find_fits schema port h o.0 ts r fits o.2

-- A request that was read fits the schema.
pub request_fits : (schema : Schema) (port : Port) (handles : List (ℕ × Handle)) (id : ℕ) (ts : List Token) (r : Request) → HandlesFit schema handles → request_of port handles id ts ≡ Ok r → RequestFits schema r
unfolding request_of
request_fits schema port handles id [] r fit e = absurd cc
request_fits schema port handles id (op ∷ ts) r fit e =
    let h = bind_ok (or_refuse refused.NoIndex (stands_for handles id)) _ r e in
    let found = IfSome-lookup_from_All (HandleFits schema) (is_key (nat_cmp id)) handles fit in
    let of_id = subst (λ (o : Option Handle). IfSome o (HandleFits schema)) (refuse_ok refused.NoIndex _ h.0 h.1) found in
    operation_fits schema port h.0 op ts r of_id h.2
