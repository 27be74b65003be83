-- The parts of a find that were read fit the table: the key, IN, the filters and MOD.
use Rattle.std.proofs.Common.{◌≡◌, ℕ, zero, suc, ◌≤◌, Bool, true, false, cond, List, [], ◌∷◌, length, take, drop, Option, Some, None, Ok, refl, sym, ap, subst, arith, ◌∙◌}
use Rattle.std.specs.Prelude.{IfSome, slice_get, ◌||◌, ◌==◌, nat_lt}
use Rattle.std.specs.List.{AllByRecursion}
use Rattle.std.proofs.lemmas.Bool.{ltb-false, eqb-false}
use Rattle.std.proofs.lemmas.List.{length-take-le}
use Rattle.hs_token.specs.declared.tokens.Token.{Token}
use Rattle.request_types.specs.declared.ports.Port.{Port}
use Rattle.row_types.specs.declared.values.Value.{Value}
use Rattle.row_types.specs.declared.columns.Column.{Column}
use Rattle.row_types.specs.declared.tables.TableDef.{TableDef}
use Rattle.request_types.specs.declared.finds.FindOp.{FindOp}
use Rattle.request_types.specs.declared.finds.FindOp.TheVariants as finds
use Rattle.request_types.specs.declared.finds.InSpec.{InSpec}
use Rattle.request_types.specs.declared.filters.FilterSpec.{FilterSpec}
use Rattle.request_types.specs.declared.mods.ModKind.{ModKind}
use Rattle.request_types.specs.declared.mods.ModKind.TheVariants as mods
use Rattle.request_types.specs.declared.mods.ModSpec.{ModSpec}
use Rattle.request_types.specs.Fits.{IsOfKind, IsDelta, IsAt, AreAt, ValuesFit, ModFitsTable}
use Rattle.request_types.proofs.FitFacts.{no_more}
use Rattle.request_types.specs.declared.codes.Code.TheVariants as refused
use Rattle.open_index.specs.declared.handles.OpenColumn.{OpenColumn}
use Rattle.request_types.specs.Refusal.{◌>>=◌, or_refuse}
use Rattle.open_index.specs.Tokens.{u32_at, front_at, number_at}
use Rattle.open_index.specs.Values.{value_of, values_of, values_in}
use Rattle.open_index.specs.Find.{numbers, count_at, key_at, part_at, list_len_at, list_at, within_at, filter_op, filter_of, filter_at, is_filter, next_filter, then_filters, filters_at, mod_word, mod_values, is_reading, change_of, mod_of}
use Rattle.open_index.proofs.Cases.{bind_ok, guard_ok, refuse_ok, ok_same, some_same, or_false, all_get}
use Rattle.open_index.proofs.ColumnFits.{AreOf, is_at}
use Rattle.open_index.proofs.ValueFits.{value_fits, values_count, values_fit, deltas_fit, listed_fit}

-- A number of values is one at least, and no more than there are columns.
pub count_fits : (opened : List OpenColumn) (ts : List Token) (n : ℕ × List Token) → count_at opened ts ≡ Ok n → (1 ≤ n.0) × (n.0 ≤ length opened)
unfolding count_at
count_fits opened ts n e =
    let read = bind_ok (number_at ts) _ n e in
    let test = guard_ok ((read.0).0 == 0 || nat_lt (length opened) (read.0).0) refused.Vlen (Ok read.0) n read.2 in
    let parts = or_false ((read.0).0 == 0) _ test.0 in
    let some : 1 ≤ (read.0).0 = omega (arith, eqb-false (read.0).0 0 parts.0) in
    subst (λ (m : ℕ × List Token). (1 ≤ m.0) × (m.0 ≤ length opened)) (ok_same read.0 n test.1) (some, ltb-false (length opened) (read.0).0 parts.1)

-- As many tokens were cut off as were asked for.
pub front_count : (n : ℕ) (ts : List Token) (front : List Token × List Token) → front_at n ts ≡ Ok front → length front.0 ≡ n
unfolding front_at
front_count n ts front e =
    let test = guard_ok (nat_lt (length ts) n) refused.Args (Ok (take n ts, drop n ts)) front e in
    subst (λ (f : List Token × List Token). length f.0 ≡ n) (ok_same (take n ts, drop n ts) front test.1) (length-take-le n ts (ltb-false (length ts) n test.0))

-- What holds of a key that was read.
pub record IsKeyOf (columns : List Column) (parts : List OpenColumn) (key : List Value) : Type 0 where
  pub some : 1 ≤ length key
  pub most : length key ≤ length parts
  pub values : AreAt IsOfKind columns (numbers parts) key

pub key_fits : (columns : List Column) (parts : List OpenColumn) (ts : List Token) (key : List Value × List Token) → AreOf columns parts → key_at parts ts ≡ Ok key → IsKeyOf columns parts key.0
unfolding key_at
key_fits columns parts ts key all e =
    let n = bind_ok (count_at parts ts) _ key e in
    let front = bind_ok (front_at (n.0).0 (n.0).1) _ key n.2 in
    let values = bind_ok (values_of parts (front.0).0) _ key front.2 in
    let counted = count_fits parts ts n.0 n.1 in
    let len : length values.0 ≡ (n.0).0 = values_count parts (front.0).0 values.0 values.1 ∙ front_count (n.0).0 (n.0).1 front.0 front.1 in
    let is : IsKeyOf columns parts values.0 = record {
      some = omega (arith, counted.0, len);
      most = omega (arith, counted.1, len);
      values = values_fit columns parts (front.0).0 values.0 all values.1;
    } in
    subst (λ (k : List Value × List Token). IsKeyOf columns parts k.0) (ok_same (values.0, (front.0).1) key values.2) is

-- What holds of a list that was read for a part of the key.
pub record IsListOf (op : FindOp) (key_parts : List OpenColumn) (list : InSpec) : Type 0 where
  pub equal : op ≡ finds.Equal
  pub part : OpenColumn
  pub at : slice_get key_parts list.part ≡ Some part
  pub some : 1 ≤ length list.values
  pub values : AllByRecursion (IsOfKind part.kind) list.values

part_fits : (op : FindOp) (key_parts : List OpenColumn) (place : ℕ) (part : OpenColumn) → part_at op key_parts place ≡ Ok part → (op ≡ finds.Equal) × (slice_get key_parts place ≡ Some part)
unfolding part_at
part_fits finds.Equal key_parts place part e = (refl, refuse_ok refused.In _ part e)
part_fits finds.Greater key_parts place part e = absurd cc
part_fits finds.GreaterEqual key_parts place part e = absurd cc
part_fits finds.Less key_parts place part e = absurd cc
part_fits finds.LessEqual key_parts place part e = absurd cc

len_fits : (ts : List Token) (n : ℕ × List Token) → list_len_at ts ≡ Ok n → 1 ≤ n.0
unfolding list_len_at
len_fits ts n e =
    let read = bind_ok (number_at ts) _ n e in
    let test = guard_ok ((read.0).0 == 0) refused.In (Ok read.0) n read.2 in
    let some : 1 ≤ (read.0).0 = omega (arith, eqb-false (read.0).0 0 test.0) in
    subst (λ (m : ℕ × List Token). 1 ≤ m.0) (ok_same read.0 n test.1) some

list_fits : (op : FindOp) (key_parts : List OpenColumn) (ts : List Token) (list : InSpec × List Token) → list_at op key_parts ts ≡ Ok list → IsListOf op key_parts list.0
unfolding list_at
list_fits op key_parts ts list e =
    let place = bind_ok (number_at ts) _ list e in
    let part = bind_ok (part_at op key_parts (place.0).0) _ list place.2 in
    let n = bind_ok (list_len_at (place.0).1) _ list part.2 in
    let front = bind_ok (front_at (n.0).0 (n.0).1) _ list n.2 in
    let values = bind_ok (values_in (part.0).kind (front.0).0) _ list front.2 in
    let at = part_fits op key_parts (place.0).0 part.0 part.1 in
    let fit = listed_fit (part.0).kind (front.0).0 values.0 values.1 in
    let len : length values.0 ≡ (n.0).0 = fit.1 ∙ front_count (n.0).0 (n.0).1 front.0 front.1 in
    let read : InSpec = record { part = (place.0).0; values = values.0 } in
    let is : IsListOf op key_parts read = record {
      equal = at.0;
      part = part.0;
      at = at.1;
      some = omega (arith, len_fits (place.0).1 n.0 n.1, len);
      values = fit.0;
    } in
    subst (λ (l : InSpec × List Token). IsListOf op key_parts l.0) (ok_same (read, (front.0).1) list values.2) is

pub within_fits : (op : FindOp) (key_parts : List OpenColumn) (ts : List Token) (within : Option InSpec × List Token) → within_at op key_parts ts ≡ Ok within → IfSome within.0 (IsListOf op key_parts)
unfolding within_at
within_fits op key_parts [] within e = subst (λ (w : Option InSpec × List Token). IfSome w.0 (IsListOf op key_parts)) (ok_same (None, []) within e) tt
within_fits op key_parts (t ∷ ts) within e = by_word _ e
  where
    by_word : (b : Bool) → cond b (list_at op key_parts ts >>= λ w. Ok (Some w.0, w.1)) (Ok (None, t ∷ ts)) ≡ Ok within → IfSome within.0 (IsListOf op key_parts)
    by_word false e = subst (λ (w : Option InSpec × List Token). IfSome w.0 (IsListOf op key_parts)) (ok_same (None, t ∷ ts) within e) tt
    by_word true e =
        let list = bind_ok (list_at op key_parts ts) _ within e in
        subst (λ (w : Option InSpec × List Token). IfSome w.0 (IsListOf op key_parts)) (ok_same (Some (list.0).0, (list.0).1) within list.2) (list_fits op key_parts ts list.0 list.1)

-- A filter names a column of the table, and its value is of the column's kind.
abbrev pub FilterFits : List Column → FilterSpec → Type 0
FilterFits columns f = IsAt IsOfKind columns f.column f.value

filter_fits : (columns : List Column) (opened : List OpenColumn) (stop : Bool) (op place token : Token) (f : FilterSpec) → AreOf columns opened → filter_of opened stop op place token ≡ Ok f → FilterFits columns f
unfolding filter_of
filter_fits columns opened stop op place token f all e =
    let o = bind_ok (or_refuse refused.Filter (filter_op op)) _ f e in
    let n = bind_ok (or_refuse refused.Args (u32_at place)) _ f o.2 in
    let c = bind_ok (or_refuse refused.Filter (slice_get opened n.0)) _ f n.2 in
    let v = bind_ok (value_of (c.0).kind token) _ f c.2 in
    let of_table = all_get _ opened n.0 c.0 all (refuse_ok refused.Filter _ c.0 c.1) in
    let fits = is_at IsOfKind columns c.0 v.0 of_table (value_fits (c.0).kind token v.0 v.1) in
    subst (FilterFits columns) (ok_same _ f v.2) fits

behind_fits : (columns : List Column) (opened : List OpenColumn) (stop : Bool) (ts : List Token) (f : FilterSpec × List Token) → AreOf columns opened → filter_at opened stop ts ≡ Ok f → FilterFits columns f.0
unfolding filter_at
behind_fits columns opened stop [] f all e = absurd cc
behind_fits columns opened stop (op ∷ []) f all e = absurd cc
behind_fits columns opened stop (op ∷ place ∷ []) f all e = absurd cc
behind_fits columns opened stop (op ∷ place ∷ token ∷ ts) f all e =
    let read = bind_ok (filter_of opened stop op place token) _ f e in
    subst (λ (g : FilterSpec × List Token). FilterFits columns g.0) (ok_same (read.0, ts) f read.2) (filter_fits columns opened stop op place token read.0 all read.1)

next_fits : (columns : List Column) (opened : List OpenColumn) (ts : List Token) (f : FilterSpec × List Token) → AreOf columns opened → next_filter opened ts ≡ Ok (Some f) → FilterFits columns f.0
unfolding next_filter
next_fits columns opened [] f all e = absurd cc
next_fits columns opened (t ∷ ts) f all e = by_word (is_filter t) _ e
  where
    by_word : (b stop : Bool) → cond b (filter_at opened stop ts >>= λ g. Ok (Some g)) (Ok None) ≡ Ok (Some f) → FilterFits columns f.0
    by_word false stop e = absurd cc
    by_word true stop e =
        let read = bind_ok (filter_at opened stop ts) _ (Some f) e in
        behind_fits columns opened stop ts f all (read.1 ∙ ap Ok (some_same read.0 f (ok_same (Some read.0) (Some f) read.2)))

-- The filters that were read.
pub filters_fit : (n : ℕ) (columns : List Column) (opened : List OpenColumn) (ts : List Token) (fs : List FilterSpec × List Token) → AreOf columns opened → filters_at n opened ts ≡ Ok fs → AllByRecursion (FilterFits columns) fs.0
unfolding filters_at
filters_fit zero columns opened ts fs all e = subst (λ (gs : List FilterSpec × List Token). AllByRecursion (FilterFits columns) gs.0) (ok_same ([], ts) fs e) tt
filters_fit (suc n) columns opened ts fs all e =
    let next = bind_ok (next_filter opened ts) _ fs e in
    by_next next.0 next.1 next.2 (λ rest gs is. filters_fit n columns opened rest gs all is)
  where
    by_next : (o : Option (FilterSpec × List Token)) → next_filter opened ts ≡ Ok o → then_filters (filters_at n opened) ts o ≡ Ok fs
        → ((rest : List Token) (gs : List FilterSpec × List Token) → filters_at n opened rest ≡ Ok gs → AllByRecursion (FilterFits columns) gs.0) → AllByRecursion (FilterFits columns) fs.0
    by_next None is e more = subst (λ (gs : List FilterSpec × List Token). AllByRecursion (FilterFits columns) gs.0) (ok_same ([], ts) fs e) tt
    by_next (Some f) is e more =
        let rest = bind_ok (filters_at n opened f.1) _ fs e in
        subst (λ (gs : List FilterSpec × List Token). AllByRecursion (FilterFits columns) gs.0) (ok_same (f.0 ∷ (rest.0).0, (rest.0).1) fs rest.2) (next_fits columns opened ts f all is, more f.1 rest.0 rest.1)

-- The values of a change that were read.
change_fits : (kind : ModKind) (columns : List Column) (opened : List OpenColumn) (ts : List Token) (vs : List Value) → AreOf columns opened → mod_values kind opened ts ≡ Ok vs → ValuesFit kind columns (numbers opened) vs × (length vs ≤ length (numbers opened))
unfolding mod_values
change_fits mods.Update columns opened ts vs all e =
    let fit = values_fit columns opened ts vs all e in
    (fit, no_more IsOfKind columns (numbers opened) vs fit)
change_fits mods.Add columns opened ts vs all e =
    let fit = deltas_fit columns opened ts vs all e in
    (fit, no_more IsDelta columns (numbers opened) vs fit)
change_fits mods.Subtract columns opened ts vs all e =
    let fit = deltas_fit columns opened ts vs all e in
    (fit, no_more IsDelta columns (numbers opened) vs fit)
change_fits mods.Remove columns opened ts vs all e =
    let none = ok_same [] vs e in
    (sym none, subst (λ (ws : List Value). length ws ≤ length (numbers opened)) none (omega arith))

word_fits : (port : Port) (table : TableDef) (opened : List OpenColumn) (word : ModKind × Bool) (ts : List Token) (change : ModSpec) → AreOf table.columns opened → change_of port opened word ts ≡ Ok change → ModFitsTable table (numbers opened) change
unfolding change_of
word_fits port table opened word ts change all e =
    let writing = guard_ok (is_reading port) refused.ReadOnly _ change e in
    let few = guard_ok (nat_lt (length opened) (length ts)) refused.Mod _ change writing.1 in
    let values = bind_ok (mod_values word.0 opened ts) _ change few.1 in
    let fit = change_fits word.0 table.columns opened ts values.0 all values.1 in
    let read : ModSpec = record { kind = word.0; values = values.0; show = word.1 } in
    let is : ModFitsTable table (numbers opened) read = record {
      most = fit.1;
      values = fit.0;
    } in
    subst (ModFitsTable table (numbers opened)) (ok_same read change values.2) is

-- The change that was read, if one follows.
pub mod_fits : (port : Port) (table : TableDef) (opened : List OpenColumn) (ts : List Token) (change : Option ModSpec) → AreOf table.columns opened → mod_of port opened ts ≡ Ok change → IfSome change (ModFitsTable table (numbers opened))
unfolding mod_of
mod_fits port table opened [] change all e = subst (λ (c : Option ModSpec). IfSome c (ModFitsTable table (numbers opened))) (ok_same None change e) tt
mod_fits port table opened (t ∷ ts) change all e =
    let word = bind_ok (or_refuse refused.Args (mod_word t)) _ change e in
    let read = bind_ok (change_of port opened word.0 ts) _ change word.2 in
    subst (λ (c : Option ModSpec). IfSome c (ModFitsTable table (numbers opened))) (ok_same (Some read.0) change read.2) (word_fits port table opened word.0 ts read.0 all read.1)
