-- A table that was read is a valid one.
use Rattle.std.proofs.Common.{◌≡◌, ◌∙◌, ℕ, zero, suc, ◌+◌, ◌^◌, ◌<◌, ◌≤◌, ℤ, pos, negsuc, neg_ℤ, Bool, true, false, cond, not, ◌&&◌, ◌||◌, ltb, eqb, List, [], ◌∷◌, ◌++◌, length, take, drop, Option, Some, None, option_map, Ok, refl, subst, arith, codes, FitsSigned}
use Rattle.std.specs.Prelude.{slice_get, slice_index}
use Rattle.std.specs.Int.{w64}
use Rattle.std.specs.Str.{bytes_eq}
use Rattle.std.specs.Str.Parse.{digits_value}
use Rattle.std.specs.List.{list_any, AllByRecursion}
use Rattle.std.proofs.lemmas.Bool.{ltb-true}
use Rattle.std.proofs.lemmas.List.{length-append}
use Rattle.hs_token.specs.declared.tokens.Token.{Token}
use Rattle.hs_token.specs.declared.tokens.Token.TheVariants as tokens
use Rattle.hs_token.specs.Number.{is_number, number_below, u32_of, i64_of}
use Rattle.row_types.specs.declared.values.Value.{Value}
use Rattle.row_types.specs.declared.values.Value.TheVariants as values
use Rattle.row_types.specs.declared.columns.Kind.{Kind}
use Rattle.row_types.specs.declared.columns.Kind.TheVariants as kinds
use Rattle.row_types.specs.declared.columns.Column.{Column}
use Rattle.row_types.specs.declared.columns.Fit.TheVariants.{Fine}
use Rattle.row_types.specs.Fit.{kind_fit}
use Rattle.row_types.specs.Counted.{has_counted, both_counted, counts}
use Rattle.row_types.specs.Valid.{is_name, is_kind, same_column, are_distinct, IsHeld, IsColumn}
use Rattle.hs_schema.specs.declared.nullness.Nullness.{Nullness}
use Rattle.hs_schema.specs.declared.nullness.Nullness.TheVariants.{Allowed, Forbidden, Counted}
use Rattle.hs_schema.specs.Reading.{◌>>=◌, text_at, name_at, known, kind_of, sized, kind_at, nullness_of, allows_null, is_counted, can_count, nullness_at, preset_of, preset_in, has_column, column_name_at, column_place, column_at, columns_at, columns_of}
use Rattle.hs_schema.proofs.Cases.{bind_ok, guard_ok, need_ok, known_ok, ok_same, some_same, all_push, distinct_push}
use Rattle.hs_schema.proofs.ColumnSteps.{goes_on}

pub name_ok : (line : List Token) (place : ℕ) (name : List ℕ) → name_at line place ≡ Ok name → is_name name ≡ true
unfolding name_at
name_ok line place name e =
    let t = bind_ok (text_at line place) _ name e in
    let g = need_ok (is_name t.0) _ (Ok t.0) name t.2 in
    subst (λ text. is_name text ≡ true) (ok_same t.0 name g.1) g.0

sized_ok : (o : Option ℕ) (kind : Kind) → sized o ≡ Some kind → is_kind kind ≡ true
sized_ok None kind e = absurd cc
sized_ok (Some most) kind e = go (is_kind (kinds.Bytes most)) refl e where
  go : (b : Bool) → is_kind (kinds.Bytes most) ≡ b → cond b (Some (kinds.Bytes most)) None ≡ Some kind → is_kind kind ≡ true
  go true is e = subst (λ k. is_kind k ≡ true) (some_same (kinds.Bytes most) kind e) is
  go false is e = absurd cc

kind_ok : (text : List ℕ) (kind : Kind) → kind_of text ≡ Some kind → is_kind kind ≡ true
kind_ok text kind e = go (bytes_eq text (codes "int")) (bytes_eq (take 6 text) (codes "bytes:") && not (eqb (slice_index (drop 6 text) 0) 48)) e where
  go : (a b : Bool) → cond a (Some kinds.Int) (cond b (sized (u32_of (drop 6 text))) None) ≡ Some kind → is_kind kind ≡ true
  go true b e = subst (λ k. is_kind k ≡ true) (some_same kinds.Int kind e) refl
  go false true e = sized_ok (u32_of (drop 6 text)) kind e
  go false false e = absurd cc

below : (bound : ℕ) (text : List ℕ) (n : ℕ) → number_below bound text ≡ Some n → n < bound
below bound text n e = go (is_number text) (ltb (digits_value 10 text) bound) refl e where
  go : (a b : Bool) → ltb (digits_value 10 text) bound ≡ b → cond (a && b) (Some (digits_value 10 text)) None ≡ Some n → n < bound
  go true true is e = subst (λ m. m < bound) (some_same (digits_value 10 text) n e) (ltb-true (digits_value 10 text) bound is)
  go true false is e = absurd cc
  go false b is e = absurd cc

plain_held : (o : Option ℕ) (z : ℤ) → ((n : ℕ) → o ≡ Some n → n < 2 ^ 63) → option_map pos o ≡ Some z → FitsSigned w64 z
plain_held None z lt e = absurd cc
plain_held (Some n) z lt e = subst (FitsSigned w64) (some_same (pos n) z e) (omega (arith, lt n refl))

minus_held : (o : Option ℕ) (z : ℤ) → ((n : ℕ) → o ≡ Some n → n < 2 ^ 63 + 1) → option_map (λ n. neg_ℤ (pos n)) o ≡ Some z → FitsSigned w64 z
minus_held None z lt e = absurd cc
minus_held (Some zero) z lt e = subst (FitsSigned w64) (some_same (pos 0) z e) (omega arith)
minus_held (Some (suc n)) z lt e = subst (FitsSigned w64) (some_same (negsuc n) z e) (omega (arith, lt (suc n) refl))

i64_held : (text : List ℕ) (z : ℤ) → i64_of text ≡ Some z → FitsSigned w64 z
i64_held [] z e = absurd cc
i64_held (b ∷ bs) z e = go (eqb b 45) e where
  go : (minus : Bool) → cond minus (option_map (λ n. neg_ℤ (pos n)) (number_below (2 ^ 63 + 1) bs)) (option_map pos (number_below (2 ^ 63) (cond (eqb b 43) bs (b ∷ bs)))) ≡ Some z → FitsSigned w64 z
  go true e = minus_held (number_below (2 ^ 63 + 1) bs) z (below (2 ^ 63 + 1) bs) e
  go false e = plain_held (number_below (2 ^ 63) (cond (eqb b 43) bs (b ∷ bs))) z (below (2 ^ 63) (cond (eqb b 43) bs (b ∷ bs))) e

abbrev IsPreset : Kind → Value → Type 0
IsPreset kind v = (kind_fit kind v ≡ Fine) × IsHeld v

number_ok : (o : Option ℤ) (v : Value) → ((z : ℤ) → o ≡ Some z → FitsSigned w64 z) → option_map values.Int o ≡ Some v → IsPreset kinds.Int v
number_ok None v held e = absurd cc
number_ok (Some z) v held e = subst (IsPreset kinds.Int) (some_same (values.Int z) v e) (refl, held z refl)

preset_ok : (kind : Kind) (text : List ℕ) (v : Value) → preset_of kind text ≡ Some v → IsPreset kind v
preset_ok kinds.Int text v e = number_ok (i64_of text) v (i64_held text) e
preset_ok (kinds.Bytes most) text v e = go (ltb most (length text)) refl e where
  go : (b : Bool) → ltb most (length text) ≡ b → cond b None (Some (values.Text text)) ≡ Some v → IsPreset (kinds.Bytes most) v
  go true is e = absurd cc
  go false is e = subst (IsPreset (kinds.Bytes most)) (some_same (values.Text text) v e) (rw is refl, tt)

preset_in_ok : (kind : Kind) (counted : Bool) (place : ℕ) (o : Option Token) (v : Value) → preset_in kind counted place o ≡ Ok v → IsPreset kind v
preset_in_ok kind counted place None v e = absurd cc
preset_in_ok kind counted place (Some tokens.Null) v e = subst (IsPreset kind) (ok_same values.Null v e) (null_fits kind, tt) where
  null_fits : (kind : Kind) → kind_fit kind values.Null ≡ Fine
  null_fits kinds.Int = refl
  null_fits (kinds.Bytes most) = refl
preset_in_ok kind true place (Some (tokens.Text text)) v e = absurd cc
preset_in_ok kind false place (Some (tokens.Text text)) v e = preset_ok kind text v (known_ok place (preset_of kind text) v e)

column_name_ok : (before : List Column) (line : List Token) (place : ℕ) (name : List ℕ) → column_name_at before line place ≡ Ok name → (is_name name ≡ true) × (has_column before name ≡ false)
unfolding column_name_at
column_name_ok before line place name e =
    let t = bind_ok (name_at line place) _ name e in
    let g = guard_ok (has_column before t.0) _ (Ok t.0) name t.2 in
    let is = ok_same t.0 name g.1 in
    (name_ok line place name (t.1 ∙ g.1), subst (λ n. has_column before n ≡ false) is g.0)

-- a column that may stand behind those before
abbrev pub IsNext : List Column → Column → Type 0
IsNext before c = IsColumn c × (has_column before c.name ≡ false) × (list_any (both_counted c) before ≡ false)

-- a column that was read as counted may be, and is the first
nullness_ok : (before : List Column) (kind : Kind) (line : List Token) (place : ℕ) (u : Nullness) → nullness_at before kind line place ≡ Ok u → (is_counted u && not (can_count before kind)) ≡ false
unfolding nullness_at
nullness_ok before kind line place u e =
    let t = bind_ok (text_at line place) _ u e in
    let k = bind_ok (known place (nullness_of t.0)) _ u t.2 in
    let g = guard_ok (is_counted k.0 && not (can_count before kind)) _ (Ok k.0) u k.2 in
    subst (λ (u : Nullness). (is_counted u && not (can_count before kind)) ≡ false) (ok_same k.0 u g.1) g.0

counts_ok : (u : Nullness) (before : List Column) (kind : Kind) (place : ℕ) (o : Option Token) (v : Value) → (is_counted u && not (can_count before kind)) ≡ false → preset_in kind (is_counted u) place o ≡ Ok v → (not (is_counted u) || counts kind (allows_null u) v) ≡ true
counts_ok Allowed before kind place o v guard e = refl
counts_ok Forbidden before kind place o v guard e = refl
counts_ok Counted before (kinds.Bytes most) place o v guard e = absurd cc
counts_ok Counted before kinds.Int place None v guard e = absurd cc
counts_ok Counted before kinds.Int place (Some tokens.Null) v guard e = subst (λ (v : Value). counts kinds.Int false v ≡ true) (ok_same values.Null v e) refl
counts_ok Counted before kinds.Int place (Some (tokens.Text text)) v guard e = absurd cc

first_ok : (u : Nullness) (before : List Column) (kind : Kind) → (is_counted u && not (can_count before kind)) ≡ false → (is_counted u && has_counted before) ≡ false
first_ok Allowed before kind guard = refl
first_ok Forbidden before kind guard = refl
first_ok Counted before (kinds.Bytes most) guard = absurd cc
first_ok Counted before kinds.Int guard = twice (has_counted before) guard
  where
    twice : (b : Bool) → not (not b) ≡ false → b ≡ false
    twice true e = absurd cc
    twice false e = refl

first_counted : (auto : Bool) (before : List Column) → (auto && has_counted before) ≡ false → list_any (λ (d : Column). auto && d.auto) before ≡ false
first_counted true before e = e
first_counted false [] e = refl
first_counted false (d ∷ ds) e = first_counted false ds refl

pub column_ok : (before : List Column) (line : List Token) (c : Column) → column_at before line ≡ Ok c → IsNext before c
unfolding column_at
column_ok before line c e =
    let place = column_place before in
    let n = bind_ok (column_name_at before line (place + 1)) _ c e in
    let k = bind_ok (kind_at line (place + 2)) _ c n.2 in
    let u = bind_ok (nullness_at before k.0 line (place + 3)) _ c k.2 in
    let p = bind_ok (preset_in k.0 (is_counted u.0) (place + 4) (slice_get line (place + 4))) _ c u.2 in
    let text = bind_ok (text_at line (place + 2)) _ k.0 k.1 in
    let name = column_name_ok before line (place + 1) n.0 n.1 in
    let preset = preset_in_ok k.0 (is_counted u.0) (place + 4) (slice_get line (place + 4)) p.0 p.1 in
    let guard = nullness_ok before k.0 line (place + 3) u.0 u.1 in
    subst (IsNext before) (ok_same _ c p.2) (
      record {
        name = name.0;
        kind = kind_ok text.0 k.0 (known_ok (place + 2) (kind_of text.0) k.0 text.2);
        preset = preset.0;
        held = preset.1;
        counts = counts_ok u.0 before k.0 (place + 4) (slice_get line (place + 4)) p.0 guard p.1;
      },
      name.1,
      first_counted (is_counted u.0) before (first_ok u.0 before k.0 guard),
    )

-- columns, of which there may be more
pub record ColumnsSoFar (cs : List Column) : Type 0 where
  pub each : AllByRecursion IsColumn cs
  pub distinct : are_distinct same_column cs ≡ true
  pub once : are_distinct both_counted cs ≡ true
  pub most : length cs ≤ 64

column_pushed : (before : List Column) (c : Column) → ColumnsSoFar before → length before < 64 → IsNext before c → ColumnsSoFar (before ++ c ∷ [])
column_pushed before c are lt is = record {
  each = all_push IsColumn before c are.each is.0;
  distinct = distinct_push same_column before c are.distinct is.1;
  once = distinct_push both_counted before c are.once is.2;
  most = omega (arith, length-append before (c ∷ []));
}

columns_ok : (room : ℕ) (before : List Column) (line : List Token) (cs : List Column) → length before + room ≤ 64 → ColumnsSoFar before → columns_at room before line ≡ Ok cs → ColumnsSoFar cs × (length before ≤ length cs)
unfolding columns_at
columns_ok zero before line cs le are e =
    let g = guard_ok (goes_on before line) _ (Ok before) cs e in
    subst (λ cs. ColumnsSoFar cs × (length before ≤ length cs)) (ok_same before cs g.1) (are, omega arith)
columns_ok (suc room) before line cs le are e = go (goes_on before line) e (λ c is more.
    let rest = columns_ok room (before ++ c ∷ []) line cs (omega (arith, length-append before (c ∷ []))) (column_pushed before c are (omega arith) (column_ok before line c is)) more in
    let longer : length before ≤ length cs = omega (arith, length-append before (c ∷ []), rest.1) in
    (rest.0, longer)) where
      go : (b : Bool) → cond b (column_at before line >>= λ c. columns_at room (before ++ c ∷ []) line) (Ok before) ≡ Ok cs → ((c : Column) → column_at before line ≡ Ok c → columns_at room (before ++ c ∷ []) line ≡ Ok cs → ColumnsSoFar cs × (length before ≤ length cs)) → ColumnsSoFar cs × (length before ≤ length cs)
      go true e next = let c = bind_ok (column_at before line) _ cs e in next c.0 c.1 c.2
      go false e next = subst (λ cs. ColumnsSoFar cs × (length before ≤ length cs)) (ok_same before cs e) (are, omega arith)

pub columns_of_ok : (line : List Token) (cs : List Column) → columns_of line ≡ Ok cs → ColumnsSoFar cs × (1 ≤ length cs)
unfolding columns_of columns_at
columns_of_ok line cs e =
    let g = need_ok (goes_on [] line) _ (columns_at 64 [] line) cs e in
    let first : (column_at [] line >>= λ c. columns_at 63 (c ∷ []) line) ≡ Ok cs = rw g.0 at g.1 in
    let c = bind_ok (column_at [] line) _ cs first in
    columns_ok 63 (c.0 ∷ []) line cs (omega arith) (column_pushed [] c.0 (record { each = tt; distinct = refl; once = refl; most = omega arith }) (omega arith) (column_ok [] line c.0 c.1)) c.2
