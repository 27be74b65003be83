-- The values that were read are of their columns' kinds.
use Rattle.std.proofs.Common.{◌≡◌, ℕ, ◌<◌, ◌^◌, ◌+◌, ℤ, pos, neg_ℤ, suc, zero, Bool, true, false, cond, List, [], ◌∷◌, length, Option, Some, None, option_map, Ok, eqb, refl, sym, ap, subst, arith, FitsSigned}
use Rattle.std.specs.Int.{w64}
use Rattle.std.specs.List.{AllByRecursion}
use Rattle.std.specs.Str.Parse.{digits_value}
use Rattle.std.proofs.lemmas.Bool.{ltb-true}
use Rattle.std.proofs.lemmas.Option.{cond_some}
use Rattle.hs_token.specs.declared.tokens.Token.{Token}
use Rattle.hs_token.specs.declared.tokens.Token.TheVariants as tokens
use Rattle.hs_token.specs.Number.{is_number, number_below, i64_of}
use Rattle.row_types.specs.declared.values.Value.{Value}
use Rattle.row_types.specs.declared.values.Value.TheVariants as values
use Rattle.row_types.specs.declared.columns.Kind.{Kind}
use Rattle.row_types.specs.declared.columns.Kind.TheVariants as kinds
use Rattle.row_types.specs.declared.columns.Column.{Column}
use Rattle.request_types.specs.Fits.{IsOfKind, IsDelta, AreAt}
use Rattle.request_types.specs.declared.codes.Code.TheVariants as refused
use Rattle.open_index.specs.declared.handles.OpenColumn.{OpenColumn}
use Rattle.open_index.specs.Tokens.{i64_at}
use Rattle.open_index.specs.Values.{value_of, values_of, values_in, delta_of, deltas_of}
use Rattle.open_index.specs.Find.{numbers}
use Rattle.open_index.proofs.Cases.{bind_ok, refuse_ok, ok_same, some_same, and_true}
use Rattle.open_index.proofs.ColumnFits.{AreOf, is_at}

-- A number that was read is below its bound.
below : (bound : ℕ) (text : List ℕ) (n : ℕ) → number_below bound text ≡ Some n → n < bound
below bound text n e =
    let found = cond_some _ (digits_value 10 text) n e in
    let small = ltb-true (digits_value 10 text) bound (and_true (is_number text) _ found.0).1 in
    subst (λ (m : ℕ). m < bound) found.1 small

positive : (o : Option ℕ) (z : ℤ) → ((n : ℕ) → o ≡ Some n → n < 2 ^ 63) → option_map pos o ≡ Some z → FitsSigned w64 z
positive None z small e = absurd cc
positive (Some n) z small e =
    let lt = small n refl in
    let fits : FitsSigned w64 (pos n) = omega (arith, lt) in
    subst (FitsSigned w64) (some_same (pos n) z e) fits

negative : (o : Option ℕ) (z : ℤ) → ((n : ℕ) → o ≡ Some n → n < 2 ^ 63 + 1) → option_map (λ n. neg_ℤ (pos n)) o ≡ Some z → FitsSigned w64 z
negative None z small e = absurd cc
negative (Some n) z small e = subst (FitsSigned w64) (some_same (neg_ℤ (pos n)) z e) (fits n (small n refl))
  where
    fits : (m : ℕ) → m < 2 ^ 63 + 1 → FitsSigned w64 (neg_ℤ (pos m))
    fits zero lt = omega arith
    fits (suc m) lt = omega (arith, lt)

-- An integer that was read is one of 64 bits.
i64_fits : (text : List ℕ) (z : ℤ) → i64_of text ≡ Some z → FitsSigned w64 z
i64_fits [] z e = absurd cc
i64_fits (b ∷ bs) z e = by_sign (eqb b 45) e
  where
    by_sign : (minus : Bool) → cond minus (option_map (λ n. neg_ℤ (pos n)) (number_below (2 ^ 63 + 1) bs)) (option_map pos (number_below (2 ^ 63) (cond (eqb b 43) bs (b ∷ bs)))) ≡ Some z → FitsSigned w64 z
    by_sign true e = negative (number_below (2 ^ 63 + 1) bs) z (below (2 ^ 63 + 1) bs) e
    by_sign false e = positive (number_below (2 ^ 63) (cond (eqb b 43) bs (b ∷ bs))) z (below (2 ^ 63) (cond (eqb b 43) bs (b ∷ bs))) e

-- An integer that was read, as a value.
int_is : (P : Value → Type 0) (o : Option ℤ) (v : Value) → ((z : ℤ) → o ≡ Some z → P (values.Int z)) → option_map values.Int o ≡ Some v → P v
int_is P None v fits e = absurd cc
int_is P (Some z) v fits e = subst P (some_same (values.Int z) v e) (fits z refl)

-- A value that was read is of the kind.
pub value_fits : (kind : Kind) (t : Token) (v : Value) → value_of kind t ≡ Ok v → IsOfKind kind v
unfolding value_of
value_fits kind tokens.Null v e = subst (IsOfKind kind) (ok_same values.Null v e) tt
value_fits kinds.Int (tokens.Text text) v e = int_is (IsOfKind kinds.Int) (i64_of text) v (i64_fits text) (refuse_ok refused.Value _ v e)
value_fits (kinds.Bytes most) (tokens.Text text) v e = subst (IsOfKind (kinds.Bytes most)) (ok_same (values.Text text) v e) tt

token_fits : (t : Token) (z : ℤ) → i64_at t ≡ Some z → FitsSigned w64 z
token_fits tokens.Null z e = absurd cc
token_fits (tokens.Text text) z e = i64_fits text z e

-- What is added is an integer, and added to one.
pub delta_fits : (kind : Kind) (t : Token) (v : Value) → delta_of kind t ≡ Ok v → IsDelta kind v
unfolding delta_of
delta_fits kinds.Int t v e = int_is (IsDelta kinds.Int) (i64_at t) v (token_fits t) (refuse_ok refused.Value _ v e)
delta_fits (kinds.Bytes most) t v e = absurd cc

-- As many values were read as there are tokens.
pub values_count : (opened : List OpenColumn) (ts : List Token) (vs : List Value) → values_of opened ts ≡ Ok vs → length vs ≡ length ts
unfolding values_of
values_count opened [] vs e = ap length (sym (ok_same [] vs e))
values_count [] (t ∷ ts) vs e = absurd cc
values_count (c ∷ cs) (t ∷ ts) vs e =
    let first = bind_ok (value_of c.kind t) _ vs e in
    let rest = bind_ok (values_of cs ts) _ vs first.2 in
    subst (λ (ws : List Value). length ws ≡ suc (length ts)) (ok_same (first.0 ∷ rest.0) vs rest.2) (ap suc (values_count cs ts rest.0 rest.1))

-- Values that were read by place go with the columns.
pub values_fit : (columns : List Column) (opened : List OpenColumn) (ts : List Token) (vs : List Value) → AreOf columns opened → values_of opened ts ≡ Ok vs → AreAt IsOfKind columns (numbers opened) vs
unfolding values_of
values_fit columns opened [] vs all e = subst (AreAt IsOfKind columns (numbers opened)) (ok_same [] vs e) tt
values_fit columns [] (t ∷ ts) vs all e = absurd cc
values_fit columns (c ∷ cs) (t ∷ ts) vs all e =
    let first = bind_ok (value_of c.kind t) _ vs e in
    let rest = bind_ok (values_of cs ts) _ vs first.2 in
    let here = is_at IsOfKind columns c first.0 all.0 (value_fits c.kind t first.0 first.1) in
    subst (AreAt IsOfKind columns (numbers (c ∷ cs))) (ok_same (first.0 ∷ rest.0) vs rest.2) (here, values_fit columns cs ts rest.0 all.1 rest.1)

-- What is added by place goes with the columns.
pub deltas_fit : (columns : List Column) (opened : List OpenColumn) (ts : List Token) (vs : List Value) → AreOf columns opened → deltas_of opened ts ≡ Ok vs → AreAt IsDelta columns (numbers opened) vs
unfolding deltas_of
deltas_fit columns opened [] vs all e = subst (AreAt IsDelta columns (numbers opened)) (ok_same [] vs e) tt
deltas_fit columns [] (t ∷ ts) vs all e = absurd cc
deltas_fit columns (c ∷ cs) (t ∷ ts) vs all e =
    let first = bind_ok (delta_of c.kind t) _ vs e in
    let rest = bind_ok (deltas_of cs ts) _ vs first.2 in
    let here = is_at IsDelta columns c first.0 all.0 (delta_fits c.kind t first.0 first.1) in
    subst (AreAt IsDelta columns (numbers (c ∷ cs))) (ok_same (first.0 ∷ rest.0) vs rest.2) (here, deltas_fit columns cs ts rest.0 all.1 rest.1)

-- Listed values are of the one kind, and as many as the tokens.
pub listed_fit : (kind : Kind) (ts : List Token) (vs : List Value) → values_in kind ts ≡ Ok vs → AllByRecursion (IsOfKind kind) vs × (length vs ≡ length ts)
unfolding values_in
listed_fit kind [] vs e = subst (λ (ws : List Value). AllByRecursion (IsOfKind kind) ws × (length ws ≡ 0)) (ok_same [] vs e) (tt, refl)
listed_fit kind (t ∷ ts) vs e =
    let first = bind_ok (value_of kind t) _ vs e in
    let rest = bind_ok (values_in kind ts) _ vs first.2 in
    let more = listed_fit kind ts rest.0 rest.1 in
    subst (λ (ws : List Value). AllByRecursion (IsOfKind kind) ws × (length ws ≡ suc (length ts))) (ok_same (first.0 ∷ rest.0) vs rest.2) ((value_fits kind t first.0 first.1, more.0), ap suc more.1)
