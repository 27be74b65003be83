-- Values that come for the first time.
use Rattle.std.proofs.Common.{◌≡◌, Bool, true, false, not, ◌&&◌, ◌||◌, cond, List, [], ◌∷◌, filter, refl, sym, ap, subst, ◌∙◌}
use Rattle.std.specs.declared.cmp.Ordering.{Ordering}
use Rattle.std.specs.declared.cmp.Ordering.TheVariants.{Less, Equal, Greater}
use Rattle.std.specs.Ordering.{is_eq, match_ordering}
use Rattle.std.specs.BTreeSet.{BTreeSet, contains, insert_key}
use Rattle.row_types.specs.declared.values.Value.{Value}
use Rattle.row_types.specs.Order.{value_cmp}
use Rattle.row_types.proofs.Orders.{value_cmp-exact}
use Rattle.find_scan.specs.Select.{once}
use Rattle.find_scan.specs.Gathering.{is_among, fresh}

or_twice : (f r : Bool) → (f || r) ≡ (f || (f || r))
or_twice true r = refl
or_twice false r = refl

or_turned : (f g r : Bool) → (g || (f || r)) ≡ (f || (g || r))
or_turned true true r = refl
or_turned true false r = refl
or_turned false true r = refl
or_turned false false r = refl

-- a value is among those with one more where it is that one or among them
pub among_inserted : (values : List Value) (v w : Value) → is_among (insert_key value_cmp values v) w ≡ (is_eq (value_cmp w v) || is_among values w)
among_inserted [] v w = refl
among_inserted (x ∷ values) v w = by_order (among_inserted values v w) (value_cmp v x) refl
  where
    by_order : is_among (insert_key value_cmp values v) w ≡ (is_eq (value_cmp w v) || is_among values w) → (o : Ordering) → value_cmp v x ≡ o → is_among (match_ordering o (v ∷ x ∷ values) (x ∷ values) (x ∷ insert_key value_cmp values v)) w ≡ (is_eq (value_cmp w v) || is_among (x ∷ values) w)
    by_order rest Less e = refl
    by_order rest Equal e =
        subst (λ (y : Value). is_among (x ∷ values) w ≡ (is_eq (value_cmp w y) || is_among (x ∷ values) w)) (sym (value_cmp-exact v x e)) (or_twice (is_eq (value_cmp w x)) (is_among values w))
    by_order rest Greater e =
        ap (λ (b : Bool). is_eq (value_cmp w x) || b) rest ∙ or_turned (is_eq (value_cmp w v)) (is_eq (value_cmp w x)) (is_among values w)

-- a set has what is among its keys
pub contains_is : (cmp : Value → Value → Ordering) → ((a b : Value) → cmp a b ≡ value_cmp a b) → (seen : BTreeSet Value) (v : Value) → contains cmp seen v ≡ is_among seen.keys v
contains_is cmp same seen v = ap (λ (c : Value → Value → Ordering). contains c seen v) (λ i a b. same a b i)

-- two filters one after the other are one
filter_both : {X : Type 0} (p q r : X → Bool) → ((x : X) → r x ≡ (q x && p x)) → (xs : List X) → filter p (filter q xs) ≡ filter r xs
filter_both p q r both [] = refl
filter_both {X} p q r both (x ∷ xs) = by_test (filter_both p q r both xs) (q x) (p x) refl refl
  where
    by_test : filter p (filter q xs) ≡ filter r xs → (a b : Bool) → q x ≡ a → p x ≡ b → filter p (cond (q x) (x ∷ filter q xs) (filter q xs)) ≡ cond (r x) (x ∷ filter r xs) (filter r xs)
    by_test rest true true e f = rw (both x, e, f) (ap (λ (ys : List X). x ∷ ys) rest)
    by_test rest true false e f = rw (both x, e, f) rest
    by_test rest false b e f = rw (both x, e) rest

or_neither : (f g : Bool) → not (f || g) ≡ (not f && not g)
or_neither true g = refl
or_neither false g = refl

-- the next value is one of them, or came before, and then it is no more of them
pub fresh_step : (cmp : Value → Value → Ordering) → ((a b : Value) → cmp a b ≡ value_cmp a b) → (before after : List Value) (v : Value) (later : List Value) → after ≡ insert_key cmp before v
    → fresh before (v ∷ later) ≡ cond (not (is_among before v)) (v ∷ fresh after later) (fresh after later)
fresh_step cmp same before after v later inserted =
    let in_order : after ≡ insert_key value_cmp before v = inserted ∙ ap (λ (c : Value → Value → Ordering). insert_key c before v) (λ i a b. same a b i) in
    let among = λ (w : Value). ap (λ (vs : List Value). is_among vs w) in_order ∙ among_inserted before v w in
    ap (λ (vs : List Value). cond (not (is_among before v)) (v ∷ vs) vs)
    (filter_both (λ (w : Value). not (is_among before w)) (λ (w : Value). not (is_eq (value_cmp w v))) (λ (w : Value). not (is_among after w))
    (λ w. ap not (among w) ∙ or_neither (is_eq (value_cmp w v)) (is_among before w)) (once later))

-- before any value all of them come for the first time
pub fresh_first : (values : List Value) → fresh [] values ≡ once values
fresh_first values = all_pass (once values)
  where
    all_pass : (vs : List Value) → filter (λ w. not (is_among [] w)) vs ≡ vs
    all_pass [] = refl
    all_pass (v ∷ vs) = ap (λ (ws : List Value). v ∷ ws) (all_pass vs)
