-- What went well where a reading answered a value, and lists with one item more.
use Rattle.std.proofs.Common.{◌≡◌, ℕ, Bool, true, false, cond, not, ◌&&◌, ◌||◌, List, [], ◌∷◌, ◌++◌, Option, Some, None, Ok, Err, refl}
use Rattle.std.specs.Prelude.{Result}
use Rattle.std.specs.List.{list_any, AllByRecursion}
use Rattle.row_types.specs.Valid.{are_distinct}
use Rattle.hs_schema.specs.Reading.{◌>>=◌, Breach, known}

pub bind_ok : {A B : Type 0} (r : Result A Breach) (f : A → Result B Breach) (y : B) → (r >>= f) ≡ Ok y → (x : A) × (r ≡ Ok x) × (f x ≡ Ok y)
bind_ok (Ok x) f y e = (x, refl, e)
bind_ok (Err breach) f y e = absurd cc

pub guard_ok : {A : Type 0} (b : Bool) (breach : Breach) (r : Result A Breach) (y : A) → cond b (Err breach) r ≡ Ok y → (b ≡ false) × (r ≡ Ok y)
guard_ok true breach r y e = absurd cc
guard_ok false breach r y e = (refl, e)

pub need_ok : {A : Type 0} (b : Bool) (breach : Breach) (r : Result A Breach) (y : A) → cond b r (Err breach) ≡ Ok y → (b ≡ true) × (r ≡ Ok y)
need_ok true breach r y e = (refl, e)
need_ok false breach r y e = absurd cc

pub known_ok : {A : Type 0} (place : ℕ) (o : Option A) (y : A) → known place o ≡ Ok y → o ≡ Some y
known_ok place None y e = absurd cc
known_ok place (Some x) y e = cc

pub ok_same : {A : Type 0} (x y : A) → (let r : Result A Breach = Ok x in r) ≡ Ok y → x ≡ y
ok_same x y e = cc

pub some_same : {A : Type 0} (x y : A) → Some x ≡ Some y → x ≡ y
some_same x y e = cc

pub all_push : {A : Type 0} (P : A → Type 0) (xs : List A) (x : A) → AllByRecursion P xs → P x → AllByRecursion P (xs ++ x ∷ [])
all_push P [] x all p = (p, tt)
all_push P (y ∷ ys) x all p = (all.0, all_push P ys x all.1 p)

pub or_false : (a b : Bool) → (a || b) ≡ false → (a ≡ false) × (b ≡ false)
or_false true b e = absurd cc
or_false false b e = (refl, e)

pub and_true : (a b : Bool) → (a && b) ≡ true → (a ≡ true) × (b ≡ true)
and_true true b e = (refl, e)
and_true false b e = absurd cc

any_push : {A : Type 0} (p : A → Bool) (xs : List A) (x : A) → list_any p xs ≡ false → p x ≡ false → list_any p (xs ++ x ∷ []) ≡ false
any_push p [] x none e = rw e refl
any_push p (y ∷ ys) x none e =
    let parts = or_false (p y) (list_any p ys) none in
    rw (parts.0, any_push p ys x parts.1 e) refl

pub distinct_push : {A : Type 0} (same : A → A → Bool) (xs : List A) (x : A) → are_distinct same xs ≡ true → list_any (same x) xs ≡ false → are_distinct same (xs ++ x ∷ []) ≡ true
distinct_push same [] x distinct none = refl
distinct_push same (y ∷ ys) x distinct none =
    let d = and_true (not (list_any (λ z. same z y) ys)) (are_distinct same ys) distinct in
    let n = or_false (same x y) (list_any (same x) ys) none in
    let first : list_any (λ z. same z y) (ys ++ x ∷ []) ≡ false = any_push (λ z. same z y) ys x (not_true (list_any (λ z. same z y) ys) d.0) n.0 in
    rw (first, distinct_push same ys x d.1 n.1) refl
  where
    not_true : (b : Bool) → not b ≡ true → b ≡ false
    not_true true e = absurd cc
    not_true false e = refl
