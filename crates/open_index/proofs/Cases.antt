-- What went well where a reading answered a value.
use Rattle.std.proofs.Common.{◌≡◌, ℕ, suc, zero, Bool, true, false, cond, not, ◌&&◌, ◌||◌, List, [], ◌∷◌, ◌++◌, Option, Some, None, Ok, Err, refl, sym, subst}
use Rattle.std.specs.Prelude.{Result, IsSomeAnd, slice_get}
use Rattle.std.specs.List.{list_any, AllByRecursion}
use Rattle.request_types.specs.declared.codes.Code.{Code}
use Rattle.request_types.specs.Refusal.{◌>>=◌, or_refuse}

pub bind_ok : {A B : Type 0} (r : Result A Code) (f : A → Result B Code) (y : B) → (r >>= f) ≡ Ok y → (x : A) × (r ≡ Ok x) × (f x ≡ Ok y)
bind_ok (Ok x) f y e = (x, refl, e)
bind_ok (Err code) f y e = absurd cc

pub guard_ok : {A : Type 0} (b : Bool) (code : Code) (r : Result A Code) (y : A) → cond b (Err code) r ≡ Ok y → (b ≡ false) × (r ≡ Ok y)
guard_ok true code r y e = absurd cc
guard_ok false code r y e = (refl, e)

pub need_ok : {A : Type 0} (b : Bool) (code : Code) (r : Result A Code) (y : A) → cond b r (Err code) ≡ Ok y → (b ≡ true) × (r ≡ Ok y)
need_ok true code r y e = (refl, e)
need_ok false code r y e = absurd cc

pub refuse_ok : {A : Type 0} (code : Code) (o : Option A) (y : A) → or_refuse code o ≡ Ok y → o ≡ Some y
refuse_ok code None y e = absurd cc
refuse_ok code (Some x) y e = cc

pub ok_same : {A : Type 0} (x y : A) → (let r : Result A Code = Ok x in r) ≡ Ok y → x ≡ y
ok_same x y e = cc

pub some_same : {A : Type 0} (x y : A) → Some x ≡ Some y → x ≡ y
some_same x y e = cc

pub or_false : (a b : Bool) → (a || b) ≡ false → (a ≡ false) × (b ≡ false)
or_false true b e = absurd cc
or_false false b e = (refl, e)

pub and_true : (a b : Bool) → (a && b) ≡ true → (a ≡ true) × (b ≡ true)
and_true true b e = (refl, e)
and_true false b e = absurd cc

pub not_true : (b : Bool) → not b ≡ true → b ≡ false
not_true true e = absurd cc
not_true false e = refl

-- What follows for a value that is there.
pub some_then : {A : Type 0} (P Q : A → Type 0) (o : Option A) → IsSomeAnd o P → ((x : A) → P x → Q x) → IsSomeAnd o Q
some_then P Q None is f = is
some_then P Q (Some x) is f = f x is

-- A value that is there, and what holds of it.
pub some_is : {A : Type 0} (P : A → Type 0) (o : Option A) → IsSomeAnd o P → (x : A) × (o ≡ Some x) × P x
some_is P None is = absurd is
some_is P (Some x) is = (x, refl, is)

pub some_at : {A : Type 0} (P : A → Type 0) (o : Option A) (x : A) → o ≡ Some x → P x → IsSomeAnd o P
some_at P o x is p = subst (λ (q : Option _). IsSomeAnd q P) (sym is) p

-- What holds of each item holds of the one at a place.
pub all_get : {A : Type 0} (P : A → Type 0) (xs : List A) (k : ℕ) (x : A) → AllByRecursion P xs → slice_get xs k ≡ Some x → P x
all_get P [] k x all is = absurd cc
all_get P (y ∷ ys) zero x all is = subst P (some_same y x is) all.0
all_get P (y ∷ ys) (suc k) x all is = all_get P ys k x all.1 is

pub all_push : {A : Type 0} (P : A → Type 0) (xs : List A) (x : A) → AllByRecursion P xs → P x → AllByRecursion P (xs ++ x ∷ [])
all_push P [] x all p = (p, tt)
all_push P (y ∷ ys) x all p = (all.0, all_push P ys x all.1 p)

any_push : {A : Type 0} (p : A → Bool) (xs : List A) (x : A) → list_any p xs ≡ false → p x ≡ false → list_any p (xs ++ x ∷ []) ≡ false
any_push p [] x none e = rw e refl
any_push p (y ∷ ys) x none e =
    let parts = or_false (p y) (list_any p ys) none in
    rw (parts.0, any_push p ys x parts.1 e) refl
