-- Tests that went well, and what is there.
use Rattle.std.proofs.Common.{◌≡◌, ℕ, suc, zero, ◌<◌, Bool, true, false, ◌&&◌, List, [], ◌∷◌, length, Option, Some, refl, sym, subst, arith}
use Rattle.std.specs.Prelude.{not, IsSomeAnd, slice_get}
use Rattle.std.specs.List.{list_all, AllByRecursion}

pub and_true : (a b : Bool) → (a && b) ≡ true → (a ≡ true) × (b ≡ true)
and_true true b e = (refl, e)
and_true false b e = absurd cc

pub both_true : (a b : Bool) → a ≡ true → b ≡ true → (a && b) ≡ true
both_true true b _ e = e
both_true false b e _ = absurd cc

pub not_true : (a : Bool) → not a ≡ true → a ≡ false
not_true false _ = refl
not_true true e = absurd cc

pub some_same : {A : Type 0} (x y : A) → Some x ≡ Some y → x ≡ y
some_same x y e = cc

-- What holds of what is there.
pub some_at : {A : Type 0} (P : A → Type 0) (o : Option A) (x : A) → o ≡ Some x → P x → IsSomeAnd o P
some_at P o x is p = subst (λ (q : Option _). IsSomeAnd q P) (sym is) p

-- What holds of each item holds of the one at a place.
pub all_get : {A : Type 0} (P : A → Type 0) (xs : List A) (k : ℕ) (x : A) → AllByRecursion P xs → slice_get xs k ≡ Some x → P x
all_get P [] k x all is = absurd cc
all_get P (y ∷ ys) zero x all is = subst P (some_same y x is) all.0
all_get P (y ∷ ys) (suc k) x all is = all_get P ys k x all.1 is

-- What a test says of each item.
pub each_by : {A : Type 0} (P : A → Type 0) (test : A → Bool) → ((x : A) → test x ≡ true → P x) → (xs : List A) → list_all test xs ≡ true → AllByRecursion P xs
each_by P test f [] e = tt
each_by P test f (x ∷ xs) e =
    let parts = and_true (test x) (list_all test xs) e in
    (f x parts.0, each_by P test f xs parts.1)

-- What is there lies within.
pub get_within : {A : Type 0} (xs : List A) (k : ℕ) (x : A) → slice_get xs k ≡ Some x → k < length xs
get_within [] k x is = absurd cc
get_within (y ∷ ys) zero x is = omega arith
get_within (y ∷ ys) (suc k) x is = omega (arith, get_within ys k x is)
