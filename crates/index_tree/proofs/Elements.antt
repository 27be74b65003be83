-- What holds of each item of a list, and which items there are. A fact of each is std's `AllByRecursion`, and an item
-- of the list is std's `Contains`.
--     all_kept, all_pass, all_weaker      what a filter keeps, that it passes, and what follows from a fact
--     all_append, all_front, all_back, all_middle, all_but_middle, all_removed      parts of a list
--     all_mapped, all_unmapped      through a function
--     all_at, all_members, each_member      at a place, at a member, and from all members
--     no_member, contains_first, contains_later, contains_cases, contains_at, place_of_member      members and places
--     kept_member, member_of_kept, kept_passes      members of what a filter keeps
--     filter_agree, map_agree      two tests, or two functions, that agree on the members
use Rattle.std.proofs.Common.{◌≡◌, ◌⊎◌, ℕ, zero, suc, ◌<◌, Bool, true, false, cond, List, [], ◌∷◌, ◌++◌, length, get_or, map, filter, remove, slice_get, Contains, Some, None, refl, sym, ap, subst, ◌∙◌, inl, inr, arith}
use Rattle.std.specs.List.{AllByRecursion}
use Rattle.std.proofs.lemmas.Bool.{true≢false}
use Rattle.std.proofs.lemmas.Option.{same_Some, slice_get-get_or}

pub some_is_none : {X : Type 0} (x : X) → Some x ≡ None → ⊥
some_is_none x e = cc

module _ {X : Type 0} (P : X → Type 0) where
  -- what holds of each also holds of each that a filter keeps
  pub all_kept : (test : X → Bool) (xs : List X) → AllByRecursion P xs → AllByRecursion P (filter test xs)
  all_kept test [] all = tt
  all_kept test (x ∷ xs) all = by_test (all_kept test xs all.1) (test x)
    where
      by_test : AllByRecursion P (filter test xs) → (b : Bool) → AllByRecursion P (cond b (x ∷ filter test xs) (filter test xs))
      by_test rest true = (all.0, rest)
      by_test rest false = rest

  pub all_weaker : (Q : X → Type 0) → ((x : X) → P x → Q x) → (xs : List X) → AllByRecursion P xs → AllByRecursion Q xs
  all_weaker Q weaker [] all = tt
  all_weaker Q weaker (x ∷ xs) all = (weaker x all.0, all_weaker Q weaker xs all.1)

  pub all_append : (xs ys : List X) → AllByRecursion P xs → AllByRecursion P ys → AllByRecursion P (xs ++ ys)
  all_append [] ys front back = back
  all_append (x ∷ xs) ys front back = (front.0, all_append xs ys front.1 back)

  pub all_front : (xs ys : List X) → AllByRecursion P (xs ++ ys) → AllByRecursion P xs
  all_front [] ys all = tt
  all_front (x ∷ xs) ys all = (all.0, all_front xs ys all.1)

  pub all_back : (xs ys : List X) → AllByRecursion P (xs ++ ys) → AllByRecursion P ys
  all_back [] ys all = all
  all_back (x ∷ xs) ys all = all_back xs ys all.1

  pub all_middle : (xs : List X) (x : X) (ys : List X) → AllByRecursion P (xs ++ x ∷ ys) → P x
  all_middle xs x ys all = (all_back xs (x ∷ ys) all).0

  pub all_but_middle : (xs : List X) (x : X) (ys : List X) → AllByRecursion P (xs ++ x ∷ ys) → AllByRecursion P (xs ++ ys)
  all_but_middle xs x ys all = all_append xs ys (all_front xs (x ∷ ys) all) (all_back xs (x ∷ ys) all).1

  pub all_removed : (xs : List X) (k : ℕ) → AllByRecursion P xs → AllByRecursion P (remove xs k)
  all_removed [] zero all = tt
  all_removed [] (suc k) all = tt
  all_removed (x ∷ xs) zero all = all.1
  all_removed (x ∷ xs) (suc k) all = (all.0, all_removed xs k all.1)

  pub all_at : (xs : List X) (k : ℕ) (x : X) → AllByRecursion P xs → slice_get xs k ≡ Some x → P x
  all_at [] k x all e = absurd (some_is_none x (sym e))
  all_at (y ∷ ys) zero x all e = subst P (same_Some y x e) all.0
  all_at (y ∷ ys) (suc k) x all e = all_at ys k x all.1 e

-- each that a filter keeps passes its test
pub all_pass : {X : Type 0} (test : X → Bool) (xs : List X) → AllByRecursion (λ x. test x ≡ true) (filter test xs)
all_pass test [] = tt
all_pass {X} test (x ∷ xs) = by_test (all_pass test xs) (test x) refl
  where
    by_test : AllByRecursion (λ (y : X). test y ≡ true) (filter test xs) → (b : Bool) → test x ≡ b → AllByRecursion (λ (y : X). test y ≡ true) (cond b (x ∷ filter test xs) (filter test xs))
    by_test rest true passes = (passes, rest)
    by_test rest false fails = rest

module _ {X Y : Type 0} (P : Y → Type 0) (f : X → Y) where
  pub all_mapped : (xs : List X) → AllByRecursion (λ x. P (f x)) xs → AllByRecursion P (map f xs)
  all_mapped [] all = tt
  all_mapped (x ∷ xs) all = (all.0, all_mapped xs all.1)

  pub all_unmapped : (xs : List X) → AllByRecursion P (map f xs) → AllByRecursion (λ x. P (f x)) xs
  all_unmapped [] all = tt
  all_unmapped (x ∷ xs) all = (all.0, all_unmapped xs all.1)

module _ {X : Type 0} where
  pub no_member : (x : X) → Contains [] x → ⊥
  no_member x inside = absurd (omega (arith, inside.1))

  pub contains_first : (x : X) (xs : List X) → Contains (x ∷ xs) x
  contains_first x xs = (0, omega arith, refl)

  pub contains_later : (x : X) (xs : List X) (y : X) → Contains xs y → Contains (x ∷ xs) y
  contains_later x xs y inside = (suc inside.0, omega (arith, inside.1), inside.2)

  pub contains_cases : (x : X) (xs : List X) (y : X) → Contains (x ∷ xs) y → (x ≡ y) ⊎ Contains xs y
  contains_cases x xs y inside = by_place inside.0 inside.1 inside.2
    where
      by_place : (k : ℕ) → k < length (x ∷ xs) → get_or (x ∷ xs) k y ≡ y → (x ≡ y) ⊎ Contains xs y
      by_place zero below e = inl e
      by_place (suc k) below e = inr (k, omega arith, e)

  pub contains_at : (xs : List X) (k : ℕ) (x : X) → slice_get xs k ≡ Some x → Contains xs x
  contains_at [] k x e = absurd (some_is_none x (sym e))
  contains_at (y ∷ ys) zero x e = subst (Contains (y ∷ ys)) (same_Some y x e) (contains_first y ys)
  contains_at (y ∷ ys) (suc k) x e = contains_later y ys x (contains_at ys k x e)

  pub place_of_member : (xs : List X) (x : X) → Contains xs x → (k : ℕ) × (slice_get xs k ≡ Some x)
  place_of_member xs x inside = (inside.0, slice_get-get_or xs inside.0 x inside.1 ∙ ap (λ (y : X). Some y) inside.2)

  pub all_members : (P : X → Type 0) (xs : List X) (x : X) → AllByRecursion P xs → Contains xs x → P x
  all_members P xs x all inside = let placed = place_of_member xs x inside in all_at P xs placed.0 x all placed.1

  pub each_member : (P : X → Type 0) (xs : List X) → ((x : X) → Contains xs x → P x) → AllByRecursion P xs
  each_member P [] each = tt
  each_member P (x ∷ xs) each = (each x (contains_first x xs), each_member P xs (λ y inside. each y (contains_later x xs y inside)))

  module _ (test : X → Bool) where
    -- a member that passes is a member of what a filter keeps
    pub kept_member : (xs : List X) (x : X) → Contains xs x → test x ≡ true → Contains (filter test xs) x
    kept_member [] x inside passes = absurd (no_member x inside)
    kept_member (y ∷ ys) x inside passes = by_test (kept_member ys x) (contains_cases y ys x inside) (test y) refl
      where
        by_test : (Contains ys x → test x ≡ true → Contains (filter test ys) x) → (y ≡ x) ⊎ Contains ys x → (b : Bool) → test y ≡ b → Contains (cond b (y ∷ filter test ys) (filter test ys)) x
        by_test rest (inl same) true e = subst (Contains (y ∷ filter test ys)) same (contains_first y (filter test ys))
        by_test rest (inl same) false e = absurd (true≢false (sym passes ∙ ap test (sym same) ∙ e))
        by_test rest (inr later) true e = contains_later y (filter test ys) x (rest later passes)
        by_test rest (inr later) false e = rest later passes

    -- and the other way round
    pub member_of_kept : (xs : List X) (x : X) → Contains (filter test xs) x → Contains xs x
    member_of_kept xs x inside = all_members (Contains xs) (filter test xs) x (all_kept (Contains xs) test xs (each_member (Contains xs) xs (λ y is. is))) inside

    pub kept_passes : (xs : List X) (x : X) → Contains (filter test xs) x → test x ≡ true
    kept_passes xs x inside = all_members (λ y. test y ≡ true) (filter test xs) x (all_pass test xs) inside

  -- tests that agree on the members keep the same
  pub filter_agree : (p q : X → Bool) (xs : List X) → AllByRecursion (λ x. p x ≡ q x) xs → filter p xs ≡ filter q xs
  filter_agree p q [] all = refl
  filter_agree p q (x ∷ xs) all = rw (all.0, filter_agree p q xs all.1) refl

  -- functions that agree on the members give the same list
  pub map_agree : {Y : Type 0} (f g : X → Y) (xs : List X) → AllByRecursion (λ x. f x ≡ g x) xs → map f xs ≡ map g xs
  map_agree f g [] all = refl
  map_agree f g (x ∷ xs) all = rw (all.0, map_agree f g xs all.1) refl
