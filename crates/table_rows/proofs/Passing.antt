-- What a test says of all items of a list.
--     filter_all, filter_none, any_false, none_any, any_middle, any_member      lists whose items pass, or fail
--     filter_put, put_first, put_later, any_put      an item between those that another test parts
--     position_none, none_position      no place
use Rattle.std.proofs.Common.{◌≡◌, ℕ, ◌+◌, Bool, true, false, cond, not, List, [], ◌∷◌, ◌++◌, filter, Some, None, Contains, sym, refl, ap, ◌∙◌, inl, inr}
use Rattle.std.specs.List.{AllByRecursion, list_any, position_from}
use Rattle.std.proofs.lemmas.Bool.{or_parts, or_left, or_right}
use Rattle.std.proofs.lemmas.List.Elements.{filter-append}
use Rattle.index_tree.specs.Parts.{IsParted, put_between}
use Rattle.index_tree.proofs.Elements.{no_member, contains_cases, some_is_none}

module _ {X : Type 0} (test : X → Bool) where
  pub filter_all : (xs : List X) → AllByRecursion (λ x. test x ≡ true) xs → filter test xs ≡ xs
  filter_all [] all = refl
  filter_all (x ∷ xs) all = rw all.0 (ap (λ (ys : List X). x ∷ ys) (filter_all xs all.1))

  pub filter_none : (xs : List X) → AllByRecursion (λ x. test x ≡ false) xs → filter test xs ≡ []
  filter_none [] all = refl
  filter_none (x ∷ xs) all = rw all.0 (filter_none xs all.1)

  pub others_all : (xs : List X) → AllByRecursion (λ x. test x ≡ false) xs → filter (λ x. not (test x)) xs ≡ xs
  others_all [] all = refl
  others_all (x ∷ xs) all = rw all.0 (ap (λ (ys : List X). x ∷ ys) (others_all xs all.1))

  pub any_false : (xs : List X) → list_any test xs ≡ false → AllByRecursion (λ x. test x ≡ false) xs
  any_false [] none = tt
  any_false (x ∷ xs) none = let parts = or_parts (test x) (list_any test xs) none in (parts.0, any_false xs parts.1)

  pub none_any : (xs : List X) → AllByRecursion (λ x. test x ≡ false) xs → list_any test xs ≡ false
  none_any [] all = refl
  none_any (x ∷ xs) all = rw all.0 (none_any xs all.1)

  pub any_middle : (xs : List X) (x : X) (ys : List X) → test x ≡ true → list_any test (xs ++ x ∷ ys) ≡ true
  any_middle [] x ys passes = or_left (test x) _ passes
  any_middle (y ∷ xs) x ys passes = or_right (test y) _ (any_middle xs x ys passes)

  pub any_member : (xs : List X) (x : X) → Contains xs x → test x ≡ true → list_any test xs ≡ true
  any_member [] x has passes = absurd (no_member x has)
  any_member (y ∷ xs) x has passes = elim (contains_cases y xs x has) [
    | inl same ↦ or_left (test y) _ (ap test same ∙ passes)
    | inr later ↦ or_right (test y) _ (any_member xs x later passes)
  ]

  -- an item that a test lets go leaves what the test keeps
  pub filter_put : (other : X → Bool) (x : X) (xs : List X) → IsParted other xs → test x ≡ false → filter test (put_between other x xs) ≡ filter test xs
  filter_put other x xs parted fails =
      let front = filter other xs in
      let back = filter (λ y. not (other y)) xs in
      let gone : filter test (x ∷ back) ≡ filter test back = rw fails refl in
      filter-append test front (x ∷ back) ∙ ap (λ (ys : List X). filter test front ++ ys) gone ∙ sym (filter-append test front back) ∙ ap (filter test) parted

  -- an item behind those that pass, and in front of the others
  pub put_first : (x : X) (xs : List X) → AllByRecursion (λ y. test y ≡ false) xs → put_between test x xs ≡ x ∷ xs
  put_first x xs all = rw (filter_none xs all) (ap (λ (ys : List X). x ∷ ys) (others_all xs all))

  pub put_later : (x y : X) (ys : List X) → test y ≡ true → put_between test x (y ∷ ys) ≡ y ∷ put_between test x ys
  put_later x y ys passes = rw passes refl

  pub any_put : (other : X → Bool) (x : X) (xs : List X) → test x ≡ true → list_any test (put_between other x xs) ≡ true
  any_put other x xs passes = any_middle (filter other xs) x (filter (λ y. not (other y)) xs) passes

  pub position_none : (n : ℕ) (xs : List X) → position_from test n xs ≡ None → AllByRecursion (λ x. test x ≡ false) xs
  position_none n [] none = tt
  position_none n (x ∷ xs) none = by_test (position_none (n + 1) xs) (test x) refl none
    where
      by_test : (position_from test (n + 1) xs ≡ None → AllByRecursion (λ y. test y ≡ false) xs) → (b : Bool) → test x ≡ b → cond b (Some n) (position_from test (n + 1) xs) ≡ None → AllByRecursion (λ y. test y ≡ false) (x ∷ xs)
      by_test rest true passes some = absurd (some_is_none n some)
      by_test rest false fails none = (fails, rest none)

  pub none_position : (n : ℕ) (xs : List X) → AllByRecursion (λ x. test x ≡ false) xs → position_from test n xs ≡ None
  none_position n [] all = refl
  none_position n (x ∷ xs) all = rw all.0 (none_position (n + 1) xs all.1)
