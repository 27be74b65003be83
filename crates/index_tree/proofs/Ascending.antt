-- Items in the order of a comparison: which tests part them, and what keeps them in order.
--     less_is, equal_is, greater_is, greater_back, less_back, apart_back      what a comparison's answer says
--     below_closed, through_closed, either_closed, both_closed      tests that hold of each item before one that passes
--     ascending_falls, ascending_parted, parted_below, parted_through, parted_beside      what a cut owes
--     ascending_kept, ascending_removed, ascending_append, ascending_front, ascending_back      filter, removal, parts
--     ascending_with_item      an item that compares Equal to none is put in its place
--     ascending_agree, ascending_mapped, ascending_unmapped      another order, and through a function
use Rattle.std.proofs.Common.{◌≡◌, ℕ, zero, suc, Bool, true, false, not, ◌&&◌, cond, List, [], ◌∷◌, ◌++◌, map, filter, remove, Contains, sym, refl, ap, ◌∙◌}
use Rattle.std.specs.declared.cmp.Ordering.{Ordering}
use Rattle.std.specs.declared.cmp.Ordering.TheVariants.{Less, Equal, Greater}
use Rattle.std.specs.Ordering.{is_lt, is_eq, is_gt, ordering_reverse}
use Rattle.std.specs.Cmp.{IsTotalOrder}
use Rattle.std.specs.List.{AllByRecursion}
use Rattle.std.proofs.lemmas.Bool.{not-true, not_from_false, true≢false}
use Rattle.std.proofs.lemmas.Cmp.{upto}
use Rattle.index_tree.specs.Parts.{IsParted}
use Rattle.index_tree.specs.Ordered.{IsAscending, IsApartFrom, IsClosedDown, is_below, is_through, with_item}
use Rattle.index_tree.proofs.Cuts.{Falls, parted_from_falls}
use Rattle.index_tree.proofs.Elements.{all_kept, all_weaker, all_append, all_front, all_removed, all_mapped, all_unmapped, all_members, each_member, contains_first, contains_later, kept_passes, member_of_kept}

pub less_is : (r : Ordering) → is_lt r ≡ true → r ≡ Less
less_is Less e = refl
less_is Equal e = absurd (true≢false (sym e))
less_is Greater e = absurd (true≢false (sym e))

pub equal_is : (r : Ordering) → is_eq r ≡ true → r ≡ Equal
equal_is Less e = absurd (true≢false (sym e))
equal_is Equal e = refl
equal_is Greater e = absurd (true≢false (sym e))

pub greater_is : (r : Ordering) → is_gt r ≡ true → r ≡ Greater
greater_is Less e = absurd (true≢false (sym e))
greater_is Equal e = absurd (true≢false (sym e))
greater_is Greater e = refl

-- what is not before and not the same stands after
pub less_when_left : (r : Ordering) → is_lt (ordering_reverse r) ≡ false → is_eq r ≡ false → r ≡ Less
less_when_left Less e apart = refl
less_when_left Equal e apart = absurd (true≢false apart)
less_when_left Greater e apart = absurd (true≢false e)

eq_reversed : (r : Ordering) → is_eq (ordering_reverse r) ≡ is_eq r
eq_reversed Less = refl
eq_reversed Equal = refl
eq_reversed Greater = refl

-- facts of one comparison, whether it is total or not
module _ {X : Type 0} (cmp : X → X → Ordering) where
  later_fail : (test : X → Bool) → IsClosedDown cmp test → (x : X) → test x ≡ false → (xs : List X) → AllByRecursion (λ y. cmp x y ≡ Less) xs → AllByRecursion (λ y. test y ≡ false) xs
  later_fail test closed x fails [] later = tt
  later_fail test closed x fails (y ∷ ys) later = (fails_at (test y) refl, later_fail test closed x fails ys later.1)
    where
      fails_at : (b : Bool) → test y ≡ b → test y ≡ false
      fails_at true passes = absurd (true≢false (sym (closed x y later.0 passes) ∙ fails))
      fails_at false fail = fail

  pub ascending_falls : (test : X → Bool) → IsClosedDown cmp test → (xs : List X) → IsAscending cmp xs → Falls test xs
  ascending_falls test closed [] ascending = tt
  ascending_falls test closed (x ∷ xs) ascending = (λ fails. later_fail test closed x fails xs ascending.0, ascending_falls test closed xs ascending.1)

  -- a test that holds of each item before one that passes parts the items
  pub ascending_parted : (test : X → Bool) → IsClosedDown cmp test → (xs : List X) → IsAscending cmp xs → IsParted test xs
  ascending_parted test closed xs ascending = parted_from_falls test xs (ascending_falls test closed xs ascending)

  -- the items that a filter keeps are in order
  pub ascending_kept : (test : X → Bool) (xs : List X) → IsAscending cmp xs → IsAscending cmp (filter test xs)
  ascending_kept test [] ascending = tt
  ascending_kept test (x ∷ xs) ascending = by_test (ascending_kept test xs ascending.1) (test x)
    where
      by_test : IsAscending cmp (filter test xs) → (b : Bool) → IsAscending cmp (cond b (x ∷ filter test xs) (filter test xs))
      by_test rest true = (all_kept (λ (y : X). cmp x y ≡ Less) test xs ascending.0, rest)
      by_test rest false = rest

  -- and so are those without the one at a place
  pub ascending_removed : (xs : List X) (k : ℕ) → IsAscending cmp xs → IsAscending cmp (remove xs k)
  ascending_removed [] zero ascending = tt
  ascending_removed [] (suc k) ascending = tt
  ascending_removed (x ∷ xs) zero ascending = ascending.1
  ascending_removed (x ∷ xs) (suc k) ascending = (all_removed (λ (y : X). cmp x y ≡ Less) xs k ascending.0, ascending_removed xs k ascending.1)

  pub ascending_append : (xs ys : List X) → IsAscending cmp xs → IsAscending cmp ys → AllByRecursion (λ x. AllByRecursion (λ y. cmp x y ≡ Less) ys) xs → IsAscending cmp (xs ++ ys)
  ascending_append [] ys front back across = back
  ascending_append (x ∷ xs) ys front back across = (all_append (λ (y : X). cmp x y ≡ Less) xs ys front.0 across.0, ascending_append xs ys front.1 back across.1)

  pub ascending_front : (xs ys : List X) → IsAscending cmp (xs ++ ys) → IsAscending cmp xs
  ascending_front [] ys ascending = tt
  ascending_front (x ∷ xs) ys ascending = (all_front (λ (y : X). cmp x y ≡ Less) xs ys ascending.0, ascending_front xs ys ascending.1)

  pub ascending_back : (xs ys : List X) → IsAscending cmp (xs ++ ys) → IsAscending cmp ys
  ascending_back [] ys ascending = ascending
  ascending_back (x ∷ xs) ys ascending = ascending_back xs ys ascending.1

  -- an order that agrees on all members finds the same items in order
  pub ascending_agree : (other : X → X → Ordering) (xs : List X) → ((x y : X) → Contains xs x → Contains xs y → cmp x y ≡ other x y) → IsAscending cmp xs → IsAscending other xs
  ascending_agree other [] agree ascending = tt
  ascending_agree other (x ∷ xs) agree ascending = (
    each_member (λ (y : X). other x y ≡ Less) xs (λ y inside. sym (agree x y (contains_first x xs) (contains_later x xs y inside)) ∙ all_members (λ (z : X). cmp x z ≡ Less) xs y ascending.0 inside),
    ascending_agree other xs (λ y z first second. agree y z (contains_later x xs y first) (contains_later x xs z second)) ascending.1,
  )

  module _ {S : Type 0} (f : S → X) where
    -- items whose values ascend have ascending values, and the other way round
    pub ascending_mapped : (xs : List S) → IsAscending (λ a b. cmp (f a) (f b)) xs → IsAscending cmp (map f xs)
    ascending_mapped [] ascending = tt
    ascending_mapped (x ∷ xs) ascending = (all_mapped (λ (y : X). cmp (f x) y ≡ Less) f xs ascending.0, ascending_mapped xs ascending.1)

    pub ascending_unmapped : (xs : List S) → IsAscending cmp (map f xs) → IsAscending (λ a b. cmp (f a) (f b)) xs
    ascending_unmapped [] ascending = tt
    ascending_unmapped (x ∷ xs) ascending = (all_unmapped (λ (y : X). cmp (f x) y ≡ Less) f xs ascending.0, ascending_unmapped xs ascending.1)

  -- one such test or another, as for an edge that lets in its own key or doesn't
  pub either_closed : (b : Bool) (p q : X → Bool) → IsClosedDown cmp p → IsClosedDown cmp q → IsClosedDown cmp (λ x. cond b (p x) (q x))
  either_closed true p q first second = first
  either_closed false p q first second = second

  both_pass : (s t : Bool) → (s && t) ≡ true → (s ≡ true) × (t ≡ true)
  both_pass true true e = (refl, refl)
  both_pass true false e = absurd (true≢false (sym e))
  both_pass false t e = absurd (true≢false (sym e))

  -- two such tests together are one
  pub both_closed : (p q : X → Bool) → IsClosedDown cmp p → IsClosedDown cmp q → IsClosedDown cmp (λ x. p x && q x)
  both_closed p q first second x y less passes = let both = both_pass (p y) (q y) passes in rw (first x y less both.0, second x y less both.1) refl

module _ {X : Type 0} (cmp : X → X → Ordering) (order : IsTotalOrder cmp) where
  pub greater_back : (x y : X) → cmp x y ≡ Less → cmp y x ≡ Greater
  greater_back x y less = order.antisymm y x ∙ ap ordering_reverse less

  pub less_back : (x y : X) → cmp x y ≡ Greater → cmp y x ≡ Less
  less_back x y greater = order.antisymm y x ∙ ap ordering_reverse greater

  pub apart_back : (x y : X) → is_eq (cmp x y) ≡ false → is_eq (cmp y x) ≡ false
  apart_back x y apart = ap is_eq (order.antisymm y x) ∙ eq_reversed (cmp x y) ∙ apart

  pub below_closed : (x : X) → IsClosedDown cmp (is_below cmp x)
  below_closed key x y less before = ap is_lt (order.trans x y key less (less_is _ before))

  pub through_closed : (x : X) → IsClosedDown cmp (is_through cmp x)
  through_closed key x y less through = not_from_false (is_gt (cmp x key)) (upto order x y key (ap is_gt less) (not-true _ through))

  -- the items before one, and those up to it, stand before all others
  pub parted_below : (x : X) (xs : List X) → IsAscending cmp xs → IsParted (is_below cmp x) xs
  parted_below x = ascending_parted cmp (is_below cmp x) (below_closed x)

  pub parted_through : (x : X) (xs : List X) → IsAscending cmp xs → IsParted (is_through cmp x) xs
  parted_through x = ascending_parted cmp (is_through cmp x) (through_closed x)

  -- one or the other, as for an edge with its own key or without it
  pub parted_beside : (is_behind : Bool) (x : X) (xs : List X) → IsAscending cmp xs → IsParted (λ y. cond is_behind (is_through cmp x y) (is_below cmp x y)) xs
  parted_beside true x xs ascending = parted_through x xs ascending
  parted_beside false x xs ascending = parted_below x xs ascending

  -- what is not below an item that it is apart from stands behind it
  behind_is : (x : X) (xs : List X) → IsApartFrom cmp x xs → AllByRecursion (λ y. cmp x y ≡ Less) (filter (λ y. not (is_below cmp x y)) xs)
  behind_is x xs apart =
      let test = λ (y : X). not (is_below cmp x y) in
      each_member (λ (y : X). cmp x y ≡ Less) (filter test xs) (λ y inside. less_when_left (cmp x y)
      (ap is_lt (sym (order.antisymm y x)) ∙ not-true _ (kept_passes test xs y inside))
      (all_members (λ (z : X). is_eq (cmp x z) ≡ false) xs y apart (member_of_kept test xs y inside)))

  -- an item that compares Equal to none keeps the order where it is put behind those before it
  pub ascending_with_item : (x : X) (xs : List X) → IsApartFrom cmp x xs → IsAscending cmp xs → IsAscending cmp (with_item cmp x xs)
  ascending_with_item x xs apart ascending =
      let front = filter (is_below cmp x) xs in
      let back = filter (λ (y : X). not (is_below cmp x y)) xs in
      let behind = behind_is x xs apart in
      ascending_append cmp front (x ∷ back) (ascending_kept cmp (is_below cmp x) xs ascending) (behind, ascending_kept cmp (λ (y : X). not (is_below cmp x y)) xs ascending)
      (each_member (λ (y : X). AllByRecursion (λ (z : X). cmp y z ≡ Less) (x ∷ back)) front (λ y inside.
      let less = less_is (cmp y x) (kept_passes (is_below cmp x) xs y inside) in
      (less, all_weaker (λ (z : X). cmp x z ≡ Less) (λ (z : X). cmp y z ≡ Less) (λ z later. order.trans y x z less later) back behind)))
