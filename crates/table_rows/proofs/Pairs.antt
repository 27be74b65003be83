-- A relation between each item and every later one.
--     pairs_kept, pairs_to_middle, pairs_put      what a filter keeps, and an item more
use Rattle.std.proofs.Common.{Bool, true, false, cond, not, List, [], ◌∷◌, ◌++◌, filter, subst, sym}
use Rattle.std.specs.List.{AllByRecursion}
use Rattle.index_tree.specs.Parts.{IsParted, put_between}
use Rattle.index_tree.proofs.Elements.{all_kept, all_append, all_front, all_back}
use Rattle.table_rows.specs.Valid.{EachPair}

module _ {X : Type 0} (R : X → X → Type 0) where
  pub pairs_kept : (test : X → Bool) (xs : List X) → EachPair R xs → EachPair R (filter test xs)
  pairs_kept test [] pairs = tt
  pairs_kept test (x ∷ xs) pairs = by_test (pairs_kept test xs pairs.1) (test x)
    where
      by_test : EachPair R (filter test xs) → (b : Bool) → EachPair R (cond b (x ∷ filter test xs) (filter test xs))
      by_test rest true = (all_kept (R x) test xs pairs.0, rest)
      by_test rest false = rest

  pub pairs_to_middle : ((x y : X) → R x y → R y x) → (xs : List X) (x : X) (ys : List X) → AllByRecursion (R x) (xs ++ ys) → EachPair R (xs ++ ys) → EachPair R (xs ++ x ∷ ys)
  pairs_to_middle back [] x ys all pairs = (all, pairs)
  pairs_to_middle back (y ∷ xs) x ys all pairs =
      (all_append (R y) xs (x ∷ ys) (all_front (R y) xs ys pairs.0) (back x y all.0, all_back (R y) xs ys pairs.0), pairs_to_middle back xs x ys all.1 pairs.1)

  -- an item more, among those that a test parts
  pub pairs_put : ((x y : X) → R x y → R y x) → (test : X → Bool) (x : X) (xs : List X) → IsParted test xs → AllByRecursion (R x) xs → EachPair R xs → EachPair R (put_between test x xs)
  pairs_put back test x xs parted all pairs =
      pairs_to_middle back (filter test xs) x (filter (λ y. not (test y)) xs) (subst (AllByRecursion (R x)) (sym parted) all) (subst (EachPair R) (sym parted) pairs)
