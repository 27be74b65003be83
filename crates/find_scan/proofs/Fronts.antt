-- Of a walk from a key on, the rows with the key are the front.
use Rattle.std.proofs.Common.{◌≡◌, ℕ, ◌≤◌, Bool, true, false, not, List, [], ◌∷◌, ◌++◌, length, filter, refl, sym, ap, ◌∙◌, arith}
use Rattle.std.specs.declared.cmp.Ordering.{Ordering}
use Rattle.std.specs.declared.cmp.Ordering.TheVariants.{Less, Equal, Greater}
use Rattle.std.specs.Ordering.{ordering_then, is_lt, is_eq, is_gt}
use Rattle.std.specs.List.{AllByRecursion, take_while}
use Rattle.std.proofs.lemmas.Bool.{true≢false}
use Rattle.std.proofs.lemmas.List.Sums.{take_while-cons}
use Rattle.row_types.specs.declared.values.Value.{Value}
use Rattle.row_types.specs.Order.{value_cmp, prefix_cmp}
use Rattle.index_tree.specs.Ordered.{IsAscending}
use Rattle.index_tree.proofs.Cuts.{filter_none}
use Rattle.table_rows.specs.Entries.{Entry, cell_at, cells, entry_cmp}
use Rattle.table_rows.proofs.CellOrder.{cut_closed}
use Rattle.request_types.specs.declared.finds.FindOp.{FindOp}
use Rattle.request_types.specs.declared.finds.FindOp.TheVariants as ops
use Rattle.table_rows.specs.Walks.{walked}
use Rattle.find_scan.specs.Select.{is_asked, directed, stands_to}
use Rattle.find_scan.specs.Gathering.{front_of, is_equal, bound_of}

-- a key of no more values than columns compares with the cells at these alone
pub first_cells : (columns more : List ℕ) (key row : List Value) → length key ≤ length columns → prefix_cmp (cells (columns ++ more) row) key ≡ prefix_cmp (cells columns row) key
first_cells columns more [] row short = refl
first_cells [] more (v ∷ key) row short = absurd (omega (arith, short))
first_cells (c ∷ columns) more (v ∷ key) row short = ap (ordering_then (value_cmp (cell_at row c) v)) (first_cells columns more key row (omega (arith, short)))

module _ (columns : List ℕ) (key : List Value) where
  abbrev at_key : Entry → Bool
  at_key entry = is_eq (stands_to columns key entry)

  abbrev from_key : Entry → Bool
  from_key entry = not (is_lt (stands_to columns key entry))

  -- what stands behind a row beyond the key doesn't have the key
  beyond : (x y : Entry) → entry_cmp columns x y ≡ Less → stands_to columns key x ≡ Greater → at_key y ≡ false
  beyond x y less greater = by_order (stands_to columns key y) refl
    where
      by_order : (o : Ordering) → stands_to columns key y ≡ o → at_key y ≡ false
      by_order Less e = ap is_eq e
      by_order Equal e = absurd (true≢false (sym (cut_closed columns key true x y less (ap (λ (o : Ordering). not (is_gt o)) e)) ∙ ap (λ (o : Ordering). not (is_gt o)) greater))
      by_order Greater e = ap is_eq e

  none_beyond : (x : Entry) (ys : List Entry) → AllByRecursion (λ y. entry_cmp columns x y ≡ Less) ys → stands_to columns key x ≡ Greater → AllByRecursion (λ y. at_key y ≡ false) ys
  none_beyond x [] later greater = tt
  none_beyond x (y ∷ ys) later greater = (beyond x y later.0 greater, none_beyond x ys later.1 greater)

  pub equal_front : (xs : List Entry) → IsAscending (entry_cmp columns) xs → take_while at_key (filter from_key xs) ≡ filter at_key xs
  equal_front [] ascending = refl
  equal_front (x ∷ xs) ascending = by_order (equal_front xs ascending.1) (stands_to columns key x) refl
    where
      by_order : take_while at_key (filter from_key xs) ≡ filter at_key xs → (o : Ordering) → stands_to columns key x ≡ o → take_while at_key (filter from_key (x ∷ xs)) ≡ filter at_key (x ∷ xs)
      by_order rest Less e = rw e rest
      by_order rest Equal e = rw e (take_while-cons at_key x (filter from_key xs) ∙ rw e (ap (λ (ys : List Entry). x ∷ ys) rest))
      by_order rest Greater e = rw e (take_while-cons at_key x (filter from_key xs) ∙ rw e (sym (filter_none at_key xs (none_beyond x xs ascending.0 e))))

-- so the front of a find's walk is what stands to the key as the find asks
pub walked_is : (op : FindOp) (parts more : List ℕ) (key : List Value) (entries : List Entry) → length key ≤ length parts → IsAscending (entry_cmp (parts ++ more)) entries
    → front_of (is_equal op) parts key (walked (bound_of op) (parts ++ more) key entries) ≡ directed op (filter (λ entry. is_asked op (stands_to (parts ++ more) key entry)) entries)
walked_is ops.Equal parts more key entries short ascending =
    ap (λ (test : Entry → Bool). take_while test (filter (from_key (parts ++ more) key) entries)) (λ i entry. is_eq (sym (first_cells parts more key entry.0 short) i))
    ∙ equal_front (parts ++ more) key entries ascending
walked_is ops.Greater parts more key entries short ascending = refl
walked_is ops.GreaterEqual parts more key entries short ascending = refl
walked_is ops.Less parts more key entries short ascending = refl
walked_is ops.LessEqual parts more key entries short ascending = refl
