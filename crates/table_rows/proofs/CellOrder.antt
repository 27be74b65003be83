-- The order of rows by their cells: it is total, finer columns keep rows apart, and a cut at a prefix parts a walk.
use Rattle.std.proofs.Common.{◌≡◌, ℕ, zero, suc, Bool, true, false, not, List, [], ◌∷◌, ◌++◌, length, take, sym, refl, ap, ◌∙◌, arith}
use Rattle.std.specs.declared.cmp.Ordering.{Ordering}
use Rattle.std.specs.declared.cmp.Ordering.TheVariants.{Less, Equal, Greater}
use Rattle.std.specs.Ordering.{ordering_then, is_lt, is_eq, is_gt}
use Rattle.std.specs.Cmp.{IsTotalOrder}
use Rattle.std.proofs.lemmas.Bool.{true≢false}
use Rattle.std.proofs.lemmas.Cmp.{on_total, upto}
use Rattle.std.proofs.lemmas.List.{map-append, length-map, take_all, take_at}
use Rattle.row_types.specs.declared.values.Value.{Value}
use Rattle.row_types.specs.Order.{value_cmp, key_cmp, prefix_cmp}
use Rattle.row_types.proofs.Orders.{key_cmp_total}
use Rattle.index_tree.specs.Ordered.{IsAscending, IsApartFrom, AreApart, IsClosedDown}
use Rattle.index_tree.specs.Parts.{IsParted}
use Rattle.index_tree.proofs.Apart.{apart_finer}
use Rattle.index_tree.proofs.Ascending.{less_is, ascending_parted, apart_back}
use Rattle.table_rows.specs.Entries.{Entry, cell_at, cells, entry_cmp}
use Rattle.table_rows.specs.StoreWalks.{IsNew}
use Rattle.table_rows.specs.StoreInside.{stands, is_ahead_of}

pub entry_cmp_total : (columns : List ℕ) → IsTotalOrder (entry_cmp columns)
entry_cmp_total columns = on_total (λ (e : Entry). cells columns e.0) key_cmp_total

-- rows that differ at some columns differ at more of them
pub differ_at_more : (own key : List ℕ) (a b : List Value) → is_eq (key_cmp (cells key a) (cells key b)) ≡ false → is_eq (key_cmp (cells (own ++ key) a) (cells (own ++ key) b)) ≡ false
differ_at_more [] key a b differ = differ
differ_at_more (c ∷ own) key a b differ = by_first (value_cmp (cell_at a c) (cell_at b c)) (differ_at_more own key a b differ)
  where
    by_first : (o : Ordering) → is_eq (key_cmp (cells (own ++ key) a) (cells (own ++ key) b)) ≡ false → is_eq (ordering_then o (key_cmp (cells (own ++ key) a) (cells (own ++ key) b))) ≡ false
    by_first Less rest = refl
    by_first Equal rest = rest
    by_first Greater rest = refl

-- so what is new by the key is new by more columns
pub new_at_more : (own key : List ℕ) (row : List Value) (entries : List Entry) → IsNew key row entries → IsNew (own ++ key) row entries
new_at_more own key row [] new = tt
new_at_more own key row (e ∷ es) new = (differ_at_more own key e.0 row new.0, new_at_more own key row es new.1)

pub apart_at_more : (own key : List ℕ) (entries : List Entry) → AreApart (entry_cmp key) entries → AreApart (entry_cmp (own ++ key)) entries
apart_at_more own key = apart_finer (entry_cmp key) (entry_cmp (own ++ key)) (λ x y. differ_at_more own key x.0 y.0)

-- a new row is apart from all entries
pub apart_from_new : (columns : List ℕ) (row : List Value) (slot : ℕ) (entries : List Entry) → IsNew columns row entries → IsApartFrom (entry_cmp columns) (row, slot) entries
apart_from_new columns row slot [] new = tt
apart_from_new columns row slot (e ∷ es) new = (apart_back (entry_cmp columns) (entry_cmp_total columns) e (row, slot) new.0, apart_from_new columns row slot es new.1)

pub new_from_apart : (columns : List ℕ) (row : List Value) (slot : ℕ) (entries : List Entry) → IsApartFrom (entry_cmp columns) (row, slot) entries → IsNew columns row entries
new_from_apart columns row slot [] apart = tt
new_from_apart columns row slot (e ∷ es) apart = (apart_back (entry_cmp columns) (entry_cmp_total columns) (row, slot) e apart.0, new_from_apart columns row slot es apart.1)

-- the fronts of two keys in order are in order, or equal
fronts_upto : (n : ℕ) (a b : List Value) → is_gt (key_cmp a b) ≡ false → is_gt (key_cmp (take n a) (take n b)) ≡ false
fronts_upto zero a b upto_all = refl
fronts_upto (suc n) [] [] upto_all = refl
fronts_upto (suc n) [] (y ∷ b) upto_all = refl
fronts_upto (suc n) (x ∷ a) [] upto_all = absurd (true≢false upto_all)
fronts_upto (suc n) (x ∷ a) (y ∷ b) upto_all = by_first (value_cmp x y) (fronts_upto n a b) upto_all
  where
    by_first : (o : Ordering) → (is_gt (key_cmp a b) ≡ false → is_gt (key_cmp (take n a) (take n b)) ≡ false) → is_gt (ordering_then o (key_cmp a b)) ≡ false → is_gt (ordering_then o (key_cmp (take n a) (take n b))) ≡ false
    by_first Less rest upto_all = refl
    by_first Equal rest upto_all = rest upto_all
    by_first Greater rest upto_all = upto_all

-- what is at most another, which stands before a cut, stands before it too
stands_below : (through : Bool) (a b v : List Value) → is_gt (key_cmp a b) ≡ false → stands through (key_cmp b v) ≡ true → stands through (key_cmp a v) ≡ true
stands_below true a b v below before = not_gt (is_gt (key_cmp a v)) (upto key_cmp_total a b v below (gt_not (is_gt (key_cmp b v)) before))
  where
    not_gt : (t : Bool) → t ≡ false → not t ≡ true
    not_gt true e = absurd (true≢false e)
    not_gt false e = refl

    gt_not : (t : Bool) → not t ≡ true → t ≡ false
    gt_not true e = absurd (true≢false (sym e))
    gt_not false e = refl
stands_below false a b v below before = by_order (key_cmp a b) refl below
  where
    by_order : (o : Ordering) → key_cmp a b ≡ o → is_gt o ≡ false → is_lt (key_cmp a v) ≡ true
    by_order Less less upto_b = ap is_lt (key_cmp_total.trans a b v less (less_is (key_cmp b v) before))
    by_order Equal same upto_b = ap is_lt (key_cmp_total.congr a b v same) ∙ before
    by_order Greater more upto_b = absurd (true≢false upto_b)

-- a cut at the front of a key parts the entries in the order of all columns
pub cut_closed : (columns : List ℕ) (values : List Value) (through : Bool) → IsClosedDown (entry_cmp columns) (is_ahead_of columns values through)
cut_closed columns values through x y less before =
    stands_below through (take (length values) (cells columns x.0)) (take (length values) (cells columns y.0)) values
    (fronts_upto (length values) (cells columns x.0) (cells columns y.0) (ap is_gt less)) before

pub cut_parts : (columns : List ℕ) (values : List Value) (through : Bool) (entries : List Entry) → IsAscending (entry_cmp columns) entries → IsParted (is_ahead_of columns values through) entries
cut_parts columns values through = ascending_parted (entry_cmp columns) (is_ahead_of columns values through) (cut_closed columns values through)

-- a prefix of all cells is a comparison of all cells
pub prefix_of_all : (columns : List ℕ) (a b : List Value) → prefix_cmp (cells columns a) (cells columns b) ≡ key_cmp (cells columns a) (cells columns b)
prefix_of_all columns a b =
    ap (λ (cs : List Value). key_cmp cs (cells columns b)) (take_all (length (cells columns b)) (cells columns a) (omega (arith, length-map columns (cell_at a), length-map columns (cell_at b))))

-- the cells of an index's own columns are a prefix of those of the whole columns
pub prefix_of_whole : (own key : List ℕ) (a b : List Value) → prefix_cmp (cells (own ++ key) a) (cells own b) ≡ key_cmp (cells own a) (cells own b)
prefix_of_whole own key a b =
    ap (λ (cs : List Value). key_cmp cs (cells own b))
    (ap (take (length (cells own b))) (map-append (cell_at a) own key) ∙ take_at (cells own a) (cells key a) (length (cells own b)) (length-map own (cell_at a) ∙ sym (length-map own (cell_at b))))
