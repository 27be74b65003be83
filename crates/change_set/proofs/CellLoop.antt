-- Reading cells one after the other, as a loop does.
--     next_is, rest_none, column_next, column_none      what a loop goes on to
--     with_front      what was read before, and what is still read
--     cells_go_on, cells_end, cells_done      one cell more, a fault, and the end
use Rattle.std.proofs.Common.{◌≡◌, ◌+◌, ◌<◌, ◌≤◌, List, [], ◌∷◌, ◌++◌, ℕ, length, get_or, drop, All, Option, Some, None, refl, sym, ap, ◌∙◌, append_assoc, arith, length-drop}
use Rattle.std.proofs.lemmas.List.{append-nil, drop_more, nil_from_length, get_or_default}
use Rattle.row_types.specs.declared.values.Value.{Value}
use Rattle.row_types.specs.declared.columns.Column.{Column}
use Rattle.change_set.specs.declared.fault.Fault.{Fault}
use Rattle.change_set.specs.declared.fault.Fault.TheVariants as faults
use Rattle.change_set.specs.Fitting.{columns_at, no_column}
use Rattle.change_set.specs.Reading.{◌>>=◌, Fails, cell_at, cells_at}

-- the item at a place and those behind it
pub next_is : {X : Type 0} (xs : List X) (i : ℕ) (x : X) → i < length xs → x ≡ get_or xs i x → drop i xs ≡ x ∷ drop (i + 1) xs
next_is xs i x lt is = drop_more xs i x lt ∙ ap (λ y. y ∷ drop (i + 1) xs) (sym is)

-- and none at the end
pub rest_none : {X : Type 0} (xs : List X) (i : ℕ) → length xs ≤ i → drop i xs ≡ []
rest_none xs i le = nil_from_length (drop i xs) (omega (arith, length-drop i xs))

-- the column at the next place and those behind it
pub column_next : (columns : List Column) (places : List ℕ) (i : ℕ) (column : Column) → All (λ (place : ℕ). place < length columns) places → i < length places → column ≡ get_or columns (get_or places i 0) column → columns_at columns (drop i places) ≡ column ∷ columns_at columns (drop (i + 1) places)
column_next columns places i column within lt is =
    ap (columns_at columns) (drop_more places i 0 lt)
    ∙ ap (λ (c : Column). c ∷ columns_at columns (drop (i + 1) places)) (sym (is ∙ get_or_default columns (get_or places i 0) column no_column (within i 0 lt)))

pub column_none : (columns : List Column) (places : List ℕ) (i : ℕ) → length places ≤ i → columns_at columns (drop i places) ≡ []
column_none columns places i le = ap (columns_at columns) (rest_none places i le)

abbrev pub with_front : List Value → Option (List Value × List ℕ) → Option (List Value × List ℕ)
with_front front read = read >>= λ x. Some (front ++ x.0, x.1)

regroup : (front : List Value) (cell : Value) (read : Option (List Value × List ℕ)) → with_front front (read >>= λ x. Some (cell ∷ x.0, x.1)) ≡ with_front (front ++ cell ∷ []) read
regroup front cell None = refl
regroup front cell (Some x) = ap (λ (cells : List Value). Some (cells, x.1)) (sym (append_assoc front (cell ∷ []) x.0))

pub cells_go_on : (front : List Value) (all : List Column) (column : Column) (columns : List Column) (bytes : List ℕ) (cell : Value) (after : List ℕ) (total : Option (List Value × List ℕ)) → all ≡ column ∷ columns → cell_at column bytes ≡ Some (cell, after)
    → with_front front (cells_at all bytes) ≡ total → with_front (front ++ cell ∷ []) (cells_at columns after) ≡ total
unfolding cells_at
cells_go_on front all column columns bytes cell after total is read so_far =
    let one : with_front front (cells_at all bytes) ≡ with_front (front ++ cell ∷ []) (cells_at columns after) = rw (is, read) (regroup front cell (cells_at columns after)) in
    sym one ∙ so_far

pub cells_end : (fault : Fault) (front : List Value) (all : List Column) (column : Column) (columns : List Column) (bytes : List ℕ) (total : Option (List Value × List ℕ)) → all ≡ column ∷ columns → Fails fault (cell_at column bytes)
    → with_front front (cells_at all bytes) ≡ total → Fails fault total
unfolding cells_at
cells_end faults.NoMemory front all column columns bytes total is fails so_far = tt
cells_end faults.Unreadable front all column columns bytes total is fails so_far =
    let one : with_front front (cells_at all bytes) ≡ None = rw (is, fails) refl in
    sym so_far ∙ one

pub cells_done : (front : List Value) (all : List Column) (bytes : List ℕ) (total : Option (List Value × List ℕ)) → all ≡ [] → with_front front (cells_at all bytes) ≡ total → total ≡ Some (front, bytes)
unfolding cells_at
cells_done front all bytes total is so_far =
    let one : with_front front (cells_at all bytes) ≡ Some (front, bytes) = rw is (ap (λ (cells : List Value). Some (cells, bytes)) (append-nil front)) in
    sym so_far ∙ one
