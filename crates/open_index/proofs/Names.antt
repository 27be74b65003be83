-- The names of a list, and the columns that they name.
use Rattle.std.proofs.Common.{◌≡◌, ◌≤◌, ◌∙◌, ℕ, ◌+◌, ◌<◌, List, [], ◌∷◌, length, get_or, drop, map, Bor, false, ◌==◌, Result, Ok, refl, sym, ap, add-one, drop-cons}
use Rattle.std.proofs.lemmas.Bool.{false≢true}
use Rattle.std.proofs.lemmas.List.{at_drop_all}
use Rattle.std.specs.List.{slice_split}
use Rattle.row_types.specs.declared.columns.Column.{Column}
use Rattle.request_types.specs.declared.codes.Code.{Code}
use Rattle.request_types.specs.declared.faults.Fault.{Fault}
use Rattle.request_types.specs.declared.faults.Fault.TheVariants.{Refused, NoMemory}
use Rattle.open_index.specs.declared.handles.OpenColumn.{OpenColumn}
use Rattle.request_types.specs.Refusal.{◌>>=◌, Fails}
use Rattle.open_index.specs.Open.{names_of, column_onto, columns_onto}

-- The pieces of a text that isn't empty are its names.
pub names_split : (text : List ℕ) → false ≡ (length text == 0) → slice_split (λ b. b == 44) text ≡ names_of text
names_split [] h = absurd (false≢true h)
names_split (b ∷ bs) h = refl

-- The columns of the names that are left.
abbrev pub left : List Column → List OpenColumn → List (Bor (List ℕ)) → Result (List OpenColumn) Code
left columns found names = columns_onto columns found (map (λ name. name.now) names)

here : (columns : List Column) (found : List OpenColumn) (names : List (Bor (List ℕ))) (i : ℕ) (d : Bor (List ℕ)) → i < length names →
    left columns found (drop i names) ≡ (column_onto columns found (get_or names i d).now >>= λ more. left columns more (drop (i + 1) names))
unfolding columns_onto
here columns found names i d lt = rw (add-one, drop-cons names i d) refl

-- The loop goes on.
pub goes_on : (columns : List Column) (found more : List OpenColumn) (names : List (Bor (List ℕ))) (i : ℕ) (d : Bor (List ℕ)) (all : Result (List OpenColumn) Code) →
    i < length names → column_onto columns found (get_or names i d).now ≡ Ok more → left columns found (drop i names) ≡ all → left columns more (drop (i + 1) names) ≡ all
goes_on columns found more names i d all lt is so =
    sym (here columns found names i d lt ∙ ap (λ r. r >>= λ more. left columns more (drop (i + 1) names)) is) ∙ so

-- The loop ends with a fault.
pub ends : (fault : Fault) (columns : List Column) (found : List OpenColumn) (names : List (Bor (List ℕ))) (i : ℕ) (d : Bor (List ℕ)) (all : Result (List OpenColumn) Code) →
    i < length names → Fails fault (column_onto columns found (get_or names i d).now) → left columns found (drop i names) ≡ all → Fails fault all
ends (Refused code) columns found names i d all lt is so =
    sym so ∙ (here columns found names i d lt ∙ ap (λ r. r >>= λ more. left columns more (drop (i + 1) names)) is)
ends NoMemory columns found names i d all lt is so = tt

-- No name is left.
pub is_done : (columns : List Column) (found : List OpenColumn) (names : List (Bor (List ℕ))) (i : ℕ) (all : Result (List OpenColumn) Code) →
    length names ≤ i → left columns found (drop i names) ≡ all → all ≡ Ok found
unfolding columns_onto
is_done columns found names i all le so = sym so ∙ at_drop_all (left columns found) names i le
