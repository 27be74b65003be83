-- Cells that are read are held by their columns and stand in the bytes, and cells that are held are read again.
--     AreKinds, kinds_of, kinds_at      columns that may be, of a table and of its key
--     cells_take, cells_again      both ways
--     AreFit, fit_short, cells_short      each value fits its column; then the texts are short
use Rattle.std.proofs.Common.{◌≡◌, ℕ, zero, suc, ◌^◌, ◌<◌, ◌≤◌, Bool, true, false, cond, ltb, List, [], ◌∷◌, ◌++◌, length, get_or, Some, refl, ap, subst, ◌∙◌, append_assoc, arith}
use Rattle.std.specs.List.{AllByRecursion, AllZip}
use Rattle.std.proofs.lemmas.Bool.{and_parts, ltb-false, leb-true}
use Rattle.std.proofs.lemmas.List.Concat.{flat_map-cons}
use Rattle.row_types.specs.declared.values.Value.{Value}
use Rattle.row_types.specs.declared.values.Value.TheVariants as values
use Rattle.row_types.specs.declared.columns.Column.{Column}
use Rattle.row_types.specs.declared.columns.Kind.{Kind}
use Rattle.row_types.specs.declared.columns.Kind.TheVariants.{Int, Bytes}
use Rattle.row_types.specs.declared.columns.Fit.{Fit}
use Rattle.row_types.specs.declared.columns.Fit.TheVariants.{Fine, WrongKind, Long, NullHere}
use Rattle.row_types.specs.Fit.{kind_fit, fit_of}
use Rattle.row_types.specs.Valid.{IsColumn, is_kind}
use Rattle.change_set.specs.Fitting.{Holds, AreHeld, columns_at, no_column}
use Rattle.change_set.specs.Payload.{value_bytes, values_bytes, IsShort}
use Rattle.change_set.specs.Reading.{◌>>=◌, if_fine, value_at, cell_at, cells_at}
use Rattle.change_set.proofs.Fields.{IsBytes, bind_some, some_is, Takes, takes_then, value_takes, value_again}

-- each column is of integers, or of texts that are not too long
abbrev pub AreKinds : List Column → Type 0
AreKinds columns = AllByRecursion (λ (c : Column). is_kind c.kind ≡ true) columns

pub kinds_of : (columns : List Column) → AllByRecursion IsColumn columns → AreKinds columns
kinds_of [] each = tt
kinds_of (c ∷ cs) each = (each.0.kind, kinds_of cs each.1)

kind_at : (columns : List Column) (place : ℕ) → AreKinds columns → is_kind (get_or columns place no_column).kind ≡ true
kind_at [] place kinds = refl
kind_at (c ∷ cs) zero kinds = kinds.0
kind_at (c ∷ cs) (suc place) kinds = kind_at cs place kinds.1

pub kinds_at : (columns : List Column) (places : List ℕ) → AreKinds columns → AreKinds (columns_at columns places)
kinds_at columns [] kinds = tt
kinds_at columns (place ∷ places) kinds = (kind_at columns place kinds, kinds_at columns places kinds)

not_long : (b : Bool) → cond b Long Fine ≡ Fine → b ≡ false
not_long true e = absurd cc
not_long false e = refl

short_in : (kind : Kind) (text : List ℕ) → is_kind kind ≡ true → kind_fit kind (values.Text text) ≡ Fine → length text < 2 ^ 32
short_in Int text is fine = absurd cc
short_in (Bytes most) text is fine =
    let long : length text ≤ most = ltb-false _ _ (not_long (ltb most (length text)) fine) in
    let most-is : most ≤ 16316 = leb-true _ _ (and_parts _ _ is).1 in
    omega arith

short_fit : (column : Column) (value : Value) → is_kind column.kind ≡ true → fit_of column value ≡ Fine → IsShort value
short_fit column values.Null is fit = tt
short_fit column (values.Int n) is fit = tt
short_fit column (values.Text t) is fit = short_in column.kind t is fit

-- each value fits its column
abbrev pub AreFit : List Column → List Value → Type 0
AreFit columns values = AllZip (λ (column : Column) (value : Value). fit_of column value ≡ Fine) columns values

pub fit_short : (columns : List Column) (row : List Value) → AreKinds columns → AreFit columns row → AllByRecursion IsShort row
fit_short [] [] kinds fit = tt
fit_short [] (v ∷ vs) kinds fit = absurd fit
fit_short (c ∷ cs) [] kinds fit = absurd fit
fit_short (c ∷ cs) (v ∷ vs) kinds fit = (short_fit c v kinds.0 fit.0, fit_short cs vs kinds.1 fit.1)

held_fit : (columns : List Column) (row : List Value) → AreHeld columns row → AreFit columns row
held_fit [] [] held = tt
held_fit [] (v ∷ vs) held = absurd held
held_fit (c ∷ cs) [] held = absurd held
held_fit (c ∷ cs) (v ∷ vs) held = (held.0.fits, held_fit cs vs held.1)

pub cells_short : (columns : List Column) (row : List Value) → AreKinds columns → AreHeld columns row → AllByRecursion IsShort row
cells_short columns row kinds held = fit_short columns row kinds (held_fit columns row held)

fine_some : {X : Type 0} (fit : Fit) (x y : X) → if_fine fit x ≡ Some y → (fit ≡ Fine) × (x ≡ y)
fine_some Fine x y e = (refl, cc)
fine_some WrongKind x y e = absurd cc
fine_some Long x y e = absurd cc
fine_some NullHere x y e = absurd cc

-- what is known of a cell that was read
abbrev TakesCell : Column → List ℕ → Value × List ℕ → Type 0
TakesCell column bytes x = Takes bytes (value_bytes x.0) x.1 × Holds column x.0

cell_takes : (column : Column) (bytes : List ℕ) (x : Value × List ℕ) → IsBytes bytes → cell_at column bytes ≡ Some x → TakesCell column bytes x
unfolding cell_at
cell_takes column bytes x fits e =
    let b = bind_some (value_at bytes) (λ v. if_fine (fit_of column v.0) v) x e in
    let g = fine_some (fit_of column b.0.0) b.0 x b.2 in
    let t = value_takes bytes b.0 fits b.1 in
    let cell : TakesCell column bytes b.0 = (t.takes, record { fits = g.0; held = t.held }) in
    subst (TakesCell column bytes) g.1 cell

cell_again : (column : Column) (value : Value) (rest : List ℕ) → Holds column value → IsShort value → cell_at column (value_bytes value ++ rest) ≡ Some (value, rest)
unfolding cell_at
cell_again column value rest holds short = rw (value_again value rest holds.held short, holds.fits) refl

abbrev pub TakesCells : List Column → List ℕ → List Value × List ℕ → Type 0
TakesCells columns bytes x = Takes bytes (values_bytes x.0) x.1 × AreHeld columns x.0

pub cells_take : (columns : List Column) (bytes : List ℕ) (x : List Value × List ℕ) → IsBytes bytes → cells_at columns bytes ≡ Some x → TakesCells columns bytes x
unfolding cells_at
cells_take [] bytes x fits e =
    let none : TakesCells [] bytes ([], bytes) = (record { parts = refl; rest_fits = fits }, tt) in
    subst (TakesCells [] bytes) (some_is ([], bytes) x e) none
cells_take (column ∷ columns) bytes x fits e =
    let a = bind_some (cell_at column bytes) (λ first. cells_at columns first.1 >>= λ others. Some (first.0 ∷ others.0, others.1)) x e in
    let b = bind_some (cells_at columns a.0.1) (λ others. Some (a.0.0 ∷ others.0, others.1)) x a.2 in
    let first = cell_takes column bytes a.0 fits a.1 in
    let second = cells_take columns a.0.1 b.0 first.0.rest_fits b.1 in
    let both = takes_then bytes (value_bytes a.0.0) a.0.1 (values_bytes b.0.0) b.0.1 first.0 second.0 in
    let made : TakesCells (column ∷ columns) bytes (a.0.0 ∷ b.0.0, b.0.1) = (rw flat_map-cons both, (first.1, second.1)) in
    subst (TakesCells (column ∷ columns) bytes) (some_is (a.0.0 ∷ b.0.0, b.0.1) x b.2) made

pub cells_again : (columns : List Column) (row : List Value) (rest : List ℕ) → AreHeld columns row → AllByRecursion IsShort row → cells_at columns (values_bytes row ++ rest) ≡ Some (row, rest)
unfolding cells_at
cells_again [] [] rest held short = refl
cells_again [] (v ∷ vs) rest held short = absurd held
cells_again (c ∷ cs) [] rest held short = absurd held
cells_again (c ∷ cs) (v ∷ vs) rest held short =
    let regrouped : values_bytes (v ∷ vs) ++ rest ≡ value_bytes v ++ (values_bytes vs ++ rest) = ap (λ (x : List ℕ). x ++ rest) (flat_map-cons value_bytes v vs) ∙ append_assoc (value_bytes v) (values_bytes vs) rest in
    ap (cells_at (c ∷ cs)) regrouped ∙ rw (cell_again c v (values_bytes vs ++ rest) held.0 short.0, cells_again cs vs rest held.1 short.1) refl
