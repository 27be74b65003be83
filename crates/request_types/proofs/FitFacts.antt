-- What follows for one place from what fits.
use Rattle.std.proofs.Common.{◌≡◌, ℕ, zero, suc, ◌≤◌, ◌<◌, List, [], ◌∷◌, length, get_or, Some, refl, arith}
use Rattle.std.specs.Prelude.{IsSomeAnd, slice_get}
use Rattle.std.specs.List.{All}
use Rattle.std.proofs.lemmas.List.Elements.{All-weaker}
use Rattle.row_types.specs.declared.values.Value.{Value}
use Rattle.row_types.specs.declared.columns.Kind.{Kind}
use Rattle.row_types.specs.declared.columns.Column.{Column}
use Rattle.request_types.specs.declared.filters.FilterSpec.{FilterSpec}
use Rattle.request_types.specs.Fits.{IsOfKind, IsAt, AreAt}

-- A place where something stands is in range.
pub is_within : {A : Type 0} (P : A → Type 0) (xs : List A) (k : ℕ) → IsSomeAnd (slice_get xs k) P → k < length xs
is_within P [] k is = absurd is
is_within P (x ∷ xs) zero is = omega arith
is_within P (x ∷ xs) (suc k) is = omega (arith, is_within P xs k is)

-- What stands there, and what holds of it.
pub is_there : {A : Type 0} (P : A → Type 0) (xs : List A) (k : ℕ) → IsSomeAnd (slice_get xs k) P → (x : A) × (slice_get xs k ≡ Some x) × P x
is_there P [] k is = absurd is
is_there P (x ∷ xs) zero is = (x, refl, is)
is_there P (x ∷ xs) (suc k) is = is_there P xs k is

-- The same of the item that an index gives.
pub holds_there : {A : Type 0} (P : A → Type 0) (xs : List A) (k : ℕ) (d : A) → IsSomeAnd (slice_get xs k) P → P (get_or xs k d)
holds_there P [] k d is = absurd is
holds_there P (x ∷ xs) zero d is = is
holds_there P (x ∷ xs) (suc k) d is = holds_there P xs k d is

-- No more values stand to columns than there are numbers.
pub no_more : (P : Kind → Value → Type 0) (columns : List Column) (numbers : List ℕ) (values : List Value) → AreAt P columns numbers values → length values ≤ length numbers
no_more P columns numbers [] all = omega arith
no_more P columns [] (v ∷ vs) all = absurd all
no_more P columns (n ∷ ns) (v ∷ vs) all = omega (arith, no_more P columns ns vs all.1)

-- The value at a place stands to the column with the number there.
pub value_at : (P : Kind → Value → Type 0) (columns : List Column) (numbers : List ℕ) (values : List Value) (k n : ℕ) (d : Value) → AreAt P columns numbers values → k < length values → IsAt P columns (get_or numbers k n) (get_or values k d)
value_at P columns numbers [] k n d all lt = absurd (omega (arith, lt))
value_at P columns [] (v ∷ vs) k n d all lt = absurd all
value_at P columns (m ∷ ms) (v ∷ vs) zero n d all lt = all.0
value_at P columns (m ∷ ms) (v ∷ vs) (suc k) n d all lt = value_at P columns ms vs k n d all.1 (omega (arith, lt))

-- The columns of filters that fit are in range.
pub filters_within : (columns : List Column) (filters : List FilterSpec) → All (λ (f : FilterSpec). IsAt IsOfKind columns f.column f.value) filters → All (λ (f : FilterSpec). f.column < length columns) filters
filters_within columns filters all =
    All-weaker (λ (f : FilterSpec). IsAt IsOfKind columns f.column f.value) (λ (f : FilterSpec). f.column < length columns) (λ (f : FilterSpec). is_within (λ (c : Column). IsOfKind c.kind f.value) columns f.column) filters all
