-- Columns that are a table's, and the values that stand to them by place.
use Rattle.std.proofs.Common.{◌≡◌, ◌<◌, List, [], ◌∷◌, length, take, Option, Some, None, sym, subst}
use Rattle.std.specs.Prelude.{IsSomeAnd, slice_get}
use Rattle.std.specs.List.{AllByRecursion}
use Rattle.row_types.specs.declared.values.Value.{Value}
use Rattle.row_types.specs.declared.columns.Kind.{Kind}
use Rattle.row_types.specs.declared.columns.Column.{Column}
use Rattle.request_types.specs.Fits.{IsAt, AreAt}
use Rattle.request_types.proofs.FitFacts.{is_within}
use Rattle.open_index.specs.declared.handles.OpenColumn.{OpenColumn}
use Rattle.open_index.specs.Find.{numbers}
use Rattle.open_index.specs.Fits.{IsColumnOf}

-- The columns of a list are the table's.
abbrev pub AreOf : List Column → List OpenColumn → Type 0
AreOf columns opened = AllByRecursion (IsColumnOf columns) opened

-- What stands to the kind of an open column stands to the table's column.
pub is_at : (P : Kind → Value → Type 0) (columns : List Column) (c : OpenColumn) (v : Value) → IsColumnOf columns c → P c.kind v → IsAt P columns c.number v
is_at P columns c v is p = go (slice_get columns c.number) is
  where
    go : (o : Option Column) → IsSomeAnd o (λ d. d.kind ≡ c.kind) → IsSomeAnd o (λ d. P d.kind v)
    go None none = none
    go (Some d) same = subst (λ (k : Kind). P k v) (sym same) p

-- Values that stand to the first columns stand to them without those that are left.
pub at_front : (P : Kind → Value → Type 0) (columns : List Column) (opened : List OpenColumn) (values : List Value) →
    AreAt P columns (numbers opened) values → AreAt P columns (numbers (take (length values) opened)) values
at_front P columns opened [] all = tt
at_front P columns [] (v ∷ vs) all = all
at_front P columns (c ∷ cs) (v ∷ vs) all = (all.0, at_front P columns cs vs all.1)

-- The number of a table's column is in range.
pub in_range : (columns : List Column) (c : OpenColumn) → IsColumnOf columns c → c.number < length columns
in_range columns c is = is_within (λ (d : Column). d.kind ≡ c.kind) columns c.number is
