-- The row that an insert makes has a value of its kind for each column.
--     new_row_kinds
use Rattle.std.proofs.Common.{◌≡◌, ◌≢◌, length, ℕ, suc, ◌+◌, Bool, true, false, cond, List, [], ◌∷◌, Some, Option, refl, ap, sym, subst, ◌∙◌, arith}
use Rattle.std.specs.Prelude.{◌==◌, nat_lt, slice_get, IsSomeAnd}
use Rattle.std.specs.List.{AllByRecursion}
use Rattle.std.proofs.lemmas.Bool.{eqb-true}
use Rattle.row_types.specs.declared.values.Value.{Value}
use Rattle.row_types.specs.declared.values.Value.TheVariants as values
use Rattle.row_types.specs.declared.columns.Kind.{Kind}
use Rattle.row_types.specs.declared.columns.Kind.TheVariants.{Int, Bytes}
use Rattle.row_types.specs.declared.columns.Fit.TheVariants.{Fine, WrongKind, Long}
use Rattle.row_types.specs.declared.columns.Column.{Column}
use Rattle.row_types.specs.Fit.{kind_fit}
use Rattle.row_types.specs.Valid.{IsColumn}
use Rattle.request_types.specs.Fits.{IsOfKind, AreAt}
use Rattle.request_types.specs.declared.inserts.InsertSpec.{InsertSpec}
use Rattle.row_insert.specs.Refusal.{IsOfKinds}
use Rattle.row_insert.specs.Insert.{value_for, row_from, new_row}

-- a value that fits, and one of a kind, is none of another kind
pub fine_kind : (kind : Kind) (value : Value) → kind_fit kind value ≡ Fine → kind_fit kind value ≢ WrongKind
fine_kind kind value fits wrong = absurd (fine_not_wrong (sym fits ∙ wrong))
  where
    fine_not_wrong : Fine ≡ WrongKind → ⊥
    fine_not_wrong same = cc

pub of_kind : (kind : Kind) (value : Value) → IsOfKind kind value → kind_fit kind value ≢ WrongKind
of_kind Int values.Null of = λ wrong. cc
of_kind Int (values.Int n) of = λ wrong. cc
of_kind Int (values.Text t) of = absurd of
of_kind (Bytes most) values.Null of = λ wrong. cc
of_kind (Bytes most) (values.Int n) of = absurd of
of_kind (Bytes most) (values.Text t) of = by_length (nat_lt most (length t))
  where
    by_length : (b : Bool) → cond b Long Fine ≢ WrongKind
    by_length true = λ wrong. cc
    by_length false = λ wrong. cc

module _ (columns : List Column) where
  value_kind : (numbers : List ℕ) (named : List Value) (n : ℕ) (c : Column) → AreAt IsOfKind columns numbers named → slice_get columns n ≡ Some c → kind_fit c.kind c.preset ≢ WrongKind → kind_fit c.kind (value_for numbers named n c.preset) ≢ WrongKind
  value_kind [] named n c at there preset = preset
  value_kind (m ∷ ms) [] n c at there preset = preset
  value_kind (m ∷ ms) (v ∷ vs) n c at there preset = by_number (value_kind ms vs n c at.1 there preset) (m == n) refl
    where
      by_number : kind_fit c.kind (value_for ms vs n c.preset) ≢ WrongKind → (b : Bool) → (m == n) ≡ b → kind_fit c.kind (cond b v (value_for ms vs n c.preset)) ≢ WrongKind
      by_number rest true same =
          let here : slice_get columns m ≡ Some c = ap (slice_get columns) (eqb-true m n same) ∙ there in
          of_kind c.kind v (subst (λ (o : Option Column). IsSomeAnd o (λ (d : Column). IsOfKind d.kind v)) here at.0)
      by_number rest false other = rest

  row_kinds : (numbers : List ℕ) (named : List Value) → AreAt IsOfKind columns numbers named → (first : ℕ) (cs : List Column) → ((k : ℕ) → slice_get columns (first + k) ≡ slice_get cs k) → AllByRecursion IsColumn cs → IsOfKinds cs (row_from first cs numbers named)
  row_kinds numbers named at first [] same all = tt
  row_kinds numbers named at first (c ∷ cs) same all =
      let here : first ≡ first + 0 = omega arith in
      let next : (k : ℕ) → suc first + k ≡ first + suc k = λ k. omega arith in (
        value_kind numbers named first c at (ap (slice_get columns) here ∙ same 0) (fine_kind c.kind c.preset all.0.preset),
        row_kinds numbers named at (suc first) cs (λ k. ap (slice_get columns) (next k) ∙ same (suc k)) all.1,
      )

pub new_row_kinds : (columns : List Column) (spec : InsertSpec) → AreAt IsOfKind columns spec.columns spec.values → AllByRecursion IsColumn columns → IsOfKinds columns (new_row columns spec)
new_row_kinds columns spec at all =
    let same : (k : ℕ) → slice_get columns (0 + k) ≡ slice_get columns k = λ k. ap (slice_get columns) (omega arith) in
    row_kinds columns spec.columns spec.values at 0 columns same all
