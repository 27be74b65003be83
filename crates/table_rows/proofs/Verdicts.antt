-- What a verdict tells.
--     fine_allows      a row that is fine may stand in its table
--     kind_of_fine, kind_of_null      a value that fits, or that is NULL where none is allowed, is of its column's kind
use Rattle.std.proofs.Common.{◌≡◌, ℕ, ◌≤◌, Bool, true, false, cond, List, length, Option, Some, None, refl, arith}
use Rattle.std.specs.Prelude.{ℤ, nat_lt}
use Rattle.std.proofs.lemmas.Bool.{ltb-false, and_cases}
use Rattle.std.proofs.Common.{inl, inr}
use Rattle.row_types.specs.declared.values.Value.{Value}
use Rattle.row_types.specs.declared.values.Value.TheVariants as values
use Rattle.row_types.specs.declared.columns.Column.{Column}
use Rattle.row_types.specs.declared.columns.Kind.{Kind}
use Rattle.row_types.specs.declared.columns.Kind.TheVariants as kinds
use Rattle.row_types.specs.declared.columns.Fit.TheVariants as fits
use Rattle.row_types.specs.Fit.{fit_of, kind_fit}
use Rattle.table_rows.specs.declared.slot_ref.SlotRef.{SlotRef}
use Rattle.table_rows.specs.declared.verdict.Verdict.TheVariants.{Fine}
use Rattle.table_rows.specs.Rows.{State, columns_of}
use Rattle.table_rows.specs.Sizes.{total, total_with, most_bytes, is_full}
use Rattle.table_rows.specs.Checks.{IsRow, first_found, verdict_of, IsAllowed}
use Rattle.table_rows.specs.Valid.{IsValidState}

parts_of_fine : (null dup : Option ℕ) (full : Bool) → first_found null dup full ≡ Fine → (null ≡ None) × (dup ≡ None) × (full ≡ false)
parts_of_fine (Some column) dup full e = absurd cc
parts_of_fine None (Some index) full e = absurd cc
parts_of_fine None None true e = absurd cc
parts_of_fine None None false e = (refl, refl, refl)

not_full : (bytes_max before after : ℕ) → is_full bytes_max before after ≡ false → before ≤ most_bytes → bytes_max ≤ most_bytes → after ≤ most_bytes
not_full bytes_max before after none low high = elim (and_cases (nat_lt before after) (nat_lt bytes_max after) none) [
  | inl less ↦ omega (arith, ltb-false before after less)
  | inr less ↦ omega (arith, ltb-false bytes_max after less)
]

pub fine_allows : (state : State) → IsValidState state → (table : ℕ) (row : List Value) (instead : Option SlotRef) → IsRow (columns_of state table) row → verdict_of state table row instead ≡ Fine → IsAllowed state table row instead
fine_allows state valid table row instead cells fine =
    let parts = parts_of_fine _ _ _ fine in
    record {
      placeable = record { cells = cells; no_null = parts.0; no_dup = parts.1 };
      bytes = not_full state.bytes_max (total state) (total_with state table row instead) parts.2 valid.bytes valid.most;
    }

pub kind_of_fine : (column : Column) (value : Value) → fit_of column value ≡ fits.Fine → kind_fit column.kind value ≡ fits.Fine
kind_of_fine column values.Null fit = refl
kind_of_fine column (values.Int n) fit = fit
kind_of_fine column (values.Text t) fit = fit

int_no : (kind : Kind) (n : ℤ) → kind_fit kind (values.Int n) ≡ fits.NullHere → kind_fit kind (values.Int n) ≡ fits.Fine
int_no kinds.Int n fit = absurd cc
int_no (kinds.Bytes most) n fit = absurd cc

long_no : (long : Bool) → cond long fits.Long fits.Fine ≡ fits.NullHere → ⊥
long_no true fit = cc
long_no false fit = cc

text_no : (kind : Kind) (t : List ℕ) → kind_fit kind (values.Text t) ≡ fits.NullHere → kind_fit kind (values.Text t) ≡ fits.Fine
text_no kinds.Int t fit = absurd cc
text_no (kinds.Bytes most) t fit = absurd (long_no (nat_lt most (length t)) fit)

pub kind_of_null : (column : Column) (value : Value) → fit_of column value ≡ fits.NullHere → kind_fit column.kind value ≡ fits.Fine
kind_of_null column values.Null fit = refl
kind_of_null column (values.Int n) fit = int_no column.kind n fit
kind_of_null column (values.Text t) fit = text_no column.kind t fit
