-- Why a row is refused, and what holds of one that isn't.
use Rattle.std.specs.Prelude.{◌≢◌, ℕ, Bool, true, false, List, zip, Option, Some, None, if◌then◌else◌}
use Rattle.std.specs.List.{list_any, AllZip}
use Rattle.row_types.specs.declared.values.Value.{Value}
use Rattle.row_types.specs.declared.columns.Column.{Column}
use Rattle.row_types.specs.declared.columns.Fit.{Fit}
use Rattle.row_types.specs.declared.columns.Fit.TheVariants as fits
use Rattle.row_types.specs.Fit.{kind_fit, fit_of}
use Rattle.request_types.specs.declared.codes.Code.{Code}
use Rattle.request_types.specs.declared.codes.Code.TheVariants as refused
use Rattle.table_rows.specs.declared.slot_ref.SlotRef.{SlotRef}
use Rattle.table_rows.specs.declared.verdict.Verdict.{Verdict}
use Rattle.table_rows.specs.declared.verdict.Verdict.TheVariants as verdicts
use Rattle.table_rows.specs.Rows.{State, columns_of}
use Rattle.table_rows.specs.Checks.{verdict_of}

-- There is one value for each column, and it is NULL or of the column's kind. A text may be longer
-- than its column.
abbrev pub IsOfKinds : List Column → List Value → Type 0
IsOfKinds columns row =
    AllZip (λ (column : Column) value. kind_fit column.kind value ≢ fits.WrongKind) columns row

-- Whether a text is longer than its column.
abbrev pub is_long : Fit → Bool
is_long fits.Fine = false
is_long fits.WrongKind = false
is_long fits.Long = true
is_long fits.NullHere = false

-- Whether this is such a text beside its column.
abbrev pub is_long_in : Column × Value → Bool
is_long_in cell = is_long (fit_of cell.0 cell.1)

-- Whether a row has such a text.
abbrev pub is_too_long : List Column → List Value → Bool
is_too_long columns row = list_any is_long_in (zip columns row)

-- What is said of a row that the tables refuse.
abbrev pub code_of : Verdict → Option Code
code_of verdicts.Fine = None
code_of (verdicts.Dup index) = Some refused.Dup
code_of (verdicts.Null column) = Some refused.Null
code_of verdicts.Full = Some refused.Full

-- Why a row may not come in place of that in a slot, or of none. A text that is too long is found
-- before NULL, NULL before a clash, and a clash before want of space.
abbrev pub refusal_of : State → ℕ → List Value → Option SlotRef → Option Code
refusal_of state table row instead =
    if is_too_long (columns_of state table) row then Some refused.Value
    else code_of (verdict_of state table row instead)
