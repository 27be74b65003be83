-- A row that isn't refused may come.
--     row_fits      its values fit their columns
--     none_fine, none_allowed      the tables have a place for it
use Rattle.std.proofs.Common.{◌≡◌, ◌≢◌, Bool, true, false, cond, List, [], ◌∷◌, length, Option, Some, None, refl, sym}
use Rattle.std.specs.Prelude.{nat_lt, IfNone}
use Rattle.std.proofs.lemmas.Bool.{or_parts}
use Rattle.row_types.specs.declared.values.Value.{Value}
use Rattle.row_types.specs.declared.values.Value.TheVariants as values
use Rattle.row_types.specs.declared.columns.Kind.{Kind}
use Rattle.row_types.specs.declared.columns.Kind.TheVariants.{Int, Bytes}
use Rattle.row_types.specs.declared.columns.Fit.TheVariants.{Fine, WrongKind, Long}
use Rattle.row_types.specs.declared.columns.Column.{Column}
use Rattle.row_types.specs.Fit.{kind_fit, fit_of}
use Rattle.request_types.specs.declared.codes.Code.{Code}
use Rattle.table_rows.specs.declared.verdict.Verdict.{Verdict}
use Rattle.table_rows.specs.declared.verdict.Verdict.TheVariants as verdicts
use Rattle.table_rows.specs.Checks.{IsRow}
use Rattle.row_insert.specs.Refusal.{IsOfKinds, is_long, is_too_long, code_of}

kind_fits : (kind : Kind) (value : Value) → kind_fit kind value ≢ WrongKind → is_long (kind_fit kind value) ≡ false → kind_fit kind value ≡ Fine
kind_fits Int values.Null of short = refl
kind_fits Int (values.Int n) of short = refl
kind_fits Int (values.Text t) of short = absurd (of refl)
kind_fits (Bytes most) values.Null of short = refl
kind_fits (Bytes most) (values.Int n) of short = absurd (of refl)
kind_fits (Bytes most) (values.Text t) of short = by_length (nat_lt most (length t)) short
  where
    by_length : (b : Bool) → is_long (cond b Long Fine) ≡ false → cond b Long Fine ≡ Fine
    by_length true long = absurd cc
    by_length false short = refl

cell_fits : (column : Column) (value : Value) → kind_fit column.kind value ≢ WrongKind → is_long (fit_of column value) ≡ false → kind_fit column.kind value ≡ Fine
cell_fits column values.Null of short = refl
cell_fits column (values.Int n) of short = kind_fits column.kind (values.Int n) of short
cell_fits column (values.Text t) of short = kind_fits column.kind (values.Text t) of short

pub row_fits : (columns : List Column) (row : List Value) → IsOfKinds columns row → is_too_long columns row ≡ false → IsRow columns row
row_fits [] [] of short = tt
row_fits [] (v ∷ vs) of short = absurd of
row_fits (c ∷ cs) [] of short = absurd of
row_fits (c ∷ cs) (v ∷ vs) of short =
    let parts = or_parts (is_long (fit_of c v)) (is_too_long cs vs) short in
    (cell_fits c v of.0 parts.0, row_fits cs vs of.1 parts.1)

-- a verdict without a code
pub none_fine : (verdict : Verdict) → code_of verdict ≡ None → verdict ≡ verdicts.Fine
none_fine verdicts.Fine none = refl
none_fine (verdicts.Dup index) none = absurd cc
none_fine (verdicts.Null column) none = absurd cc
none_fine verdicts.Full none = absurd cc

pub none_allowed : (refusal : Option Code) (verdict : Verdict) → refusal ≡ code_of verdict → (P : Type 0) → (verdict ≡ verdicts.Fine → P) → IfNone refusal P
none_allowed None verdict is P allowed = allowed (none_fine verdict (sym is))
none_allowed (Some code) verdict is P allowed = tt
