-- Whether a column holds a value.
use Rattle.std.specs.Prelude.{length, if◌then◌else◌, nat_lt}
use Rattle.row_types.specs.declared.values.Value.{Value}
use Rattle.row_types.specs.declared.values.Value.TheVariants.{Null, Int, Text}
use Rattle.row_types.specs.declared.columns.Kind.{Kind}
use Rattle.row_types.specs.declared.columns.Kind.TheVariants as kinds
use Rattle.row_types.specs.declared.columns.Column.{Column}
use Rattle.row_types.specs.declared.columns.Fit.{Fit}
use Rattle.row_types.specs.declared.columns.Fit.TheVariants.{Fine, WrongKind, Long, NullHere}

-- A text goes into a column of texts that is long enough for it, an integer into a column of integers.
abbrev pub kind_fit : Kind → Value → Fit
kind_fit kind Null = Fine
kind_fit kinds.Int (Int n) = Fine
kind_fit kinds.Int (Text t) = WrongKind
kind_fit (kinds.Bytes most) (Int n) = WrongKind
kind_fit (kinds.Bytes most) (Text t) = if nat_lt most (length t) then Long else Fine

-- NULL goes where the column allows it; every other value by its kind.
abbrev pub fit_of : Column → Value → Fit
fit_of column Null = if column.null then Fine else NullHere
fit_of column (Int n) = kind_fit column.kind (Int n)
fit_of column (Text t) = kind_fit column.kind (Text t)
