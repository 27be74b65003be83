-- The size of a row that its columns hold.
--     row_size_most      no more than that of the table's greatest row
use Rattle.std.proofs.Common.{◌≡◌, ℕ, ◌≤◌, Bool, true, false, cond, List, [], ◌∷◌, length, sum_by, refl, arith}
use Rattle.std.specs.Prelude.{nat_lt}
use Rattle.std.proofs.lemmas.Bool.{ltb-false}
use Rattle.std.proofs.lemmas.List.Sums.{sum_by-cons}
use Rattle.row_types.specs.declared.values.Value.{Value}
use Rattle.row_types.specs.declared.values.Value.TheVariants as values
use Rattle.row_types.specs.declared.columns.Kind.{Kind}
use Rattle.row_types.specs.declared.columns.Kind.TheVariants.{Int, Bytes}
use Rattle.row_types.specs.declared.columns.Column.{Column}
use Rattle.row_types.specs.declared.columns.Fit.TheVariants.{Fine, Long}
use Rattle.row_types.specs.Fit.{kind_fit}
use Rattle.row_types.specs.Size.{value_size, row_size}
use Rattle.row_types.specs.Valid.{column_size, AreColumns}
use Rattle.table_rows.specs.Checks.{IsRow}

is_short : (most size : ℕ) (b : Bool) → nat_lt most size ≡ b → cond b Long Fine ≡ Fine → size ≤ most
is_short most size true long e = absurd cc
is_short most size false short e = ltb-false most size short

pub value_size_most : (kind : Kind) (value : Value) → kind_fit kind value ≡ Fine → value_size value ≤ column_size kind
value_size_most Int values.Null fits = omega arith
value_size_most (Bytes most) values.Null fits = omega arith
value_size_most Int (values.Int n) fits = omega arith
value_size_most Int (values.Text t) fits = absurd cc
value_size_most (Bytes most) (values.Int n) fits = absurd cc
value_size_most (Bytes most) (values.Text t) fits = let short : length t ≤ most = is_short most (length t) (nat_lt most (length t)) refl fits in omega arith

pub values_size_most : (columns : List Column) (row : List Value) → IsRow columns row → sum_by value_size row ≤ sum_by (λ (c : Column). column_size c.kind) columns
values_size_most [] [] fits = omega arith
values_size_most [] (v ∷ vs) fits = absurd fits
values_size_most (c ∷ cs) [] fits = absurd fits
values_size_most (c ∷ cs) (v ∷ vs) fits =
    omega (arith, sum_by-cons value_size v vs, sum_by-cons (λ (d : Column). column_size d.kind) c cs, value_size_most c.kind v fits.0, values_size_most cs vs fits.1)

pub row_size_most : (columns : List Column) (row : List Value) → AreColumns columns → IsRow columns row → row_size row ≤ 16384
row_size_most columns row valid fits = omega (arith, values_size_most columns row fits, valid.rows)
