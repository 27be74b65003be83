-- A group with fewer cells than there are columns.
use Rattle.std.proofs.Common.{◌≡◌, ℕ, zero, suc, ◌<◌, false, List, [], ◌∷◌, length, drop, refl, arith}
use Rattle.row_types.specs.declared.columns.Column.{Column}
use Rattle.sql_parse.specs.Fitting.{group_fits}

pub no_cell : (columns : List Column) (places : List ℕ) (i : ℕ) → i < length places → group_fits columns (drop i places) [] ≡ false
no_cell columns [] i lt = absurd (omega (arith, lt))
no_cell columns (p ∷ ps) zero lt = refl
no_cell columns (p ∷ ps) (suc i) lt = no_cell columns ps i (omega (arith, lt))
