-- The places of all columns, one after the other.
use Rattle.std.proofs.Common.{◌≡◌, ℕ, zero, suc, ◌+◌, ◌<◌, List, [], ◌∷◌, length, drop, min, refl, arith, add-one}
use Rattle.row_types.specs.declared.columns.Column.{Column}
use Rattle.sql_parse.specs.Names.{nowhere}
use Rattle.sql_parse.specs.Statements.{places_from}

one_place : (columns : List Column) (n i : ℕ) → i < length columns → places_from n (drop i columns) ≡ min n nowhere ∷ places_from (n + 1) (drop (suc i) columns)
one_place [] n i lt = absurd (omega (arith, lt))
one_place (c ∷ cs) n zero lt = refl
one_place (c ∷ cs) n (suc i) lt = one_place cs n i (omega (arith, lt))

-- Those from a place on are this one and those behind it.
pub places_on : (columns : List Column) (n i : ℕ) → i < length columns → places_from n (drop i columns) ≡ min n nowhere ∷ places_from (n + 1) (drop (i + 1) columns)
places_on columns n i lt = rw (add-one i) (one_place columns n i lt)
