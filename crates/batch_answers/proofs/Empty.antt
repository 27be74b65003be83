-- Tables without rows.
use Rattle.std.proofs.Common.{◌≡◌, ℕ, List, [], ◌∷◌, map, refl, ap}
use Rattle.row_types.specs.declared.tables.TableDef.{TableDef}
use Rattle.row_types.specs.declared.tables.Schema.{Schema}
use Rattle.table_rows.specs.Widths.{empty_rows, empty_state}
use Rattle.table_rows.specs.Database.{Holding, holding_in, nothing_in, database_of, empty_database}

none_in : (defs : List TableDef) → map holding_in (map empty_rows defs) ≡ map nothing_in defs
none_in [] = refl
none_in (def ∷ defs) = ap (λ (t : List Holding). nothing_in def ∷ t) (none_in defs)

pub empty_is : (schema : Schema) (bytes_max : ℕ) → database_of (empty_state schema bytes_max) ≡ empty_database schema bytes_max
empty_is schema bytes_max = ap (λ (ts : List Holding). record { schema = schema; bytes_max = bytes_max; tables = ts }) (none_in schema.tables)
