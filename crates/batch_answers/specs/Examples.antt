-- Four rows of a small table, and requests on them.
use Rattle.std.specs.Prelude.{ℕ, Bool, List, [], ◌∷◌}
use Rattle.row_types.specs.declared.values.Value.{Value}
use Rattle.request_types.specs.declared.finds.FindSpec.{FindSpec}
use Rattle.request_types.specs.declared.mods.ModKind.{ModKind}
use Rattle.request_types.specs.declared.mods.ModSpec.{ModSpec}
use Rattle.request_types.specs.declared.inserts.InsertSpec.{InsertSpec}
use Rattle.find_scan.specs.Examples.{some_schema, row}
use Rattle.table_rows.specs.Database.{Database}

-- The only table with these rows, which may fill so many bytes.
abbrev pub rows_within : ℕ → List (List Value) → Database
rows_within bytes_max rows = record { schema = some_schema; bytes_max = bytes_max; tables = record { rows = rows; counter = 0 } ∷ [] }

-- The rows (1, a, 4), (2, b, 4), (3, c, 4) and (4, d, 6).
abbrev pub four : List (List Value)
four = row 1 97 4 ∷ row 2 98 4 ∷ row 3 99 4 ∷ row 4 100 6 ∷ []

-- A find that answers these columns.
abbrev pub showing : List ℕ → FindSpec → FindSpec
showing columns spec = record spec { columns = columns }

-- A change by these numbers.
abbrev pub change_by : ModKind → List Value → Bool → ModSpec
change_by kind values show = record { kind = kind; values = values; show = show }

-- An insert of these values into the first columns.
abbrev pub insert_of : List ℕ → List Value → InsertSpec
insert_of columns values = record { table = 0; columns = columns; values = values }
