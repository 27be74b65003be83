-- What is printed to show a table.
use Rattle.std.specs.Prelude.{ℕ, List, [], ◌∷◌, ◌++◌, map, codes, get_or, Option, Some, None}
use Rattle.row_types.specs.declared.values.Value.{Value}
use Rattle.hs_token.specs.Spelling.{behind_tabs}
use Rattle.find_scan.specs.Show.{cell_token}
use Rattle.table_rows.specs.Database.{Database, no_holding}

-- The line `row` with the values of a row, each as a token.
abbrev pub row_line : List Value → List ℕ
row_line row = codes "row" ++ behind_tabs (map cell_token row) ++ 10 ∷ []

-- A line for each row.
abbrev pub rows_lines : List (List Value) → List ℕ
rows_lines [] = []
rows_lines (row ∷ rows) = row_line row ++ rows_lines rows

-- A line for each row of a table, in the order of its primary key. Nothing, where there is no such table.
abbrev pub rows_shown : Option ℕ → Database → List ℕ
rows_shown None db = []
rows_shown (Some table) db = rows_lines (get_or db.tables table no_holding).rows
