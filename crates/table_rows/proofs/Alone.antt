-- The bytes of rows, and rows in their places.
--     size_alone, total_alone      bytes do not depend on slots
--     placed_alone, database_placed      rows are what they were before they had places
--     roomier_same      nor do slots without rows matter
use Rattle.std.proofs.Common.{◌≡◌, ℕ, suc, ◌+◌, List, [], ◌∷◌, map, refl, ap, ap₂, sym, ◌∙◌}
use Rattle.std.specs.Prelude.{sum_by}
use Rattle.std.specs.List.{AllZip}
use Rattle.std.proofs.lemmas.List.Sums.{sum_by-cons}
use Rattle.row_types.specs.declared.values.Value.{Value}
use Rattle.row_types.specs.declared.tables.Schema.{Schema}
use Rattle.row_types.specs.Size.{row_size}
use Rattle.table_rows.specs.Entries.{Entry}
use Rattle.table_rows.specs.Rows.{Rows, State}
use Rattle.table_rows.specs.Sizes.{entries_size}
use Rattle.table_rows.specs.Widths.{AreRoomier, IsRoomier}
use Rattle.table_rows.specs.Database.{Database, Holding, rows_alone, holding_in, database_of, placed_from, placed, placed_in}

size_alone : (entries : List Entry) → entries_size entries ≡ sum_by row_size (rows_alone entries)
size_alone [] = refl
size_alone (e ∷ es) =
    sum_by-cons (λ (x : Entry). row_size x.0) e es ∙ ap (λ (n : ℕ). row_size e.0 + n) (size_alone es)
    ∙ sym (sum_by-cons row_size e.0 (rows_alone es))

-- the bytes of the rows of a table
abbrev pub holding_size : Holding → ℕ
holding_size holding = sum_by row_size holding.rows

pub total_alone : (tables : List Rows) → sum_by (λ (r : Rows). entries_size r.entries) tables ≡ sum_by holding_size (map holding_in tables)
total_alone [] = refl
total_alone (t ∷ ts) =
    sum_by-cons (λ (r : Rows). entries_size r.entries) t ts
    ∙ ap₂ (λ (n m : ℕ). n + m) (size_alone t.entries) (total_alone ts)
    ∙ sym (sum_by-cons holding_size (holding_in t) (map holding_in ts))

pub placed_alone : (first : ℕ) (rows : List (List Value)) → rows_alone (placed_from first rows) ≡ rows
placed_alone first [] = refl
placed_alone first (row ∷ rows) = ap (λ (rs : List (List Value)). row ∷ rs) (placed_alone (suc first) rows)

pub tables_placed : (tables : List Holding) → map holding_in (map placed tables) ≡ tables
tables_placed [] = refl
tables_placed (t ∷ ts) = ap₂ (λ (rows : List (List Value)) (rest : List Holding). record { rows = rows; counter = t.counter } ∷ rest) (placed_alone 0 t.rows) (tables_placed ts)

pub database_placed : (db : Database) → database_of (placed_in db) ≡ db
database_placed db = ap (λ (tables : List Holding). record { schema = db.schema; bytes_max = db.bytes_max; tables = tables }) (tables_placed db.tables)

rows_roomier : (xs ys : List Rows) → AllZip AreRoomier xs ys → map holding_in ys ≡ map holding_in xs
rows_roomier [] [] more = refl
rows_roomier [] (y ∷ ys) more = absurd more
rows_roomier (x ∷ xs) [] more = absurd more
rows_roomier (x ∷ xs) (y ∷ ys) more =
    ap₂ (λ (holding : Holding) (rest : List Holding). holding ∷ rest)
    (ap₂ (λ (entries : List Entry) (counter : ℕ). record { rows = rows_alone entries; counter = counter }) more.0.0 more.0.2) (rows_roomier xs ys more.1)

pub roomier_same : (before after : State) → IsRoomier before after → database_of after ≡ database_of before
roomier_same before after more =
    ap₂ (λ (schema : Schema) (bytes_max : ℕ). record { schema = schema; bytes_max = bytes_max; tables = map holding_in after.tables }) more.schema more.bytes_max
    ∙ ap (λ (tables : List Holding). record { schema = before.schema; bytes_max = before.bytes_max; tables = tables }) (rows_roomier before.tables after.tables more.tables)
