-- The rows of all tables, without the slots in which they are kept.
use Rattle.std.specs.Prelude.{ℕ, suc, List, [], ◌∷◌, length, map}
use Rattle.row_types.specs.declared.values.Value.{Value}
use Rattle.row_types.specs.declared.tables.TableDef.{TableDef}
use Rattle.row_types.specs.declared.tables.Schema.{Schema}
use Rattle.table_rows.specs.Entries.{Entry}
use Rattle.row_types.specs.Counted.{counted_of}
use Rattle.table_rows.specs.Counters.{first_counter}
use Rattle.table_rows.specs.Rows.{State, Rows}

-- What a table has: its rows, ascending by primary key, and its counter, which is 0 where no column is counted.
pub record Holding : Type 0 where
  pub rows : List (List Value)
  pub counter : ℕ

-- What a number stands for that is no table's.
abbrev pub no_holding : Holding
no_holding = record { rows = []; counter = 0 }

-- A schema, how many bytes the rows may fill, and what each table has.
pub record Database : Type 0 where
  pub schema : Schema
  pub bytes_max : ℕ
  pub tables : List Holding

-- Rows alone, without what stands beside them.
abbrev pub rows_alone : List Entry → List (List Value)
rows_alone entries = map (λ (entry : Entry). entry.0) entries

-- What one table has.
abbrev pub holding_in : Rows → Holding
holding_in rows = record { rows = rows_alone rows.entries; counter = rows.counter }

-- What tables hold.
abbrev pub database_of : State → Database
database_of state = record { schema = state.schema; bytes_max = state.bytes_max; tables = map holding_in state.tables }

-- A table without rows.
abbrev pub nothing_in : TableDef → Holding
nothing_in def = record { rows = []; counter = first_counter (counted_of def.columns) }

-- No table has a row.
abbrev pub empty_database : Schema → ℕ → Database
empty_database schema bytes_max = record { schema = schema; bytes_max = bytes_max; tables = map nothing_in schema.tables }

-- Rows, each beside its place, where the first stands at this one.
abbrev pub placed_from : ℕ → List (List Value) → List Entry
placed_from first [] = []
placed_from first (row ∷ rows) = (row, first) ∷ placed_from (suc first) rows

-- What one table has, each row beside its place among them.
abbrev pub placed : Holding → Rows
placed holding = record { entries = placed_from 0 holding.rows; room = length holding.rows; counter = holding.counter }

-- Tables that hold this, in which each row is named by its place.
abbrev pub placed_in : Database → State
placed_in db = record { schema = db.schema; bytes_max = db.bytes_max; tables = map placed db.tables }
