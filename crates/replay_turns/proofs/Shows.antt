-- The rows of a table, seen without their slots.
use Rattle.std.proofs.Common.{◌≡◌, ℕ, ◌<◌, length, map, get_or, ap}
use Rattle.std.proofs.lemmas.List.{get_or-map}
use Rattle.table_rows.specs.Entries.{Entry}
use Rattle.table_rows.specs.Rows.{State, no_rows, entries_of}
use Rattle.table_rows.specs.Database.{Holding, no_holding, holding_in, database_of}

pub rows_there : (state : State) (table : ℕ) → table < length state.tables → (get_or (database_of state).tables table no_holding).rows ≡ map (λ (entry : Entry). entry.0) (entries_of state table)
rows_there state table within = ap (λ (holding : Holding). holding.rows) (get_or-map holding_in state.tables table no_rows no_holding within)
