-- The rows of valid tables have bytes.
--     rows_short      their texts are short
--     few_tables      and there are few tables
use Rattle.std.proofs.Common.{ℕ, ◌<◌, ◌≤◌, length, arith}
use Rattle.std.specs.List.{AllByRecursion}
use Rattle.index_tree.proofs.Elements.{all_weaker}
use Rattle.table_rows.specs.Entries.{Entry}
use Rattle.table_rows.specs.Rows.{State, def_of, entries_of}
use Rattle.table_rows.specs.Valid.{IsWhole, AreValidRows, IsValidState}
use Rattle.table_rows.proofs.States.{rows_valid, zip_long}
use Rattle.change_set.specs.Payload.{IsShort}
use Rattle.change_set.proofs.CellsAgain.{fit_short}
use Rattle.change_set.proofs.ChangesAgain.{kinds_in}
use Rattle.change_set.proofs.NetFits.{whole_fits}

pub rows_short : (state : State) (table : ℕ) → IsValidState state → table < length state.tables → AllByRecursion (λ (entry : Entry). AllByRecursion IsShort entry.0) (entries_of state table)
rows_short state table valid within =
    let columns = (def_of state table).columns in
    let kinds = kinds_in state.schema.tables table valid.schema.tables in
    all_weaker (λ (entry : Entry). IsWhole columns entry.0) (λ (entry : Entry). AllByRecursion IsShort entry.0) (λ entry whole. fit_short columns entry.0 kinds (whole_fits columns entry.0 whole))
    (entries_of state table) (rows_valid state valid table within).whole

pub few_tables : (state : State) → IsValidState state → length state.tables ≤ 64
few_tables state valid = omega (arith, zip_long AreValidRows state.schema.tables state.tables valid.tables, valid.schema.most)
