-- Tables that are valid in their slots are valid without them.
--     database_valid      what valid tables hold
--     empty_database_valid      tables without a row
use Rattle.std.proofs.Common.{◌≡◌, ℕ, suc, ◌+◌, ◌<◌, ◌≤◌, Bool, false, eqb, List, [], ◌∷◌, length, map, refl, ap, sym, subst, ◌∙◌, arith}
use Rattle.std.specs.Prelude.{sum_by}
use Rattle.std.specs.List.{AllByRecursion, AllZip}
use Rattle.std.specs.declared.cmp.Ordering.TheVariants.{Less}
use Rattle.std.proofs.lemmas.Bool.{ne_eqb}
use Rattle.index_tree.specs.Ordered.{IsAscending}
use Rattle.row_types.specs.declared.values.Value.{Value}
use Rattle.row_types.specs.declared.indexes.IndexDef.{IndexDef}
use Rattle.row_types.specs.declared.tables.TableDef.{TableDef}
use Rattle.row_types.specs.declared.tables.Schema.{Schema}
use Rattle.row_types.specs.Counted.{counted_of}
use Rattle.row_types.specs.Order.{key_cmp}
use Rattle.row_types.specs.Valid.{IsValid}
use Rattle.table_rows.specs.Checks.{meets}
use Rattle.table_rows.specs.Counters.{above_row}
use Rattle.table_rows.specs.Database.{Holding, holding_in, rows_alone, database_of, placed_from, placed, nothing_in, empty_database}
use Rattle.table_rows.specs.Entries.{Entry, cells, entry_cmp}
use Rattle.table_rows.specs.Indexes.{primary_of}
use Rattle.table_rows.specs.Rows.{Rows, State}
use Rattle.table_rows.specs.Sizes.{entries_size, most_bytes}
use Rattle.table_rows.specs.Slots.{is_in}
use Rattle.table_rows.specs.Valid.{EachPair, AreUniqueIn, IsWhole, AreValidRows, IsValidState}
use Rattle.table_rows.specs.Widths.{empty_rows, empty_state}
use Rattle.table_rows.proofs.Alone.{total_alone, tables_placed, holding_size}
use Rattle.table_rows.proofs.Wider.{empty_valid}
use Rattle.change_set.specs.Putting.{IsValidDatabase}

-- what holds of the row of each entry holds of it in another place
each_placed : (P : List Value → Type 0) (first : ℕ) (entries : List Entry) → AllByRecursion (λ (entry : Entry). P entry.0) entries → AllByRecursion (λ (entry : Entry). P entry.0) (placed_from first (rows_alone entries))
each_placed P first [] each = tt
each_placed P first (e ∷ es) each = (each.0, each_placed P (suc first) es each.1)

ascending_placed : (columns : List ℕ) (first : ℕ) (entries : List Entry) → IsAscending (entry_cmp columns) entries → IsAscending (entry_cmp columns) (placed_from first (rows_alone entries))
ascending_placed columns first [] ascending = tt
ascending_placed columns first (e ∷ es) ascending =
    (each_placed (λ (row : List Value). key_cmp (cells columns e.0) (cells columns row) ≡ Less) (suc first) es ascending.0, ascending_placed columns (suc first) es ascending.1)

unique_placed : (index : IndexDef) (first : ℕ) (entries : List Entry) → AreUniqueIn entries index → AreUniqueIn (placed_from first (rows_alone entries)) index
unique_placed index first [] unique = tt
unique_placed index first (e ∷ es) unique =
    (each_placed (λ (row : List Value). meets index e.0 (row, 0) ≡ false) (suc first) es unique.0, unique_placed index (suc first) es unique.1)

all_unique : (indexes : List IndexDef) (entries : List Entry) → AllByRecursion (AreUniqueIn entries) indexes → AllByRecursion (AreUniqueIn (placed_from 0 (rows_alone entries))) indexes
all_unique [] entries unique = tt
all_unique (i ∷ is) entries unique = (unique_placed i 0 entries unique.0, all_unique is entries unique.1)

-- places are below their number, and no two are the same
within_placed : (most first : ℕ) (rows : List (List Value)) → first + length rows ≤ most → AllByRecursion (λ (entry : Entry). entry.1 < most) (placed_from first rows)
within_placed most first [] le = tt
within_placed most first (row ∷ rows) le = (omega (arith, le), within_placed most (suc first) rows (omega (arith, le)))

other_place : (place first : ℕ) (rows : List (List Value)) → place < first → AllByRecursion (λ (entry : Entry). is_in place entry ≡ false) (placed_from first rows)
other_place place first [] lt = tt
other_place place first (row ∷ rows) lt = (ne_eqb first place (λ e. omega (arith, e, lt)), other_place place (suc first) rows (omega (arith, lt)))

apart_placed : (first : ℕ) (rows : List (List Value)) → EachPair (λ (a b : Entry). is_in a.1 b ≡ false) (placed_from first rows)
apart_placed first [] = tt
apart_placed first (row ∷ rows) = (other_place first (suc first) rows (omega arith), apart_placed (suc first) rows)

pub rows_valid : (def : TableDef) (rows : Rows) → AreValidRows def rows → AreValidRows def (placed (holding_in rows))
rows_valid def rows valid = record {
  whole = each_placed (IsWhole def.columns) 0 rows.entries valid.whole;
  ascending = ascending_placed (primary_of def.indexes) 0 rows.entries valid.ascending;
  unique = all_unique def.indexes rows.entries valid.unique;
  within = within_placed (length (rows_alone rows.entries)) 0 (rows_alone rows.entries) (omega arith);
  apart = apart_placed 0 (rows_alone rows.entries);
  counter = valid.counter;
  below = each_placed (λ (row : List Value). above_row (counted_of def.columns) row ≤ rows.counter) 0 rows.entries valid.below;
}

tables_valid : (defs : List TableDef) (tables : List Rows) → AllZip AreValidRows defs tables → AllZip AreValidRows defs (map placed (map holding_in tables))
tables_valid [] [] valid = tt
tables_valid [] (t ∷ ts) valid = absurd valid
tables_valid (d ∷ ds) [] valid = absurd valid
tables_valid (d ∷ ds) (t ∷ ts) valid = (rows_valid d t valid.0, tables_valid ds ts valid.1)

pub database_valid : (state : State) → IsValidState state → IsValidDatabase (database_of state)
database_valid state valid =
    let holdings = map holding_in state.tables in
    let same : sum_by (λ (rows : Rows). entries_size rows.entries) (map placed holdings) ≡ sum_by (λ (rows : Rows). entries_size rows.entries) state.tables = total_alone (map placed holdings) ∙ ap (λ (hs : List Holding). sum_by holding_size hs) (tables_placed holdings) ∙ sym (total_alone state.tables) in
    record {
      schema = valid.schema;
      tables = tables_valid state.schema.tables state.tables valid.tables;
      bytes = omega (arith, same, valid.bytes);
      most = valid.most;
    }

nothing_placed : (defs : List TableDef) → map placed (map nothing_in defs) ≡ map empty_rows defs
nothing_placed [] = refl
nothing_placed (d ∷ ds) = ap (λ (rest : List Rows). empty_rows d ∷ rest) (nothing_placed ds)

pub empty_database_valid : (schema : Schema) (bytes_max : ℕ) → IsValid schema → bytes_max ≤ most_bytes → IsValidDatabase (empty_database schema bytes_max)
empty_database_valid schema bytes_max valid most =
    subst (λ (tables : List Rows). IsValidState (record { schema = schema; bytes_max = bytes_max; tables = tables })) (sym (nothing_placed schema.tables)) (empty_valid schema bytes_max valid most)
