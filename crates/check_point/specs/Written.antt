-- The changes that make tables of empty ones, in the order in which they are written.
use Rattle.std.specs.Prelude.{ℕ, suc, List, [], ◌∷◌, ◌++◌, map}
use Rattle.row_types.specs.declared.tables.TableDef.{TableDef}
use Rattle.row_types.specs.Counted.{counted_of}
use Rattle.table_rows.specs.Counters.{first_counter}
use Rattle.table_rows.specs.Database.{rows_alone}
use Rattle.table_rows.specs.Entries.{Entry}
use Rattle.table_rows.specs.Rows.{Rows}
use Rattle.change_set.specs.declared.change.Change.{Change}
use Rattle.change_set.specs.declared.change.Change.TheVariants.{Put}
use Rattle.change_set.specs.Net.{counter_changes}

-- Each of these rows is put into a table.
abbrev pub puts_of : ℕ → List Entry → List Change
puts_of table entries = map (Put table) (rows_alone entries)

-- The counter of a table is another than that of an empty one.
abbrev pub count_of : ℕ → TableDef → Rows → List Change
count_of table def rows = counter_changes table (first_counter (counted_of def.columns)) rows.counter

-- The changes that make tables, of which the first has this number: the rows of each, and then its counter.
abbrev pub made_from : ℕ → List TableDef → List Rows → List Change
made_from first [] tables = []
made_from first (def ∷ defs) [] = []
made_from first (def ∷ defs) (rows ∷ tables) =
    (puts_of first rows.entries ++ count_of first def rows) ++ made_from (suc first) defs tables
