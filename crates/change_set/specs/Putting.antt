-- What changes make of tables.
use Rattle.std.specs.Prelude.{◌≡◌, ℕ, ◌<◌, ◌≤◌, suc, Bool, true, false, not, ◌&&◌, ◌==◌, if◌then◌else◌, List, [], ◌∷◌, ◌++◌, filter, get_or, IsSome}
use Rattle.std.specs.List.{list_any, AllByRecursion, AllZip}
use Rattle.std.specs.declared.cmp.Ordering.{Ordering}
use Rattle.std.specs.Ordering.{is_eq}
use Rattle.index_tree.specs.Ordered.{in_order}
use Rattle.row_types.specs.declared.values.Value.{Value}
use Rattle.row_types.specs.declared.tables.Schema.{Schema}
use Rattle.row_types.specs.Counted.{counted_of}
use Rattle.row_types.specs.Order.{key_cmp}
use Rattle.table_rows.specs.Entries.{cells}
use Rattle.table_rows.specs.Database.{Database, Holding, no_holding, placed_in}
use Rattle.table_rows.specs.Valid.{IsValidState}
use Rattle.change_set.specs.declared.change.Change.{Change}
use Rattle.change_set.specs.declared.change.Change.TheVariants.{Put, Delete, Count}
use Rattle.change_set.specs.Sets.{def_in, key_columns}
use Rattle.change_set.specs.Net.{has_key, has_row}

-- Rows go by primary key.
abbrev pub row_cmp : List ℕ → List Value → List Value → Ordering
row_cmp columns a b = key_cmp (cells columns a) (cells columns b)

-- Whether a change is of the row with this primary key of a table.
abbrev pub is_of_row : Schema → ℕ → List Value → Change → Bool
is_of_row schema table key (Put t row) = t == table && is_eq (key_cmp (cells (key_columns schema table) row) key)
is_of_row schema table key (Delete t gone) = t == table && is_eq (key_cmp gone key)
is_of_row schema table key (Count t counter) = false

-- The rows of a table that no change is of.
abbrev pub rows_left : Schema → ℕ → List Change → List (List Value) → List (List Value)
rows_left schema table changes rows =
    filter (λ row. not (list_any (is_of_row schema table (cells (key_columns schema table) row)) changes)) rows

-- The rows that are put into a table.
abbrev pub rows_put : ℕ → List Change → List (List Value)
rows_put table [] = []
rows_put table (Put t row ∷ changes) = if t == table then row ∷ rows_put table changes else rows_put table changes
rows_put table (Delete t key ∷ changes) = rows_put table changes
rows_put table (Count t counter ∷ changes) = rows_put table changes

-- The counter that a table is given, or that from before.
abbrev pub counter_put : ℕ → ℕ → List Change → ℕ
counter_put table before [] = before
counter_put table before (Put t row ∷ changes) = counter_put table before changes
counter_put table before (Delete t key ∷ changes) = counter_put table before changes
counter_put table before (Count t counter ∷ changes) = if t == table then counter else counter_put table before changes

-- What changes make of a table: its rows that no change is of and those that are put, by primary key, and its counter.
abbrev pub holding_put : Schema → List Change → ℕ → Holding → Holding
holding_put schema changes table before =
    record {
      rows = in_order (row_cmp (key_columns schema table)) (rows_left schema table changes before.rows ++ rows_put table changes);
      counter = counter_put table before.counter changes;
    }

-- Of tables, of which the first has this number.
abbrev pub holdings_put : Schema → List Change → ℕ → List Holding → List Holding
holdings_put schema changes first [] = []
holdings_put schema changes first (before ∷ befores) =
    holding_put schema changes first before ∷ holdings_put schema changes (suc first) befores

-- The tables with these changes.
abbrev pub put : Database → List Change → Database
put db changes = record db { tables = holdings_put db.schema changes 0 db.tables }

-- What a table has.
abbrev pub holding_of : Database → ℕ → Holding
holding_of db table = get_or db.tables table no_holding

-- Tables are valid where they are so with each row in a place of its own.
abbrev pub IsValidDatabase : Database → Type 0
IsValidDatabase db = IsValidState (placed_in db)

-- A row that is deleted is there, one that is put is another than the one that is there, and a counter goes up.
abbrev pub IsChange : Database → Change → Type 0
IsChange db (Put table row) = has_row (holding_of db table).rows row ≡ false
IsChange db (Delete table key) = has_key (key_columns db.schema table) (holding_of db table).rows key ≡ true
IsChange db (Count table counter) =
    IsSome (counted_of (def_in db.schema table).columns) × ((holding_of db table).counter < counter)

-- A set applies where each change changes something, and what it makes of the tables is valid.
pub record Applies (db : Database) (changes : List Change) : Type 0 where
  pub each : AllByRecursion (IsChange db) changes
  pub valid : IsValidDatabase (put db changes)

-- No counter is lower than it was.
abbrev pub NoneLower : List Holding → List Holding → Type 0
NoneLower befores afters = AllZip (λ (before after : Holding). before.counter ≤ after.counter) befores afters
