-- The changes that make some tables into others.
use Rattle.std.specs.Prelude.{ℕ, suc, Bool, not, ◌==◌, if◌then◌else◌, List, [], ◌∷◌, ◌++◌, map, filter}
use Rattle.std.specs.List.{list_any}
use Rattle.std.specs.Ordering.{is_eq}
use Rattle.index_tree.specs.Ordered.{in_order}
use Rattle.row_types.specs.declared.values.Value.{Value}
use Rattle.row_types.specs.declared.tables.Schema.{Schema}
use Rattle.row_types.specs.Order.{key_cmp}
use Rattle.table_rows.specs.Entries.{cells}
use Rattle.table_rows.specs.Database.{Database, Holding}
use Rattle.change_set.specs.declared.change.Change.{Change}
use Rattle.change_set.specs.declared.change.Change.TheVariants.{Put, Delete, Count}
use Rattle.change_set.specs.Sets.{key_columns, change_cmp}

-- Whether one of these rows has this primary key.
abbrev pub has_key : List ℕ → List (List Value) → List Value → Bool
has_key columns rows key = list_any (λ row. is_eq (key_cmp (cells columns row) key)) rows

-- Whether this is one of these rows.
abbrev pub has_row : List (List Value) → List Value → Bool
has_row rows row = list_any (λ other. is_eq (key_cmp other row)) rows

-- The primary keys of rows that are gone.
abbrev pub deletions : ℕ → List ℕ → List (List Value) → List (List Value) → List Change
deletions table columns before after =
    map (λ row. Delete table (cells columns row)) (filter (λ row. not (has_key columns after (cells columns row))) before)

-- The rows that are new or others.
abbrev pub puts : ℕ → List (List Value) → List (List Value) → List Change
puts table before after = map (Put table) (filter (λ row. not (has_row before row)) after)

-- Both in the order of the primary key.
abbrev pub row_changes : Schema → ℕ → List (List Value) → List (List Value) → List Change
row_changes schema table before after =
    in_order (change_cmp schema) (deletions table (key_columns schema table) before after ++ puts table before after)

-- The counter, where it is another.
abbrev pub counter_changes : ℕ → ℕ → ℕ → List Change
counter_changes table before after = if before == after then [] else Count table after ∷ []

-- What changed in a table: its rows, and then its counter.
abbrev pub table_changes : Schema → ℕ → Holding → Holding → List Change
table_changes schema table before after =
    row_changes schema table before.rows after.rows ++ counter_changes table before.counter after.counter

-- What changed in tables, of which the first has this number.
abbrev pub changes_from : Schema → ℕ → List Holding → List Holding → List Change
changes_from schema first [] afters = []
changes_from schema first (before ∷ befores) [] = []
changes_from schema first (before ∷ befores) (after ∷ afters) =
    table_changes schema first before after ++ changes_from schema (suc first) befores afters

-- The net changes from some tables to others of the same schema.
abbrev pub changes : Database → Database → List Change
changes before after = changes_from before.schema 0 before.tables after.tables
