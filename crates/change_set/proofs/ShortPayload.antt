-- The payload of net changes between tables within the limits is short.
--     value_short, row_short, key_short      the bytes of a value, a row and a key against the size of the row
--     net_short      the bytes of all net changes against the sizes of all rows
--     payload_short      the whole is below 2 ^ 32 bytes
use Rattle.std.proofs.Common.{◌≡◌, ℕ, zero, suc, ◌+◌, ◌*◌, ◌^◌, ◌<◌, ◌≤◌, Bool, true, false, not, cond, eqb, List, [], ◌∷◌, ◌++◌, length, map, filter, get_or, sym, ap, subst, ◌∙◌, inl, inr, arith}
use Rattle.std.specs.Prelude.{sum_by}
use Rattle.std.specs.List.{AllByRecursion}
use Rattle.std.proofs.lemmas.Bool.{cases_Bool}
use Rattle.std.proofs.lemmas.List.Concat.{length-flat_map}
use Rattle.std.proofs.lemmas.List.Sorted.{sum_by-IsPermutation}
use Rattle.std.proofs.lemmas.List.Sums.{sum_by-cons, sum_by-append}
use Rattle.index_tree.proofs.InOrder.{in_order_permutes}
use Rattle.row_types.specs.declared.values.Value.{Value}
use Rattle.row_types.specs.declared.values.Value.TheVariants as values
use Rattle.row_types.specs.declared.indexes.IndexDef.{IndexDef}
use Rattle.row_types.specs.declared.columns.Column.{Column}
use Rattle.row_types.specs.declared.tables.TableDef.{TableDef}
use Rattle.row_types.specs.declared.tables.Schema.{Schema}
use Rattle.row_types.specs.Size.{value_size, row_size}
use Rattle.row_types.specs.Valid.{IsIndex, IsTable, IsValid, is_primary}
use Rattle.table_rows.specs.Entries.{cell_at, cells}
use Rattle.table_rows.specs.Rows.{no_table}
use Rattle.table_rows.specs.Indexes.{primary_of}
use Rattle.table_rows.specs.Sizes.{most_bytes}
use Rattle.table_rows.specs.Database.{Database, Holding, placed}
use Rattle.table_rows.proofs.Alone.{holding_size, total_alone, tables_placed}
use Rattle.change_set.specs.declared.change.Change.{Change}
use Rattle.change_set.specs.declared.change.Change.TheVariants.{Put, Delete, Count}
use Rattle.change_set.specs.Sets.{key_columns, change_cmp}
use Rattle.change_set.specs.Payload.{value_bytes, values_bytes, change_bytes, payload}
use Rattle.change_set.specs.Net.{has_key, has_row, deletions, puts, row_changes, counter_changes, table_changes, changes_from, changes}
use Rattle.change_set.specs.Putting.{IsValidDatabase}
use Rattle.change_set.proofs.Nets.{as_many}

-- how many bytes a value has, and a change
abbrev value_length : Value → ℕ
value_length value = length (value_bytes value)

abbrev change_length : Change → ℕ
change_length change = length (change_bytes change)

value_short : (value : Value) → value_length value ≤ value_size value + 1
value_short values.Null = omega arith
value_short (values.Int n) = omega arith
value_short (values.Text t) = omega arith

size_some : (value : Value) → 1 ≤ value_size value
size_some values.Null = omega arith
size_some (values.Int n) = omega arith
size_some (values.Text t) = omega arith

values_length : (row : List Value) → length (values_bytes row) ≡ sum_by value_length row
values_length row = length-flat_map value_bytes row

row_values : (row : List Value) → sum_by value_length row ≤ 2 * sum_by value_size row
row_values [] = omega arith
row_values (v ∷ vs) = omega (arith, sum_by-cons value_length v vs, sum_by-cons value_size v vs, value_short v, size_some v, row_values vs)

cell_short : (row : List Value) (column : ℕ) → value_length (cell_at row column) ≤ sum_by value_size row + 1
cell_short [] column = omega arith
cell_short (v ∷ vs) zero = omega (arith, sum_by-cons value_size v vs, value_short v)
cell_short (v ∷ vs) (suc column) = omega (arith, sum_by-cons value_size v vs, cell_short vs column)

-- a key of so many columns
key_values : (row : List Value) (columns : List ℕ) → sum_by value_length (cells columns row) ≤ length columns * (sum_by value_size row + 1)
key_values row [] = omega arith
key_values row (c ∷ cs) =
    let rest = key_values row cs in
    let one = cell_short row c in
    let whole = sum_by-cons value_length (cell_at row c) (cells cs row) in
    subst (λ (n : ℕ). n ≤ suc (length cs) * (sum_by value_size row + 1)) (sym whole) (more (value_length (cell_at row c)) (sum_by value_length (cells cs row)) (length cs) (sum_by value_size row + 1) one rest)
  where
    more : (a b n m : ℕ) → a ≤ m → b ≤ n * m → a + b ≤ suc n * m
    more a b n m first second = grind (arith, first, second)

at_most : (n m : ℕ) → n ≤ 8 → n * m ≤ 8 * m
at_most n m le = grind arith

module _ (table : ℕ) where
  put_short : (row : List Value) → change_length (Put table row) ≤ 2 * row_size row
  put_short row = omega (arith, values_length row, row_values row)

  delete_short : (columns : List ℕ) (row : List Value) → length columns ≤ 8 → change_length (Delete table (cells columns row)) ≤ 9 * row_size row
  delete_short columns row few = omega (arith, values_length (cells columns row), key_values row columns, at_most (length columns) (sum_by value_size row + 1) few)

  module _ (columns : List ℕ) (few : length columns ≤ 8) where
    deletions_short : (test : List Value → Bool) (rows : List (List Value)) → sum_by change_length (map (λ (row : List Value). Delete table (cells columns row)) (filter test rows)) ≤ 9 * sum_by row_size rows
    deletions_short test [] = omega arith
    deletions_short test (row ∷ rows) =
        elim (cases_Bool (test row)) [
          | inl kept ↦ rw kept (omega (arith, sum_by-cons change_length (Delete table (cells columns row)) (map (λ (r : List Value). Delete table (cells columns r)) (filter test rows)), sum_by-cons row_size row rows, delete_short columns row few, deletions_short test rows))
          | inr left ↦ rw left (omega (arith, sum_by-cons row_size row rows, deletions_short test rows))
        ]

  puts_short : (test : List Value → Bool) (rows : List (List Value)) → sum_by change_length (map (Put table) (filter test rows)) ≤ 2 * sum_by row_size rows
  puts_short test [] = omega arith
  puts_short test (row ∷ rows) =
      elim (cases_Bool (test row)) [
        | inl kept ↦ rw kept (omega (arith, sum_by-cons change_length (Put table row) (map (Put table) (filter test rows)), sum_by-cons row_size row rows, put_short row, puts_short test rows))
        | inr left ↦ rw left (omega (arith, sum_by-cons row_size row rows, puts_short test rows))
      ]

  counter_short : (before after : ℕ) → sum_by change_length (counter_changes table before after) ≤ 11
  counter_short before after =
      elim (cases_Bool (eqb before after)) [
        | inl same ↦ rw same (omega arith)
        | inr other ↦ rw other (omega (arith, sum_by-cons change_length (Count table after) []))
      ]

  table_short : (schema : Schema) (before after : Holding) → length (key_columns schema table) ≤ 8 → sum_by change_length (table_changes schema table before after) ≤ 9 * holding_size before + 2 * holding_size after + 11
  table_short schema before after few =
      let columns = key_columns schema table in
      let first = deletions table columns before.rows after.rows in
      let second = puts table before.rows after.rows in
      let sorted = sum_by-IsPermutation change_length (first ++ second) (row_changes schema table before.rows after.rows) (in_order_permutes (change_cmp schema) (first ++ second)) in
      omega (
        arith,
        sum_by-append change_length (row_changes schema table before.rows after.rows) (counter_changes table before.counter after.counter),
        sorted,
        sum_by-append change_length first second,
        deletions_short columns few (λ (row : List Value). not (has_key columns after.rows (cells columns row))) before.rows,
        puts_short (λ (row : List Value). not (has_row before.rows row)) after.rows,
        counter_short before.counter after.counter,
      )

-- a primary key has 8 parts at most
parts_few : (columns : List Column) (indexes : List IndexDef) → AllByRecursion (IsIndex columns) indexes → length (primary_of indexes) ≤ 8
parts_few columns [] each = omega arith
parts_few columns (index ∷ indexes) each = either_few (is_primary index.kind) index.parts (primary_of indexes) each.0.most_parts (parts_few columns indexes each.1)
  where
    either_few : (b : Bool) (own others : List ℕ) → length own ≤ 8 → length others ≤ 8 → length (cond b own others) ≤ 8
    either_few true own others first second = first
    either_few false own others first second = second

keys_few : (tables : List TableDef) (table : ℕ) → AllByRecursion IsTable tables → length (primary_of (get_or tables table no_table).indexes) ≤ 8
keys_few [] table valid = omega arith
keys_few (def ∷ defs) zero valid = parts_few def.columns def.indexes valid.0.indexes.each
keys_few (def ∷ defs) (suc table) valid = keys_few defs table valid.1

module _ (schema : Schema) (valid : IsValid schema) where
  net_short : (first : ℕ) (befores afters : List Holding) → sum_by change_length (changes_from schema first befores afters) ≤ 9 * sum_by holding_size befores + 2 * sum_by holding_size afters + 11 * length befores
  net_short first [] afters = omega arith
  net_short first (b ∷ xs) [] = omega arith
  net_short first (b ∷ xs) (a ∷ ys) =
      omega (
        arith,
        sum_by-append change_length (table_changes schema first b a) (changes_from schema (suc first) xs ys),
        sum_by-cons holding_size b xs,
        sum_by-cons holding_size a ys,
        table_short first schema b a (keys_few schema.tables first valid.tables),
        net_short (suc first) xs ys,
      )

-- the bytes of all rows are within the limit
rows_within : (db : Database) → IsValidDatabase db → sum_by holding_size db.tables ≤ most_bytes
rows_within db valid =
    let same = total_alone (map placed db.tables) ∙ ap (λ (tables : List Holding). sum_by holding_size tables) (tables_placed db.tables) in
    omega (arith, same, valid.bytes)

pub payload_short : (before after : Database) → IsValidDatabase before → IsValidDatabase after → length (payload (changes before after)) < 2 ^ 32
payload_short before after old new =
    omega (
      arith,
      length-flat_map change_bytes (changes before after),
      net_short before.schema old.schema 0 before.tables after.tables,
      rows_within before old,
      rows_within after new,
      as_many before old,
      old.schema.most,
    )
