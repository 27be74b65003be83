-- The columns of a primary key are columns of its table.
use Rattle.std.proofs.Common.{◌≡◌, ℕ, zero, suc, ◌<◌, Bool, true, false, cond, List, [], ◌∷◌, length, get_or, All}
use Rattle.std.specs.Prelude.{nat_lt}
use Rattle.std.specs.List.{AllByRecursion, list_all}
use Rattle.std.proofs.lemmas.Bool.{and_parts, ltb-true}
use Rattle.std.proofs.lemmas.List.Elements.{All-from_recursion}
use Rattle.row_types.specs.declared.columns.Column.{Column}
use Rattle.row_types.specs.declared.indexes.IndexDef.{IndexDef}
use Rattle.row_types.specs.declared.tables.TableDef.{TableDef}
use Rattle.row_types.specs.declared.tables.Schema.{Schema}
use Rattle.row_types.specs.Valid.{IsIndex, IsTable, IsValid, is_primary}
use Rattle.table_rows.specs.Rows.{no_table}
use Rattle.table_rows.specs.Indexes.{primary_of}
use Rattle.change_set.specs.Sets.{def_in, key_columns}

abbrev pub AreWithin : List Column → List ℕ → Type 0
AreWithin columns places = AllByRecursion (λ (place : ℕ). place < length columns) places

each_within : (columns : List Column) (places : List ℕ) → list_all (λ place. nat_lt place (length columns)) places ≡ true → AreWithin columns places
each_within columns [] all = tt
each_within columns (place ∷ places) all = let both = and_parts _ _ all in (ltb-true _ _ both.0, each_within columns places both.1)

either_within : (columns : List Column) (b : Bool) (own others : List ℕ) → AreWithin columns own → AreWithin columns others → AreWithin columns (cond b own others)
either_within columns true own others first second = first
either_within columns false own others first second = second

pub primary_within : (columns : List Column) (indexes : List IndexDef) → AllByRecursion (IsIndex columns) indexes → AreWithin columns (primary_of indexes)
primary_within columns [] each = tt
primary_within columns (index ∷ indexes) each = either_within columns (is_primary index.kind) index.parts (primary_of indexes) (each_within columns index.parts each.0.within) (primary_within columns indexes each.1)

table_within : (tables : List TableDef) (table : ℕ) → AllByRecursion IsTable tables → AreWithin (get_or tables table no_table).columns (primary_of (get_or tables table no_table).indexes)
table_within [] table valid = tt
table_within (def ∷ defs) zero valid = primary_within def.columns def.indexes valid.0.indexes.each
table_within (def ∷ defs) (suc table) valid = table_within defs table valid.1

pub keys_within : (schema : Schema) (table : ℕ) → IsValid schema → All (λ (place : ℕ). place < length (def_in schema table).columns) (key_columns schema table)
keys_within schema table valid = All-from_recursion (λ (place : ℕ). place < length (def_in schema table).columns) (key_columns schema table) (table_within schema.tables table valid.tables)
