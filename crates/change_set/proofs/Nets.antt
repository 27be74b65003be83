-- The net changes of valid tables.
--     each_ascends      the rows of valid tables ascend
--     put_of_changes      put on the tables from before they make those from after
use Rattle.std.proofs.Common.{◌≡◌, ℕ, suc, List, [], ◌∷◌, ◌++◌, length, map, get_or, refl, sym, ap, ap₂, subst, ◌∙◌, append_assoc, arith, length-append}
use Rattle.std.proofs.lemmas.List.{length-map}
use Rattle.std.specs.List.{AllZip}
use Rattle.index_tree.specs.Ordered.{IsAscending}
use Rattle.index_tree.proofs.Ascending.{ascending_mapped}
use Rattle.row_types.specs.declared.tables.TableDef.{TableDef}
use Rattle.row_types.specs.declared.tables.Schema.{Schema}
use Rattle.table_rows.specs.Entries.{Entry}
use Rattle.table_rows.specs.Rows.{no_table}
use Rattle.table_rows.specs.Indexes.{primary_of}
use Rattle.table_rows.specs.Valid.{AreValidRows}
use Rattle.table_rows.specs.Database.{Database, Holding, placed, placed_from}
use Rattle.table_rows.proofs.Alone.{placed_alone}
use Rattle.table_rows.proofs.States.{zip_long}
use Rattle.change_set.specs.Sets.{key_columns}
use Rattle.change_set.specs.Net.{changes}
use Rattle.change_set.specs.Putting.{row_cmp, put, IsValidDatabase}
use Rattle.change_set.proofs.NetOrder.{EachAscends, changes_ascend}
use Rattle.change_set.proofs.PutNet.{holdings_are}

-- the rows of one valid table ascend
rows_ascend : (def : TableDef) (holding : Holding) → AreValidRows def (placed holding) → IsAscending (row_cmp (primary_of def.indexes)) holding.rows
rows_ascend def holding valid =
    subst (IsAscending (row_cmp (primary_of def.indexes))) (placed_alone 0 holding.rows)
    (ascending_mapped (row_cmp (primary_of def.indexes)) (λ (entry : Entry). entry.0) (placed_from 0 holding.rows) valid.ascending)

-- tables behind others of a schema have their columns
pub drop_columns : (front : List TableDef) (def : TableDef) (defs : List TableDef) → get_or (front ++ def ∷ defs) (length front) no_table ≡ def
drop_columns [] def defs = refl
drop_columns (first ∷ front) def defs = drop_columns front def defs

module _ (schema : Schema) where
  each_from : (front defs : List TableDef) (holdings : List Holding) → schema.tables ≡ front ++ defs → AllZip AreValidRows defs (map placed holdings) → EachAscends schema (length front) holdings
  each_from front [] [] is valid = tt
  each_from front [] (h ∷ hs) is valid = absurd valid
  each_from front (d ∷ ds) [] is valid = absurd valid
  each_from front (d ∷ ds) (h ∷ hs) is valid =
      let columns : key_columns schema (length front) ≡ primary_of d.indexes = ap (λ (tables : List TableDef). primary_of (get_or tables (length front) no_table).indexes) is ∙ ap (λ (def : TableDef). primary_of def.indexes) (drop_columns front d ds) in
      let longer : length (front ++ d ∷ []) ≡ suc (length front) = omega (arith, length-append front (d ∷ [])) in (
        subst (λ (cs : List ℕ). IsAscending (row_cmp cs) h.rows) (sym columns) (rows_ascend d h valid.0),
        subst (λ (n : ℕ). EachAscends schema n hs) longer (each_from (front ++ d ∷ []) ds hs (is ∙ sym (append_assoc front (d ∷ []) ds)) valid.1),
      )

pub each_ascends : (db : Database) → IsValidDatabase db → EachAscends db.schema 0 db.tables
each_ascends db valid = each_from db.schema [] db.schema.tables db.tables refl valid.tables

-- as many tables as the schema has
pub as_many : (db : Database) → IsValidDatabase db → length db.tables ≡ length db.schema.tables
as_many db valid = sym (length-map db.tables placed) ∙ sym (zip_long AreValidRows db.schema.tables (map placed db.tables) valid.tables)

pub put_of_changes : (before after : Database) → IsValidDatabase before → IsValidDatabase after → after.schema ≡ before.schema → after.bytes_max ≡ before.bytes_max → put before (changes before after) ≡ after
put_of_changes before after old new schema most =
    let many : length before.tables ≡ length after.tables = as_many before old ∙ ap (λ (s : Schema). length s.tables) (sym schema) ∙ sym (as_many after new) in
    let new' = subst (λ (s : Schema). EachAscends s 0 after.tables) schema (each_ascends after new) in
    let ascending = changes_ascend before.schema 0 before.tables after.tables (each_ascends before old) new' in
    let tables = holdings_are before.schema [] 0 before.tables after.tables many tt (each_ascends before old) new' ascending in
    ap (λ (holdings : List Holding). record { schema = before.schema; bytes_max = before.bytes_max; tables = holdings }) tables
    ∙ ap₂ (λ (s : Schema) (n : ℕ). record { schema = s; bytes_max = n; tables = after.tables }) (sym schema) (sym most)
