-- What makes tables of empty ones is what is written of them.
--     made_is, area_is      their net changes from empty tables
--     area_short, made_few      its bytes and its changes are within four bytes
--     written_makes, made_makes      so the area that is written makes these tables
--     makes_one, makes_valid      an area makes one database, a valid one
use Rattle.std.proofs.Common.{◌≡◌, ℕ, suc, ◌<◌, ◌≤◌, ◌^◌, true, List, [], ◌∷◌, ◌++◌, length, map, filter, refl, sym, ap, ap₂, subst, ◌∙◌, arith}
use Rattle.std.specs.Prelude.{Option, Some, None, Result, Ok}
use Rattle.std.specs.Int.{w32, to_be_bytes}
use Rattle.std.specs.List.{AllZip, flat_map}
use Rattle.std.proofs.lemmas.List.Concat.{length-flat_map}
use Rattle.index_tree.specs.Ordered.{IsAscending, in_order}
use Rattle.index_tree.proofs.Ascending.{ascending_agree, ascending_mapped}
use Rattle.index_tree.proofs.Cuts.{filter_all}
use Rattle.index_tree.proofs.Elements.{each_member}
use Rattle.index_tree.proofs.InOrder.{in_order_ascending}
use Rattle.row_types.specs.declared.values.Value.{Value}
use Rattle.row_types.specs.declared.tables.TableDef.{TableDef}
use Rattle.row_types.specs.declared.tables.Schema.{Schema}
use Rattle.row_types.specs.Counted.{counted_of}
use Rattle.table_rows.specs.Counters.{IsCounter, first_counter}
use Rattle.table_rows.specs.Database.{Database, Holding, holding_in, database_of, placed, nothing_in, empty_database}
use Rattle.table_rows.specs.Rows.{Rows, State}
use Rattle.table_rows.specs.Valid.{AreValidRows, IsValidState}
use Rattle.change_set.specs.declared.change.Change.{Change}
use Rattle.change_set.specs.declared.change.Change.TheVariants.{Put}
use Rattle.change_set.specs.Fitting.{AreValuesHeld}
use Rattle.change_set.specs.Net.{counter_changes, table_changes, changes_from, changes}
use Rattle.change_set.specs.Payload.{change_bytes, payload}
use Rattle.change_set.specs.Putting.{row_cmp, put, IsValidDatabase, NoneLower}
use Rattle.change_set.specs.Sets.{key_columns, change_cmp}
use Rattle.change_set.proofs.FromEmpty.{none_deleted}
use Rattle.change_set.proofs.NetApplies.{net_applies}
use Rattle.change_set.proofs.NetFits.{net_fits, no_more}
use Rattle.change_set.proofs.NetOrder.{Ascends, EachAscends, same_place}
use Rattle.change_set.proofs.Nets.{each_ascends, put_of_changes}
use Rattle.change_set.proofs.SetsAgain.{change_total, area_again}
use Rattle.change_set.proofs.ShortPayload.{payload_short}
use Rattle.change_set.proofs.ValidAlone.{database_valid, empty_database_valid}
use Rattle.check_point.specs.Area.{Makes, area_of}
use Rattle.check_point.specs.Written.{made_from}

all_stay : {X : Type 0} (xs : List X) → filter (λ (x : X). true) xs ≡ xs
all_stay xs = filter_all (λ x. true) xs (each_member (λ x. true ≡ true) xs (λ x inside. refl))

module _ (schema : Schema) where
  -- puts of a table's rows ascend as they do
  puts_ascend : (table : ℕ) (rows : List (List Value)) → Ascends schema table rows → IsAscending (change_cmp schema) (map (Put table) rows)
  puts_ascend table rows ascends =
      ascending_mapped (change_cmp schema) (Put table) rows
      (ascending_agree (row_cmp (key_columns schema table)) (λ a b. change_cmp schema (Put table a) (Put table b)) rows (λ a b first second. sym (same_place schema (Put table a) (Put table b) refl refl)) ascends)

  table_is : (table : ℕ) (def : TableDef) (after : Holding) → Ascends schema table after.rows → table_changes schema table (nothing_in def) after ≡ map (Put table) after.rows ++ counter_changes table (first_counter (counted_of def.columns)) after.counter
  table_is table def after ascends =
      ap (λ (cs : List Change). cs ++ counter_changes table (first_counter (counted_of def.columns)) after.counter)
      (ap (λ (rows : List (List Value)). in_order (change_cmp schema) (map (Put table) rows)) (all_stay after.rows)
      ∙ in_order_ascending (change_cmp schema) (change_total schema) (map (Put table) after.rows) (puts_ascend table after.rows ascends))

  made : (first : ℕ) (defs : List TableDef) (tables : List Rows) → EachAscends schema first (map holding_in tables) → made_from first defs tables ≡ changes_from schema first (map nothing_in defs) (map holding_in tables)
  made first [] tables ascend = refl
  made first (d ∷ ds) [] ascend = refl
  made first (d ∷ ds) (t ∷ ts) ascend =
      ap₂ (λ (own rest : List Change). own ++ rest) (sym (table_is first d (holding_in t) ascend.0)) (made (suc first) ds ts ascend.1)

pub made_is : (state : State) → IsValidState state → made_from 0 state.schema.tables state.tables ≡ changes (empty_database state.schema state.bytes_max) (database_of state)
made_is state valid = made state.schema 0 state.schema.tables state.tables (each_ascends (database_of state) (database_valid state valid))

-- empty tables of the same schema
old_valid : (db : Database) → IsValidDatabase db → IsValidDatabase (empty_database db.schema db.bytes_max)
old_valid db valid = empty_database_valid db.schema db.bytes_max valid.schema valid.most

pub area_short : (db : Database) → IsValidDatabase db → length (area_of db) < 2 ^ 32
area_short db valid = payload_short (empty_database db.schema db.bytes_max) db (old_valid db valid) valid

pub made_few : (state : State) → IsValidState state → length (made_from 0 state.schema.tables state.tables) < 2 ^ 32
made_few state valid =
    let all = changes (empty_database state.schema state.bytes_max) (database_of state) in
    let few : length all < 2 ^ 32 = omega (arith, area_short (database_of state) (database_valid state valid), length-flat_map change_bytes all, no_more all) in
    subst (λ (cs : List Change). length cs < 2 ^ 32) (sym (made_is state valid)) few

-- no counter is below the first
first_least : (counted : Option ℕ) (counter : ℕ) → IsCounter counted counter → first_counter counted ≤ counter
first_least None counter is = omega arith
first_least (Some column) counter is = is.0

none_lower : (defs : List TableDef) (holdings : List Holding) → AllZip AreValidRows defs (map placed holdings) → NoneLower (map nothing_in defs) holdings
none_lower [] [] valid = tt
none_lower [] (h ∷ hs) valid = absurd valid
none_lower (d ∷ ds) [] valid = absurd valid
none_lower (d ∷ ds) (h ∷ hs) valid = (first_least (counted_of d.columns) h.counter valid.0.counter, none_lower ds hs valid.1)

pub written_makes : (db : Database) → IsValidDatabase db → AreValuesHeld (changes (empty_database db.schema db.bytes_max) db) → Makes db.schema db.bytes_max (area_of db) db
written_makes db valid held =
    let empty = empty_database db.schema db.bytes_max in
    let old = old_valid db valid in
    record {
      set = changes empty db;
      read = area_again db.schema (changes empty db) valid.schema (net_fits empty db old valid refl held) (none_deleted db.schema db.bytes_max db);
      applies = net_applies empty db old valid refl refl (none_lower db.schema.tables db.tables valid.tables);
      is = sym (put_of_changes empty db old valid refl refl);
    }

-- and so does what was written in this order
pub made_makes : (state : State) → IsValidState state → AreValuesHeld (made_from 0 state.schema.tables state.tables) → Makes state.schema state.bytes_max (area_of (database_of state)) (database_of state)
made_makes state valid held = written_makes (database_of state) (database_valid state valid) (subst AreValuesHeld (made_is state valid) held)

pub area_is : (state : State) (count : ℕ) (bytes : List ℕ) → IsValidState state → count ≡ length (made_from 0 state.schema.tables state.tables) → bytes ≡ flat_map change_bytes (made_from 0 state.schema.tables state.tables) → to_be_bytes w32 count ++ bytes ≡ area_of (database_of state)
area_is state count bytes valid many is =
    ap₂ (λ (n : ℕ) (rest : List ℕ). to_be_bytes w32 n ++ rest) many is ∙ ap payload (made_is state valid)

abbrev ok : List Change → Result (List Change) ℕ
ok set = Ok set

ok_is : (a b : List Change) → ok a ≡ ok b → a ≡ b
ok_is a b e = cc

-- areas make one database
pub makes_one : (schema : Schema) (bytes_max : ℕ) (area : List ℕ) (db other : Database) → Makes schema bytes_max area db → Makes schema bytes_max area other → db ≡ other
makes_one schema bytes_max area db other first second =
    let same : first.set ≡ second.set = ok_is first.set second.set (sym first.read ∙ second.read) in
    first.is ∙ ap (put (empty_database schema bytes_max)) same ∙ sym second.is

pub makes_valid : (schema : Schema) (bytes_max : ℕ) (area : List ℕ) (db : Database) → Makes schema bytes_max area db → IsValidDatabase db
makes_valid schema bytes_max area db makes = subst IsValidDatabase (sym makes.is) makes.applies.valid
