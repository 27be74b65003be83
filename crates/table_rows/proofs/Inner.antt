-- What holds inside of tables.
--     kept_at      a table is kept in the orders of its indexes
--     seen_after, inside_after      a table that has other rows
use Rattle.std.proofs.Common.{◌≡◌, ℕ, ◌<◌, List, [], length, get_or, set, map, Option, None, refl, ap, sym, subst, ◌∙◌}
use Rattle.std.specs.Vec.{with_item}
use Rattle.std.proofs.lemmas.List.{get_or-map, length-map, map-set}
use Rattle.std.proofs.Math.Seq.{map-set_same}
use Rattle.row_types.specs.declared.tables.TableDef.{TableDef}
use Rattle.row_types.specs.Counted.{counted_of}
use Rattle.table_rows.specs.declared.tables.Tables.TheInside.{Inside}
use Rattle.table_rows.specs.Rows.{Rows, State, no_table, no_rows, indexes_of, rows_of, counted_at, with_rows}
use Rattle.table_rows.specs.Indexes.{primary_of, parts_of}
use Rattle.table_rows.specs.Sizes.{total}
use Rattle.table_rows.specs.Valid.{AreValidRows, IsValidState}
use Rattle.table_rows.specs.Table.{Table, kept_of}
use Rattle.table_rows.specs.Inside.{seen, IsInside}
use Rattle.table_rows.proofs.States.{zip_long}

-- the table as it is kept, with other rows
abbrev pub kept_with : State → ℕ → Rows → Table
kept_with state table rows = record { key = (kept_of state table).key; orders = (kept_of state table).orders; counted = (kept_of state table).counted; rows = rows }

-- the fields once a table was changed
abbrev pub after : Inside → ℕ → ℕ → Table → Inside
after inside bytes table new =
    record { schema = inside.schema; bytes_max = inside.bytes_max; total = bytes; stores = with_item inside.stores table new }

module _ (inside : Inside) (ok : IsInside inside) (table : ℕ) (within_tables : table < length (seen inside).tables) where
  pub within : table < length inside.stores.items
  within = subst (λ (n : ℕ). table < n) (length-map inside.stores.items (λ (t : Table). t.rows)) within_tables

  within_defs : table < length inside.schema.tables
  within_defs = subst (λ (n : ℕ). table < n) (sym (zip_long AreValidRows inside.schema.tables (seen inside).tables ok.valid.tables)) within_tables

  pub kept_at : (store : Table) → store ≡ get_or inside.stores.items table store → store ≡ kept_of (seen inside) table
  kept_at store read =
      let stores = inside.stores.items in
      let defs = inside.schema.tables in
      let key : store.key ≡ primary_of (indexes_of (seen inside) table) =
      ap (λ (t : Table). t.key) read ∙ sym (get_or-map (λ (t : Table). t.key) stores table store [] within) ∙ ap (λ (ks : List (List ℕ)). get_or ks table []) ok.keys
      ∙ get_or-map (λ (d : TableDef). primary_of d.indexes) defs table no_table [] within_defs in
      let orders : store.orders ≡ parts_of (indexes_of (seen inside) table) =
      ap (λ (t : Table). t.orders) read ∙ sym (get_or-map (λ (t : Table). t.orders) stores table store [] within) ∙ ap (λ (os : List (List (List ℕ))). get_or os table []) ok.orders
      ∙ get_or-map (λ (d : TableDef). parts_of d.indexes) defs table no_table [] within_defs in
      let counted : store.counted ≡ counted_at (seen inside) table =
      ap (λ (t : Table). t.counted) read ∙ sym (get_or-map (λ (t : Table). t.counted) stores table store None within) ∙ ap (λ (cs : List (Option ℕ)). get_or cs table None) ok.counted_columns
      ∙ get_or-map (λ (d : TableDef). counted_of d.columns) defs table no_table None within_defs in
      let rows : store.rows ≡ rows_of (seen inside) table =
      ap (λ (t : Table). t.rows) read ∙ sym (get_or-map (λ (t : Table). t.rows) stores table store no_rows within) in
      λ i. record { key = key i; orders = orders i; counted = counted i; rows = rows i }

  module _ (bytes : ℕ) (new : Table) (rows : Rows) (kept : new ≡ kept_with (seen inside) table rows) where
    pub seen_after : seen (after inside bytes table new) ≡ with_rows (seen inside) table rows
    seen_after =
        ap (λ (tables : List Rows). record { schema = inside.schema; bytes_max = inside.bytes_max; tables = tables })
        (map-set (λ (t : Table). t.rows) inside.stores.items table new ∙ ap (λ (t : Table). set (seen inside).tables table t.rows) kept)

    module _ (old : Table) (read : old ≡ get_or inside.stores.items table old) where
      same_part : {X : Type 0} (f : Table → X) → f (kept_with (seen inside) table rows) ≡ f (kept_of (seen inside) table) → map f (set inside.stores.items table new) ≡ map f inside.stores.items
      same_part f same = map-set_same f inside.stores.items table new old (ap f kept ∙ same ∙ sym (ap f (kept_at old read)) ∙ ap f read)

      pub inside_after : IsValidState (with_rows (seen inside) table rows) → bytes ≡ total (with_rows (seen inside) table rows) → IsInside (after inside bytes table new)
      inside_after valid counted = record {
        valid = subst IsValidState (sym seen_after) valid;
        counted = counted ∙ ap total (sym seen_after);
        keys = same_part (λ (t : Table). t.key) refl ∙ ok.keys;
        counted_columns = same_part (λ (t : Table). t.counted) refl ∙ ok.counted_columns;
        orders = same_part (λ (t : Table). t.orders) refl ∙ ok.orders;
      }

-- the same of a state that is seen
module _ (inside : Inside) (ok : IsInside inside) (state : State) (is : seen inside ≡ state) (table : ℕ) (within_state : table < length state.tables) where
  within_seen : table < length (seen inside).tables
  within_seen = subst (λ (s : State). table < length s.tables) (sym is) within_state

  pub valid_state : IsValidState state
  valid_state = subst IsValidState is ok.valid

  pub counted_state : inside.total ≡ total state
  counted_state = ok.counted ∙ ap total is

  pub read_at : (store : Table) → store ≡ get_or inside.stores.items table store → store ≡ kept_of state table
  read_at store read = kept_at inside ok table within_seen store read ∙ ap (λ (s : State). kept_of s table) is

  module _ (bytes : ℕ) (new : Table) (rows : Rows) (kept : new ≡ kept_with state table rows) where
    kept_seen : new ≡ kept_with (seen inside) table rows
    kept_seen = kept ∙ ap (λ (s : State). kept_with s table rows) (sym is)

    pub seen_at : seen (after inside bytes table new) ≡ with_rows state table rows
    seen_at = seen_after inside ok table within_seen bytes new rows kept_seen ∙ ap (λ (s : State). with_rows s table rows) is

    pub inside_at : (old : Table) → old ≡ get_or inside.stores.items table old → IsValidState (with_rows state table rows) → bytes ≡ total (with_rows state table rows) → IsInside (after inside bytes table new)
    inside_at old read valid counted =
        inside_after inside ok table within_seen bytes new rows kept_seen old read (subst (λ (s : State). IsValidState (with_rows s table rows)) (sym is) valid) (counted ∙ ap (λ (s : State). total (with_rows s table rows)) (sym is))
