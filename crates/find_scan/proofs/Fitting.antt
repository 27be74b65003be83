-- What follows from a find that fits valid tables.
use Rattle.std.proofs.Common.{◌≡◌, ℕ, zero, suc, ◌≤◌, ◌<◌, arith, List, [], ◌∷◌, length, get_or, Option, Some, None, refl, sym, ap, subst, ◌∙◌}
use Rattle.std.specs.List.{All}
use Rattle.std.proofs.lemmas.List.{get_or-map}
use Rattle.std.specs.Prelude.{IfSome}
use Rattle.row_types.specs.declared.values.Value.{Value}
use Rattle.row_types.specs.declared.columns.Column.{Column}
use Rattle.row_types.specs.declared.indexes.IndexDef.{IndexDef}
use Rattle.row_types.specs.declared.indexes.IndexKind.TheVariants.{Primary}
use Rattle.row_types.specs.declared.tables.TableDef.{TableDef}
use Rattle.index_tree.specs.Ordered.{IsAscending, AreApart}
use Rattle.index_tree.proofs.Apart.{apart_from_ascending}
use Rattle.index_tree.proofs.Elements.{all_kept, all_weaker}
use Rattle.index_tree.proofs.InOrder.{all_in_order, ascending_in_order}
use Rattle.table_rows.specs.Entries.{Entry, entry_cmp}
use Rattle.table_rows.proofs.CellOrder.{entry_cmp_total, apart_at_more}
use Rattle.table_rows.proofs.SlotLists.{all_reversed}
use Rattle.request_types.specs.declared.filters.FilterSpec.{FilterSpec}
use Rattle.request_types.specs.declared.finds.FindOp.TheVariants.{Equal}
use Rattle.request_types.specs.declared.finds.InSpec.{InSpec}
use Rattle.request_types.specs.declared.finds.FindSpec.{FindSpec}
use Rattle.request_types.specs.Fits.{KeyFits, ListFits, FindFitsTable, FindFits}
use Rattle.request_types.proofs.FitFacts.{is_within, holds_there, filters_within}
use Rattle.table_rows.specs.declared.bound.Bound.{Bound}
use Rattle.table_rows.specs.declared.bound.Bound.TheVariants.{From, Behind, To, Before}
use Rattle.table_rows.specs.Rows.{State, no_table, def_of, columns_of, indexes_of, rows_of, entries_of}
use Rattle.table_rows.specs.Indexes.{parts_at, primary_of}
use Rattle.table_rows.specs.Valid.{IsWhole, AreValidRows, IsValidState}
use Rattle.table_rows.specs.Walks.{walk_of, walked}
use Rattle.table_rows.proofs.BySlot.{HaveOwnSlots}
use Rattle.table_rows.proofs.States.{zip_long, rows_valid}
use Rattle.find_scan.specs.Select.{columns_for, matching}
use Rattle.find_scan.specs.Gathering.{AreWideFor, front_of, is_equal, bound_of}
use Rattle.find_scan.proofs.Fronts.{walked_is}

other_default : {X : Type 0} (xs : List X) (k : ℕ) (d e : X) → k < length xs → get_or xs k d ≡ get_or xs k e
other_default [] k d e within = absurd (omega (arith, within))
other_default (x ∷ xs) zero d e within = refl
other_default (x ∷ xs) (suc k) d e within = other_default xs k d e (omega (arith, within))

module _ (state : State) (spec : FindSpec) (fits : FindFits state.schema spec) where
  table_fits : FindFitsTable (def_of state spec.table) spec
  table_fits = holds_there (λ (t : TableDef). FindFitsTable t spec) state.schema.tables spec.table no_table fits

  pub index_there : spec.index < length (indexes_of state spec.table)
  index_there = is_within (λ (i : IndexDef). KeyFits (columns_of state spec.table) i.parts spec) (indexes_of state spec.table) spec.index table_fits.index

  -- the table that the find names
  pub def_there : (table : TableDef) → table ≡ get_or state.schema.tables spec.table table → table ≡ def_of state spec.table
  def_there table is = is ∙ other_default state.schema.tables spec.table table no_table (is_within (λ (t : TableDef). FindFitsTable t spec) state.schema.tables spec.table fits)

  -- the columns of the index that it names
  pub parts_there : (index : IndexDef) → index ≡ get_or (indexes_of state spec.table) spec.index index → index.parts ≡ parts_at (indexes_of state spec.table) spec.index
  parts_there index is = ap (λ (i : IndexDef). i.parts) is ∙ sym (get_or-map (λ (i : IndexDef). i.parts) (indexes_of state spec.table) spec.index index [] index_there)

  pub key_fits : length spec.key ≤ length (parts_at (indexes_of state spec.table) spec.index)
  key_fits =
      let index : IndexDef = record { name = []; kind = Primary; parts = [] } in
      subst (λ (parts : List ℕ). length spec.key ≤ length parts) (sym (get_or-map (λ (i : IndexDef). i.parts) (indexes_of state spec.table) spec.index index [] index_there))
      (holds_there (λ (i : IndexDef). KeyFits (columns_of state spec.table) i.parts spec) (indexes_of state spec.table) spec.index index table_fits.index).most

  list_at : (columns : List Column) (parts : List ℕ) (within : Option InSpec) → IfSome within (ListFits columns parts spec) → IfSome within (λ list. (spec.op ≡ Equal) × (list.part < length spec.key))
  list_at columns parts None fits = tt
  list_at columns parts (Some list) fits = (fits.equal, fits.part)

  -- a list stands under `=`, for a value of the key
  pub list_there : IfSome spec.within (λ list. (spec.op ≡ Equal) × (list.part < length spec.key))
  list_there =
      let index : IndexDef = record { name = []; kind = Primary; parts = [] } in
      let key = holds_there (λ (i : IndexDef). KeyFits (columns_of state spec.table) i.parts spec) (indexes_of state spec.table) spec.index index table_fits.index in
      list_at (columns_of state spec.table) (get_or (indexes_of state spec.table) spec.index index).parts spec.within key.within

  module _ (valid : IsValidState state) where
    pub table_there : spec.table < length state.tables
    table_there =
        subst (λ (n : ℕ). spec.table < n) (zip_long AreValidRows state.schema.tables state.tables valid.tables)
        (is_within (λ (t : TableDef). FindFitsTable t spec) state.schema.tables spec.table fits)

    rows_there : AreValidRows (def_of state spec.table) (rows_of state spec.table)
    rows_there = rows_valid state valid spec.table table_there

    pub rows_own : HaveOwnSlots (entries_of state spec.table)
    rows_own = rows_there.apart

    pub rows_apart : AreApart (entry_cmp (columns_for state spec)) (entries_of state spec.table)
    rows_apart =
        let primary = primary_of (indexes_of state spec.table) in
        apart_at_more (parts_at (indexes_of state spec.table) spec.index) primary (entries_of state spec.table) (apart_from_ascending (entry_cmp primary) (entries_of state spec.table) rows_there.ascending)

    walk_ascending : IsAscending (entry_cmp (columns_for state spec)) (walk_of state spec.table spec.index)
    walk_ascending =
        ascending_in_order (entry_cmp (columns_for state spec)) (entry_cmp_total (columns_for state spec)) (entries_of state spec.table) rows_apart

    wide_row : (entry : Entry) → IsWhole (columns_of state spec.table) entry.0 → All (λ (f : FilterSpec). f.column < length entry.0) spec.filters
    wide_row entry whole =
        subst (λ (n : ℕ). All (λ (f : FilterSpec). f.column < n) spec.filters) (zip_long _ (columns_of state spec.table) entry.0 whole.cells)
        (filters_within (columns_of state spec.table) spec.filters table_fits.filters)

    wide_walk : AreWideFor spec.filters (walk_of state spec.table spec.index)
    wide_walk =
        all_in_order (entry_cmp (columns_for state spec)) (λ (entry : Entry). All (λ (f : FilterSpec). f.column < length entry.0) spec.filters) (entries_of state spec.table)
        (all_weaker (λ (entry : Entry). IsWhole (columns_of state spec.table) entry.0) (λ (entry : Entry). All (λ (f : FilterSpec). f.column < length entry.0) spec.filters) wide_row (entries_of state spec.table) rows_there.whole)

    -- the rows of a walk have the columns of the filters
    pub wide_walked : (bound : Bound) (key : List Value) → AreWideFor spec.filters (walked bound (columns_for state spec) key (walk_of state spec.table spec.index))
    wide_walked From key = all_kept _ _ _ wide_walk
    wide_walked Behind key = all_kept _ _ _ wide_walk
    wide_walked To key = all_reversed _ _ (all_kept _ _ _ wide_walk)
    wide_walked Before key = all_reversed _ _ (all_kept _ _ _ wide_walk)

    -- and the front of a find's walk is what it looks for
    pub matching_is : (key : List Value) → length key ≤ length (parts_at (indexes_of state spec.table) spec.index)
        → front_of (is_equal spec.op) (parts_at (indexes_of state spec.table) spec.index) key (walked (bound_of spec.op) (columns_for state spec) key (walk_of state spec.table spec.index)) ≡ matching state spec key
    matching_is key short = walked_is spec.op (parts_at (indexes_of state spec.table) spec.index) (primary_of (indexes_of state spec.table)) key (walk_of state spec.table spec.index) short walk_ascending
