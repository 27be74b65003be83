-- The rows of slots before changes, out of their notes.
--     one_before      before one change
--     all_before      before all of them
use Rattle.std.proofs.Common.{◌≡◌, ℕ, ◌<◌, Bool, true, false, not, ◌&&◌, cond, eqb, List, [], ◌∷◌, length, set, get_or, refl, sym, ap, subst, ◌∙◌, inl, inr, arith}
use Rattle.std.specs.Prelude.{Contains, Option, Some, None, ◌≢◌}
use Rattle.std.proofs.lemmas.Bool.{cases_Bool, true≢false, eqb-true, ne_eqb}
use Rattle.std.proofs.lemmas.List.{get_or-set_same, get_or-set_other}
use Rattle.index_tree.specs.Ordered.{with_item, is_below}
use Rattle.index_tree.proofs.Elements.{kept_member, member_of_kept, kept_passes}
use Rattle.index_tree.proofs.Members.{put_member_itself, put_member_kept, member_of_put}
use Rattle.std.specs.declared.cmp.Ordering.{Ordering}
use Rattle.row_types.specs.declared.values.Value.{Value}
use Rattle.row_types.specs.declared.indexes.IndexDef.{IndexDef}
use Rattle.table_rows.specs.declared.undo.Undo.{Undo}
use Rattle.table_rows.specs.declared.undo.Undo.TheVariants.{Put, Replaced, Deleted, Count}
use Rattle.table_rows.specs.Entries.{Entry, entry_cmp}
use Rattle.table_rows.specs.Rows.{Rows, State, no_rows, rows_of, entries_of, indexes_of, with_rows}
use Rattle.table_rows.specs.Indexes.{primary_of}
use Rattle.table_rows.specs.Slots.{is_in, without, with_row}
use Rattle.table_rows.specs.Undoing.{undone, undone_all, CanUndo, AreUndoable}
use Rattle.table_rows.proofs.BySlot.{same_slot}
use Rattle.change_set.specs.Touched.{IsRowIn, HasIn, is_of_slot, row_before, slot_before}

no_row : (row : List Value) → None ≡ Some row → ⊥
no_row row e = cc

one_row : (a b : List Value) → Some a ≡ Some b → a ≡ b
one_row a b e = cc

-- without the slot
gone : (slot : ℕ) (entries : List Entry) → IsRowIn (without slot entries) slot None
gone slot entries row = (
  λ inside. absurd (itself (kept_passes (λ (e : Entry). not (is_in slot e)) entries (row, slot) inside)),
  λ e. absurd (no_row row e),
)
  where
    itself : not (eqb slot slot) ≡ true → ⊥
    itself e = true≢false (sym e ∙ ap not (same_slot slot))

-- and the other slots
gone_other : (slot : ℕ) (entries : List Entry) (other : ℕ) (now : Option (List Value)) → eqb other slot ≡ false → IsRowIn entries other now → IsRowIn (without slot entries) other now
gone_other slot entries other now differs is row = (
  λ inside. (is row).0 (member_of_kept (λ (e : Entry). not (is_in slot e)) entries (row, other) inside),
  λ e. kept_member (λ (e : Entry). not (is_in slot e)) entries (row, other) ((is row).1 e) (ap not differs),
)

module _ (indexes : List IndexDef) (slot : ℕ) (new : List Value) (entries : List Entry) where
  abbrev cmp : Entry → Entry → Ordering
  cmp = entry_cmp (primary_of indexes)

  -- with a row in the slot
  put_there : IsRowIn (with_row indexes slot new entries) slot (Some new)
  put_there row = (
    λ inside. elim (member_of_put (is_below cmp (new, slot)) (new, slot) (without slot entries) (row, slot) inside) [
      | inl same ↦ ap (λ (e : Entry). Some e.0) same
      | inr other ↦ absurd (no_row row ((gone slot entries row).0 other))
    ],
    λ e. subst (λ (r : List Value). Contains (with_row indexes slot new entries) (r, slot)) (one_row new row e) (put_member_itself (is_below cmp (new, slot)) (new, slot) (without slot entries)),
  )

  put_other : (other : ℕ) (now : Option (List Value)) → eqb other slot ≡ false → IsRowIn entries other now → IsRowIn (with_row indexes slot new entries) other now
  put_other other now differs is row = (
    λ inside. elim (member_of_put (is_below cmp (new, slot)) (new, slot) (without slot entries) (row, other) inside) [
      | inl same ↦ absurd (true≢false (sym (subst (λ (n : ℕ). eqb n slot ≡ true) (ap (λ (e : Entry). e.1) same) (same_slot slot)) ∙ differs))
      | inr kept ↦ (gone_other slot entries other now differs is row).0 kept
    ],
    λ e. put_member_kept (is_below cmp (new, slot)) (new, slot) (without slot entries) (row, other) ((gone_other slot entries other now differs is row).1 e),
  )

pub other_number : (a b : ℕ) → eqb a b ≡ false → b ≢ a
other_number a b differs e = true≢false (sym (subst (λ (n : ℕ). eqb n b ≡ true) e (same_slot b)) ∙ differs)

turned : (a b : ℕ) → eqb a b ≡ false → eqb b a ≡ false
turned a b differs = ne_eqb b a (other_number a b differs)

-- the entries of the table that is changed, and of the others
pub this_table : (state : State) (table : ℕ) (rows : Rows) → table < length state.tables → entries_of (with_rows state table rows) table ≡ rows.entries
this_table state table rows within = ap (λ (r : Rows). r.entries) (get_or-set_same state.tables table rows no_rows within)

pub other_table : (state : State) (t table : ℕ) (rows : Rows) → eqb t table ≡ false → entries_of (with_rows state t rows) table ≡ entries_of state table
other_table state t table rows differs = ap (λ (r : Rows). r.entries) (get_or-set_other state.tables t table rows no_rows (other_number t table differs))

module _ (state : State) (t slot : ℕ) (rows : Rows) (old : Option (List Value)) (within : t < length state.tables)
    (here : IsRowIn rows.entries slot old)
    (others : (other : ℕ) (now : Option (List Value)) → eqb other slot ≡ false → IsRowIn (entries_of state t) other now → IsRowIn rows.entries other now) where
  this_slot : (there : ℕ) (now : Option (List Value)) → HasIn state t there now → (b : Bool) → eqb slot there ≡ b → IsRowIn rows.entries there (cond b old now)
  this_slot there now has true is = subst (λ (n : ℕ). IsRowIn rows.entries n old) (eqb-true slot there is) here
  this_slot there now has false is = others there now (turned slot there is) has

  by_table : (table there : ℕ) (now : Option (List Value)) → HasIn state table there now → (b : Bool) → eqb t table ≡ b → HasIn (with_rows state t rows) table there (cond (b && eqb slot there) old now)
  by_table table there now has true is =
      let same = eqb-true t table is in
      let before = subst (λ (n : ℕ). HasIn state n there now) (sym same) has in
      subst (λ (n : ℕ). HasIn (with_rows state t rows) n there (cond (eqb slot there) old now)) same
      (subst (λ (entries : List Entry). IsRowIn entries there (cond (eqb slot there) old now)) (sym (this_table state t rows within)) (this_slot there now before (eqb slot there) refl))
  by_table table there now has false is = subst (λ (entries : List Entry). IsRowIn entries there now) (sym (other_table state t table rows is)) has

  changed : (table there : ℕ) (now : Option (List Value)) → HasIn state table there now → HasIn (with_rows state t rows) table there (cond (eqb t table && eqb slot there) old now)
  changed table there now has = by_table table there now has (eqb t table) refl

-- another counter leaves the rows
pub recounted : (state : State) (t counter : ℕ) → t < length state.tables → (table : ℕ) → (b : Bool) → eqb t table ≡ b → entries_of (with_rows state t (record (rows_of state t) { counter = counter })) table ≡ entries_of state table
recounted state t counter within table true is =
    subst (λ (n : ℕ). entries_of (with_rows state t (record (rows_of state t) { counter = counter })) n ≡ entries_of state n) (eqb-true t table is) (this_table state t (record (rows_of state t) { counter = counter }) within)
recounted state t counter within table false is = other_table state t table (record (rows_of state t) { counter = counter }) is

pub one_before : (undo : Undo) (state : State) → CanUndo undo state → (table slot : ℕ) (now : Option (List Value)) → HasIn state table slot now → HasIn (undone undo state) table slot (cond (is_of_slot table slot undo) (row_before undo) now)
one_before (Put t s counter) state can table slot now has =
    changed state t s.0 (record (rows_of state t) { entries = without s.0 (entries_of state t); counter = counter }) None can.table (gone s.0 (entries_of state t)) (gone_other s.0 (entries_of state t)) table slot now has
one_before (Replaced t s row counter) state can table slot now has =
    changed state t s.0 (record (rows_of state t) { entries = with_row (indexes_of state t) s.0 row (entries_of state t); counter = counter }) (Some row) can.table (put_there (indexes_of state t) s.0 row (entries_of state t)) (put_other (indexes_of state t) s.0 row (entries_of state t)) table slot now has
one_before (Deleted t s row) state can table slot now has =
    changed state t s.0 (record (rows_of state t) { entries = with_row (indexes_of state t) s.0 row (entries_of state t) }) (Some row) can.table (put_there (indexes_of state t) s.0 row (entries_of state t)) (put_other (indexes_of state t) s.0 row (entries_of state t)) table slot now has
one_before (Count t counter) state can table slot now has =
    subst (λ (entries : List Entry). IsRowIn entries slot now) (sym (recounted state t counter can.table table (eqb t table) refl)) has

pub all_before : (undos : List Undo) (state : State) → AreUndoable undos state → (table slot : ℕ) (now : Option (List Value)) → HasIn state table slot now → HasIn (undone_all undos state) table slot (slot_before table slot undos now)
all_before [] state can table slot now has = has
all_before (undo ∷ undos) state can table slot now has =
    all_before undos (undone undo state) can.1 table slot (cond (is_of_slot table slot undo) (row_before undo) now) (one_before undo state can.0 table slot now has)
