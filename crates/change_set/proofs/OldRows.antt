-- The rows of touched slots from before.
--     flat_member, member_flat      members of lists that are joined
--     row_in_slot      what a slot of valid rows has
--     undone_valid, undone_schema, undone_tables      the state before
--     stays, one_entry      a slot that was not touched, and the one entry with a key
--     old_is, is_old      the rows from before that are listed
use Rattle.std.proofs.Common.{◌≡◌, ℕ, zero, suc, ◌<◌, Bool, true, false, cond, ◌&&◌, ◌||◌, eqb, List, [], ◌∷◌, ◌++◌, length, refl, sym, ap, ap₂, subst, ◌∙◌, inl, inr, length-set}
use Rattle.std.specs.Prelude.{Contains, Option, Some, None, slice_get}
use Rattle.std.specs.List.{flat_map, list_any, AllByRecursion}
use Rattle.std.specs.Ordering.{is_eq}
use Rattle.std.proofs.lemmas.Bool.{cases_Bool, true≢false, and_parts, eqb-true}
use Rattle.std.proofs.lemmas.Option.{same_Some}
use Rattle.std.proofs.lemmas.List.Elements.{Contains-append_left, Contains-append_right, Contains-append_cases}
use Rattle.index_tree.specs.Ordered.{IsAscending, HaveSameMembers}
use Rattle.index_tree.proofs.Apart.{apart_from_ascending, apart_at}
use Rattle.index_tree.proofs.Elements.{no_member, contains_first, contains_later, contains_cases, place_of_member}
use Rattle.row_types.specs.declared.values.Value.{Value}
use Rattle.row_types.specs.declared.tables.Schema.{Schema}
use Rattle.row_types.specs.Order.{key_cmp}
use Rattle.table_rows.specs.declared.undo.Undo.{Undo}
use Rattle.table_rows.specs.declared.undo.Undo.TheVariants.{Put, Replaced, Deleted, Count}
use Rattle.table_rows.specs.Entries.{Entry, cells, entry_cmp}
use Rattle.table_rows.specs.Rows.{State, rows_of, entries_of, indexes_of, def_of}
use Rattle.table_rows.specs.Indexes.{primary_of}
use Rattle.table_rows.specs.Slots.{is_live, row_of, row_if, row_found}
use Rattle.table_rows.specs.Undoing.{undone, undone_all, AreUndoable}
use Rattle.table_rows.specs.Valid.{IsValidState}
use Rattle.table_rows.proofs.BySlot.{HaveOwnSlots, same_slot, found, live_member, row_if_live, row_of_member}
use Rattle.table_rows.proofs.Keys.{entry_cmp_total}
use Rattle.table_rows.proofs.States.{rows_valid}
use Rattle.change_set.specs.Touched.{slot_of, is_of_slot, row_before, slot_before, IsRowIn, HasIn, row_once, numbered, old_at, olds_of}
use Rattle.change_set.proofs.RowTests.{any_member, member_any, key_itself}
use Rattle.change_set.proofs.Slots.{all_before}
use Rattle.change_set.proofs.SlotNotes.{names, touches}

module _ {X Y : Type 0} (f : X → List Y) where
  pub flat_member : (xs : List X) (y : Y) → Contains (flat_map f xs) y → (x : X) × Contains xs x × Contains (f x) y
  flat_member [] y inside = absurd (no_member y inside)
  flat_member (x ∷ xs) y inside =
      elim (Contains-append_cases (f x) (flat_map f xs) y inside) [
        | inl own ↦ (x, contains_first x xs, own)
        | inr later ↦ let rest = flat_member xs y later in (rest.0, contains_later x xs rest.0 rest.1, rest.2)
      ]

  pub member_flat : (xs : List X) (x : X) (y : Y) → Contains xs x → Contains (f x) y → Contains (flat_map f xs) y
  member_flat [] x y inside own = absurd (no_member x inside)
  member_flat (z ∷ xs) x y inside own =
      elim (contains_cases z xs x inside) [
        | inl same ↦ Contains-append_left (f z) (flat_map f xs) y (subst (λ (w : X). Contains (f w) y) (sym same) own)
        | inr later ↦ Contains-append_right (f z) (flat_map f xs) y (member_flat xs x y later own)
      ]

no_row : (row : List Value) → None ≡ Some row → ⊥
no_row row e = cc

-- a slot's row is the one that is found
pub row_in_slot : (entries : List Entry) → HaveOwnSlots entries → (slot : ℕ) → IsRowIn entries slot (row_if slot entries)
row_in_slot entries own slot row = (
  λ inside.
      row_if_live slot entries
      ∙ ap (λ (b : Bool). cond b (Some (row_of slot entries)) None) (live_member entries (row, slot) inside)
      ∙ ap Some (row_of_member entries (row, slot) own inside),
  λ is. by_live is (is_live slot entries) refl,
)
  where
    by_live : row_if slot entries ≡ Some row → (b : Bool) → is_live slot entries ≡ b → Contains entries (row, slot)
    by_live is true live = subst (λ (r : List Value). Contains entries (r, slot)) (same_Some (row_of slot entries) row (sym (row_if_live slot entries ∙ ap (λ (b : Bool). cond b (Some (row_of slot entries)) None) live) ∙ is)) (found slot entries live)
    by_live is false free = absurd (no_row row (sym (row_if_live slot entries ∙ ap (λ (b : Bool). cond b (Some (row_of slot entries)) None) free) ∙ is))

pub undone_valid : (undos : List Undo) (state : State) → IsValidState state → AreUndoable undos state → IsValidState (undone_all undos state)
undone_valid [] state valid can = valid
undone_valid (undo ∷ undos) state valid can = undone_valid undos (undone undo state) can.0.valid can.1

schema_same : (undo : Undo) (state : State) → (undone undo state).schema ≡ state.schema
schema_same (Put table slot counter) state = refl
schema_same (Replaced table slot row counter) state = refl
schema_same (Deleted table slot row) state = refl
schema_same (Count table counter) state = refl

pub undone_schema : (undos : List Undo) (state : State) → (undone_all undos state).schema ≡ state.schema
undone_schema [] state = refl
undone_schema (undo ∷ undos) state = undone_schema undos (undone undo state) ∙ schema_same undo state

long_same : (undo : Undo) (state : State) → length (undone undo state).tables ≡ length state.tables
long_same (Put table slot counter) state = length-set state.tables table _
long_same (Replaced table slot row counter) state = length-set state.tables table _
long_same (Deleted table slot row) state = length-set state.tables table _
long_same (Count table counter) state = length-set state.tables table _

pub undone_tables : (undos : List Undo) (state : State) → length (undone_all undos state).tables ≡ length state.tables
undone_tables [] state = refl
undone_tables (undo ∷ undos) state = undone_tables undos (undone undo state) ∙ long_same undo state

-- the entry with a key is the only one
pub one_entry : (columns : List ℕ) (entries : List Entry) → IsAscending (entry_cmp columns) entries → (a b : Entry) → Contains entries a → Contains entries b → cells columns a.0 ≡ cells columns b.0 → a ≡ b
one_entry columns entries ascending a b first second same =
    let i = place_of_member entries a first in
    let j = place_of_member entries b second in
    let equal : is_eq (entry_cmp columns a b) ≡ true = subst (λ (key : List Value). is_eq (key_cmp (cells columns a.0) key) ≡ true) same (key_itself (cells columns a.0)) in
    let place = apart_at (entry_cmp columns) (entry_cmp_total columns) entries (apart_from_ascending (entry_cmp columns) entries ascending) i.0 j.0 a b i.1 j.1 equal in
    same_Some a b (sym i.1 ∙ ap (slice_get entries) place ∙ j.1)

pub neither : (a b : Bool) → (a || b) ≡ false → (a ≡ false) × (b ≡ false)
neither true b e = absurd (true≢false e)
neither false b e = (refl, e)

untouched : (table slot : ℕ) (notes : List Undo) (row : Option (List Value)) → list_any (is_of_slot table slot) notes ≡ false → slot_before table slot notes row ≡ row
untouched table slot [] row none = refl
untouched table slot (note ∷ notes) row none =
    let both = neither (is_of_slot table slot note) (list_any (is_of_slot table slot) notes) none in
    ap (λ (b : Bool). slot_before table slot notes (cond b (row_before note) row)) both.0 ∙ untouched table slot notes row both.1

pub named_is : (o : Option (ℕ × ℕ)) (table slot : ℕ) → names o table slot ≡ true → o ≡ Some (table, slot)
named_is None table slot is = absurd (true≢false (sym is))
named_is (Some named) table slot is =
    let both = and_parts _ _ is in
    ap₂ (λ (t s : ℕ). Some (t, s)) (eqb-true named.0 table both.0) (eqb-true named.1 slot both.1)

pub names_itself : (named : ℕ × ℕ) → names (Some named) named.0 named.1 ≡ true
names_itself named = rw (same_slot named.0, same_slot named.1) refl

module _ (now : State) (notes : List Undo) (valid : IsValidState now) (can : AreUndoable notes now) where
  abbrev before : State
  before = undone_all notes now

  -- a slot that a note is of
  abbrev pub IsTouched : ℕ → ℕ → Type 0
  IsTouched table slot = list_any (is_of_slot table slot) notes ≡ true

  module _ (table : ℕ) (within : table < length now.tables) where
    pub has_now : (slot : ℕ) → HasIn now table slot (row_found now table slot)
    has_now slot = row_in_slot (entries_of now table) (rows_valid now valid table within).apart slot

    pub has_once : (slot : ℕ) → HasIn before table slot (row_once now notes (table, slot))
    has_once slot = all_before notes now can table slot (row_found now table slot) (has_now slot)

    -- a row of a slot that was not touched was there and is there
    pub stays : (row : List Value) (slot : ℕ) → list_any (is_of_slot table slot) notes ≡ false → Contains (entries_of now table) (row, slot) → Contains (entries_of before table) (row, slot)
    stays row slot none inside = (has_once slot row).1 (untouched table slot notes (row_found now table slot) none ∙ (has_now slot row).0 inside)

    pub stayed : (row : List Value) (slot : ℕ) → list_any (is_of_slot table slot) notes ≡ false → Contains (entries_of before table) (row, slot) → Contains (entries_of now table) (row, slot)
    stayed row slot none inside = (has_now slot row).1 (sym (untouched table slot notes (row_found now table slot) none) ∙ (has_once slot row).0 inside)

  -- a row that a touched slot of the table had
  abbrev pub IsOld : ℕ → List Value → Type 0
  IsOld table row = (slot : ℕ) × IsTouched table slot × (row_once now notes (table, slot) ≡ Some row)

  module _ (undos : List Undo) (same : HaveSameMembers undos notes) where
    old_of : (undo : Undo) → Contains undos undo → (o : Option (ℕ × ℕ)) → slot_of undo ≡ o → (old : ℕ × List Value) → Contains (old_at now notes o) old → IsOld old.0 old.1
    old_of undo inside None is old own = absurd (no_member old own)
    old_of undo inside (Some named) is old own = by_row (row_once now notes named) refl own
      where
        by_row : (r : Option (List Value)) → row_once now notes named ≡ r → Contains (numbered named.0 r) old → IsOld old.0 old.1
        by_row None had own = absurd (no_member old own)
        by_row (Some row) had own =
            elim (contains_cases (named.0, row) [] old own) [
              | inl first ↦
                  let touched : is_of_slot named.0 named.1 undo ≡ true = touches undo named.0 named.1 ∙ ap (λ (o : Option (ℕ × ℕ)). names o named.0 named.1) is ∙ names_itself named in
                  subst (λ (x : ℕ × List Value). IsOld x.0 x.1) first
                  (named.1, member_any (is_of_slot named.0 named.1) notes undo ((same undo).0 inside) touched, had)
              | inr none ↦ absurd (no_member old none)
            ]

    pub old_is : (old : ℕ × List Value) → Contains (olds_of now notes undos) old → IsOld old.0 old.1
    old_is old inside = let one = flat_member (λ (undo : Undo). old_at now notes (slot_of undo)) undos old inside in
        old_of one.0 one.1 (slot_of one.0) refl old one.2

    pub is_old : (table : ℕ) (row : List Value) → IsOld table row → Contains (olds_of now notes undos) (table, row)
    is_old table row old =
        let one = any_member (is_of_slot table old.0) notes old.1 in
        let named : slot_of one.0 ≡ Some (table, old.0) = named_is (slot_of one.0) table old.0 (sym (touches one.0 table old.0) ∙ one.2) in
        member_flat (λ (undo : Undo). old_at now notes (slot_of undo)) undos one.0 (table, row) ((same one.0).1 one.1)
        (subst (λ (o : Option (ℕ × ℕ)). Contains (old_at now notes o) (table, row)) (sym named)
        (subst (λ (r : Option (List Value)). Contains (numbered table r) (table, row)) (sym old.2) (contains_first (table, row) [])))
