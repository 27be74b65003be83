-- Notes, the newest first, with one more that is older.
--     take_next, drop_next, since_next      one item more of a list
--     of_tables      notes that can be taken back are of tables that there are
--     before_next      what a slot had before one change more
--     map_set      a change at a place of a list
use Rattle.std.proofs.Common.{◌≡◌, ℕ, zero, suc, ◌<◌, ◌+◌, Bool, true, false, cond, List, [], ◌∷◌, ◌++◌, map, take, drop, set, get_or, reverse, length, refl, sym, ap, subst, ◌∙◌, length-set}
use Rattle.std.specs.Prelude.{Contains, Option, Some, None, slice_get}
use Rattle.std.specs.List.{AllByRecursion}
use Rattle.std.proofs.lemmas.Option.{same_Some}
use Rattle.std.proofs.lemmas.List.{reverse-append}
use Rattle.std.proofs.lemmas.List.Sorted.{Contains-permutation, IsPermutation-reverse}
use Rattle.index_tree.proofs.Elements.{all_members, each_member, all_weaker}
use Rattle.row_types.specs.declared.values.Value.{Value}
use Rattle.table_rows.specs.declared.undo.Undo.{Undo}
use Rattle.table_rows.specs.declared.undo.Undo.TheVariants.{Put, Replaced, Deleted, Count}
use Rattle.table_rows.specs.Rows.{State}
use Rattle.table_rows.specs.Undoing.{since, table_of, undone, AreUndoable}
use Rattle.change_set.specs.Touched.{AreOfTables, is_of_slot, row_before, slot_before}

nothing_there : {X : Type 0} (x : X) → None ≡ Some x → ⊥
nothing_there x e = cc

pub take_next : {X : Type 0} (xs : List X) (i : ℕ) (x : X) → slice_get xs i ≡ Some x → take (suc i) xs ≡ take i xs ++ x ∷ []
take_next [] i x is = absurd (nothing_there x is)
take_next (y ∷ ys) zero x is = ap (λ z. z ∷ []) (same_Some y x is)
take_next (y ∷ ys) (suc i) x is = ap (λ zs. y ∷ zs) (take_next ys i x is)

pub drop_next : {X : Type 0} (xs : List X) (i : ℕ) (x : X) → slice_get xs i ≡ Some x → drop i xs ≡ x ∷ drop (suc i) xs
drop_next [] i x is = absurd (nothing_there x is)
drop_next (y ∷ ys) zero x is = ap (λ z. z ∷ ys) (same_Some y x is)
drop_next (y ∷ ys) (suc i) x is = drop_next ys i x is

pub since_next : (entries : List Undo) (at : ℕ) (note : Undo) → slice_get entries at ≡ Some note → since at entries ≡ since (suc at) entries ++ note ∷ []
since_next entries at note is = ap reverse (drop_next entries at note is) ∙ reverse-append (note ∷ []) (drop (suc at) entries)

undone_long : (undo : Undo) (state : State) → length (undone undo state).tables ≡ length state.tables
undone_long (Put table slot counter) state = length-set state.tables table _
undone_long (Replaced table slot row counter) state = length-set state.tables table _
undone_long (Deleted table slot row) state = length-set state.tables table _
undone_long (Count table counter) state = length-set state.tables table _

undoable_tables : (undos : List Undo) (state : State) → AreUndoable undos state → AreOfTables state undos
undoable_tables [] state can = tt
undoable_tables (undo ∷ undos) state can =
    (can.0.table, subst (λ (n : ℕ). AllByRecursion (λ (u : Undo). table_of u < n) undos) (undone_long undo state) (undoable_tables undos (undone undo state) can.1))

pub of_tables : (entries : List Undo) (state : State) → AreUndoable (since 0 entries) state → AreOfTables state entries
of_tables entries state can =
    each_member (λ (u : Undo). table_of u < length state.tables) entries
    (λ u inside. all_members (λ (u : Undo). table_of u < length state.tables) (since 0 entries) u (undoable_tables (since 0 entries) state can) (Contains-permutation entries (reverse entries) u (IsPermutation-reverse entries) inside))

pub before_next : (table slot : ℕ) (notes : List Undo) (note : Undo) (now : Option (List Value)) → slot_before table slot (notes ++ note ∷ []) now ≡ cond (is_of_slot table slot note) (row_before note) (slot_before table slot notes now)
before_next table slot [] note now = refl
before_next table slot (undo ∷ notes) note now = before_next table slot notes note (cond (is_of_slot table slot undo) (row_before undo) now)

pub map_set : {X Y : Type 0} (f : X → Y) (xs : List X) (i : ℕ) (x : X) → map f (set xs i x) ≡ set (map f xs) i (f x)
map_set f [] i x = refl
map_set f (y ∷ ys) zero x = refl
map_set f (y ∷ ys) (suc i) x = ap (λ zs. f y ∷ zs) (map_set f ys i x)

-- a change that the function does not see
pub map_set_same : {X Y : Type 0} (f : X → Y) (xs : List X) (i : ℕ) (x d : X) → f x ≡ f (get_or xs i d) → map f (set xs i x) ≡ map f xs
map_set_same f [] i x d is = refl
map_set_same f (y ∷ ys) zero x d is = ap (λ z. z ∷ map f ys) is
map_set_same f (y ∷ ys) (suc i) x d is = ap (λ zs. f y ∷ zs) (map_set_same f ys i x d is)
