-- What is known of slots, with one note more that is older.
--     number_cmp, then_eq, slot_eq      numbers and slots that compare as equal
--     touches, slot_table, slot_within      a note's slot and its table
--     told_is      the row from before of a slot
--     tells_nothing, tells_next, tells_same      what is known of them
use Rattle.std.proofs.Common.{◌≡◌, ℕ, zero, suc, Bool, true, false, cond, ◌&&◌, ltb, eqb, ◌<◌, length, List, [], ◌∷◌, ◌++◌, refl, sym, ap, ap₂, subst, ◌∙◌, inl, inr, arith}
use Rattle.std.specs.Prelude.{Option, Some, None, IfSome, slice_get, option_copied}
use Rattle.std.specs.Borrow.{Bor}
use Rattle.std.specs.declared.cmp.Ordering.{Ordering}
use Rattle.std.specs.declared.cmp.Ordering.TheVariants.{Less, Equal, Greater}
use Rattle.std.specs.Ordering.{is_eq, nat_cmp, ordering_then}
use Rattle.std.proofs.lemmas.Bool.{cases_Bool, ltb-true, ne_eqb}
use Rattle.std.proofs.lemmas.Option.{same_Some}
use Rattle.index_tree.proofs.Elements.{all_members, contains_at}
use Rattle.row_types.specs.declared.values.Value.{Value}
use Rattle.table_rows.specs.declared.undo.Undo.{Undo}
use Rattle.table_rows.specs.declared.undo.Undo.TheVariants.{Put, Replaced, Deleted, Count}
use Rattle.table_rows.specs.Rows.{State}
use Rattle.table_rows.specs.Slots.{row_found}
use Rattle.table_rows.specs.Undoing.{since, table_of}
use Rattle.change_set.specs.Touched.{AreOfTables, numbered, old_told, old_at, slot_of, is_of_slot, row_before, slot_before, slot_cmp, told_or, TellsBefore}
use Rattle.change_set.proofs.NoteSteps.{since_next, before_next}

not_both : (a b : ℕ) → ltb a b ≡ true → a ≡ b → ⊥
not_both a b less same = let below = ltb-true a b less in omega (arith, below, same)

pub number_cmp : (a b : ℕ) → is_eq (nat_cmp a b) ≡ eqb a b
number_cmp a b =
    elim (cases_Bool (ltb a b)) [
      | inl less ↦ rw less (sym (ne_eqb a b (not_both a b less)))
      | inr not_less ↦ elim (cases_Bool (eqb a b)) [
        | inl same ↦ rw (not_less, same) refl
        | inr other ↦ rw (not_less, other) refl
      ]
    ]

pub then_eq : (o p : Ordering) → is_eq (ordering_then o p) ≡ (is_eq o && is_eq p)
then_eq Less p = refl
then_eq Equal p = refl
then_eq Greater p = refl

pub slot_eq : (a b : ℕ × ℕ) → is_eq (slot_cmp a b) ≡ (eqb a.0 b.0 && eqb a.1 b.1)
slot_eq a b = then_eq (nat_cmp a.0 b.0) (nat_cmp a.1 b.1) ∙ ap₂ (λ (x y : Bool). x && y) (number_cmp a.0 b.0) (number_cmp a.1 b.1)

-- whether a slot that is named is this one
abbrev pub names : Option (ℕ × ℕ) → ℕ → ℕ → Bool
names None table slot = false
names (Some named) table slot = eqb named.0 table && eqb named.1 slot

pub touches : (note : Undo) (table slot : ℕ) → is_of_slot table slot note ≡ names (slot_of note) table slot
touches (Put t s counter) table slot = refl
touches (Replaced t s row counter) table slot = refl
touches (Deleted t s row) table slot = refl
touches (Count t counter) table slot = refl

pub slot_table : (note : Undo) (named : ℕ × ℕ) → slot_of note ≡ Some named → table_of note ≡ named.0
slot_table (Put t s counter) named is = ap (λ (p : ℕ × ℕ). p.0) (same_Some (t, s.0) named is)
slot_table (Replaced t s row counter) named is = ap (λ (p : ℕ × ℕ). p.0) (same_Some (t, s.0) named is)
slot_table (Deleted t s row) named is = ap (λ (p : ℕ × ℕ). p.0) (same_Some (t, s.0) named is)
slot_table (Count t counter) named is = absurd (no_slot named is)
  where
    no_slot : (n : ℕ × ℕ) → None ≡ Some n → ⊥
    no_slot n e = cc

pub slot_within : (state : State) (entries : List Undo) → AreOfTables state entries → (at : ℕ) (note : Undo) → slice_get entries at ≡ Some note → (o : Option (ℕ × ℕ)) → o ≡ slot_of note → IfSome o (λ (slot : ℕ × ℕ). slot.0 < length state.tables)
slot_within state entries tables at note here None is = tt
slot_within state entries tables at note here (Some named) is =
    subst (λ (n : ℕ). n < length state.tables) (slot_table note named (sym is)) (all_members (λ (u : Undo). table_of u < length state.tables) entries note tables (contains_at entries at note here))

pub told_is : (now : State) (notes : List Undo) (known : ℕ × ℕ → Option (Option (Bor (List Value)))) → TellsBefore known notes → (o : Option (ℕ × ℕ)) → old_told now known o ≡ old_at now notes o
told_is now notes known tells None = refl
told_is now notes known tells (Some slot) = ap (numbered slot.0) (sym (tells slot.0 slot.1 (row_found now slot.0 slot.1)))

-- before any note nothing is known
pub tells_nothing : (known : ℕ × ℕ → Option (Option (Bor (List Value)))) → ((q : ℕ × ℕ) → known q ≡ None) → TellsBefore known []
tells_nothing known none table slot now = ap (λ (k : Option (Option (Bor (List Value)))). told_or k now) (sym (none (table, slot)))

module _ (entries : List Undo) (at : ℕ) (note : Undo) (is : slice_get entries at ≡ Some note) where
  before_is : (table slot : ℕ) (now : Option (List Value)) → slot_before table slot (since at entries) now ≡ cond (names (slot_of note) table slot) (row_before note) (slot_before table slot (since (suc at) entries) now)
  before_is table slot now =
      ap (λ (notes : List Undo). slot_before table slot notes now) (since_next entries at note is)
      ∙ before_next table slot (since (suc at) entries) note now
      ∙ ap (λ (b : Bool). cond b (row_before note) (slot_before table slot (since (suc at) entries) now)) (touches note table slot)

  told_next : (row : Option (Bor (List Value))) (now : Option (List Value)) (known : Option (Option (Bor (List Value)))) → option_copied row ≡ row_before note → (b : Bool) → cond b (row_before note) (told_or known now) ≡ told_or (cond b (Some row) known) now
  told_next row now known same true = sym same
  told_next row now known same false = refl

  -- the oldest note of a slot is what is known of it
  pub tells_next : (known after : ℕ × ℕ → Option (Option (Bor (List Value)))) (named : ℕ × ℕ) (row : Option (Bor (List Value))) → slot_of note ≡ Some named → option_copied row ≡ row_before note
      → ((q : ℕ × ℕ) → after q ≡ cond (is_eq (slot_cmp named q)) (Some row) (known q)) → TellsBefore known (since (suc at) entries) → TellsBefore after (since at entries)
  tells_next known after named row of same updates tells table slot now =
      before_is table slot now
      ∙ ap₂ (λ (b : Bool) (old : Option (List Value)). cond b (row_before note) old) (ap (λ (o : Option (ℕ × ℕ)). names o table slot) of) (tells table slot now)
      ∙ told_next row now (known (table, slot)) same (eqb named.0 table && eqb named.1 slot)
      ∙ ap (λ (b : Bool). told_or (cond b (Some row) (known (table, slot))) now) (sym (slot_eq named (table, slot)))
      ∙ ap (λ (k : Option (Option (Bor (List Value)))). told_or k now) (sym (updates (table, slot)))

  pub tells_same : (known : ℕ × ℕ → Option (Option (Bor (List Value)))) → slot_of note ≡ None → TellsBefore known (since (suc at) entries) → TellsBefore known (since at entries)
  tells_same known of tells table slot now =
      before_is table slot now
      ∙ ap (λ (o : Option (ℕ × ℕ)). cond (names o table slot) (row_before note) (slot_before table slot (since (suc at) entries) now)) of
      ∙ tells table slot now
