-- Clashes by the first row that is alike.
--     clash_unbarred, clash_none, clash_first      what that row tells of all
use Rattle.std.proofs.Common.{◌≡◌, ℕ, Bool, true, false, cond, not, ◌&&◌, List, [], ◌∷◌, find, Option, Some, None, Contains, refl, ap, sym, subst, ◌∙◌, inl, inr}
use Rattle.std.specs.Prelude.{◌==◌}
use Rattle.std.specs.List.{AllByRecursion}
use Rattle.std.proofs.lemmas.Bool.{true≢false, and_from, and_right, ne_eqb, not-true, not_from_false, eqb-true, eq-eqb, false_from_ne_true}
use Rattle.index_tree.specs.Ordered.{in_order}
use Rattle.index_tree.proofs.Elements.{all_members, each_member, contains_first, contains_later, contains_cases, no_member, kept_member, member_of_kept, kept_passes, some_is_none}
use Rattle.index_tree.proofs.InOrder.{in_order_members}
use Rattle.std.specs.Ordering.{is_eq}
use Rattle.row_types.specs.Order.{key_cmp}
use Rattle.row_types.specs.declared.values.Value.{Value}
use Rattle.row_types.specs.declared.indexes.IndexDef.{IndexDef}
use Rattle.table_rows.specs.Entries.{Entry, cells, entry_cmp}
use Rattle.table_rows.specs.StoreWalks.{is_like, first_like, slot_in}
use Rattle.table_rows.specs.declared.slot_ref.SlotRef.{SlotRef}
use Rattle.table_rows.specs.Slots.{is_in, without}
use Rattle.table_rows.specs.Checks.{is_barred, meets, clashes, others}
use Rattle.table_rows.specs.Valid.{EachPair, AreUniqueIn}
use Rattle.table_rows.specs.Table.{is_named}
use Rattle.table_rows.proofs.Passing.{none_any, any_member}
use Rattle.table_rows.proofs.Keys.{like_is}
use Rattle.table_rows.proofs.Meets.{meets_back}

-- what is found, and what is not
module _ {X : Type 0} (test : X → Bool) where
  find_step : (x : X) (xs : List X) (b : Bool) → test x ≡ b → (find test xs ≡ None → AllByRecursion (λ y. test y ≡ false) xs) → cond b (Some x) (find test xs) ≡ None → AllByRecursion (λ y. test y ≡ false) (x ∷ xs)
  find_step x xs true passes rest none = absurd (some_is_none x none)
  find_step x xs false fails rest none = (fails, rest none)

  pub find_none : (xs : List X) → find test xs ≡ None → AllByRecursion (λ x. test x ≡ false) xs
  find_none [] none = tt
  find_none (x ∷ xs) none = find_step x xs (test x) refl (find_none xs) none

  found_step : (x : X) (xs : List X) (y : X) (b : Bool) → test x ≡ b → (find test xs ≡ Some y → Contains xs y × (test y ≡ true)) → cond b (Some x) (find test xs) ≡ Some y → Contains (x ∷ xs) y × (test y ≡ true)
  found_step x xs y true passes rest some = let same : x ≡ y = cc in subst (λ (z : X). Contains (x ∷ xs) z × (test z ≡ true)) same (contains_first x xs, passes)
  found_step x xs y false fails rest some = let later = rest some in (contains_later x xs y later.0, later.1)

  pub find_some : (xs : List X) (y : X) → find test xs ≡ Some y → Contains xs y × (test y ≡ true)
  find_some [] y some = absurd (some_is_none y (sym some))
  find_some (x ∷ xs) y some = found_step x xs y (test x) refl (find_some xs y) some

-- a relation that holds of each pair holds of any two that differ
pub pair_members : {X : Type 0} (R : X → X → Type 0) → ((x y : X) → R x y → R y x) → (xs : List X) → EachPair R xs → (a b : X) → Contains xs a → Contains xs b → (a ≡ b → ⊥) → R a b
pair_members R back [] pairs a b has_a has_b differ = absurd (no_member a has_a)
pair_members R back (x ∷ xs) pairs a b has_a has_b differ = elim (contains_cases x xs a has_a) [
  | inl first_a ↦ elim (contains_cases x xs b has_b) [
    | inl first_b ↦ absurd (differ (sym first_a ∙ first_b))
    | inr later_b ↦ subst (λ z. R z b) first_a (all_members (R x) xs b pairs.0 later_b)
  ]
  | inr later_a ↦ elim (contains_cases x xs b has_b) [
    | inl first_b ↦ subst (λ z. R a z) first_b (back x a (all_members (R x) xs a pairs.0 later_a))
    | inr later_b ↦ pair_members R back xs pairs.1 a b later_a later_b differ
  ]
]

module _ (index : IndexDef) (row : List Value) where
  -- where the index bars no such row
  pub clash_unbarred : (rest : List Entry) → is_barred index.kind (cells index.parts row) ≡ false → clashes rest row index ≡ false
  clash_unbarred rest free = none_any (meets index row) rest (all_free rest)
    where
      all_free : (es : List Entry) → AllByRecursion (λ e. meets index row e ≡ false) es
      all_free [] = tt
      all_free (e ∷ es) = (ap (λ (b : Bool). b && is_like index.parts row e) free, all_free es)

  meets_when : (e : Entry) → is_barred index.kind (cells index.parts row) ≡ true → is_like index.parts row e ≡ true → meets index row e ≡ true
  meets_when e barred like = and_from _ _ barred like

  meets_never : (e : Entry) → is_like index.parts row e ≡ false → meets index row e ≡ false
  meets_never e unlike = and_right _ _ unlike

  module _ (entries : List Entry) (columns : List ℕ) where
    in_walk : (e : Entry) → Contains (in_order (entry_cmp columns) entries) e → Contains entries e
    in_walk e has = (in_order_members (entry_cmp columns) entries e).1 has

    in_entries : (instead : Option SlotRef) (e : Entry) → Contains (others instead entries) e → Contains entries e
    in_entries None e has = has
    in_entries (Some slot) e has = member_of_kept (λ (x : Entry). not (is_in slot.0 x)) entries e has

    -- where no row is alike
    pub clash_none : (instead : Option SlotRef) → first_like index.parts row (in_order (entry_cmp columns) entries) ≡ None → clashes (others instead entries) row index ≡ false
    clash_none instead none = none_any (meets index row) (others instead entries) (each_member (λ (e : Entry). meets index row e ≡ false) (others instead entries)
        (λ e has. meets_never e (all_members (λ (x : Entry). is_like index.parts row x ≡ false) _ e (find_none (is_like index.parts row) _ none) ((in_order_members (entry_cmp columns) entries e).0 (in_entries instead e has)))))

    module _ (barred : is_barred index.kind (cells index.parts row) ≡ true) (unique : AreUniqueIn entries index) (e : Entry) (has : Contains entries e) (like : is_like index.parts row e ≡ true) where
      -- no other row is alike in an index that bars such rows
      unlike_others : (other : Entry) → Contains entries other → is_in e.1 other ≡ false → is_like index.parts row other ≡ false
      unlike_others other has_other elsewhere = false_from_ne_true _ (λ alike.
          let cells_e : cells index.parts e.0 ≡ cells index.parts row = like_is index.parts row e like in
          let differ : e ≡ other → ⊥ = λ same. true≢false (sym (eq-eqb other.1 e.1 (ap (λ (x : Entry). x.1) (sym same))) ∙ elsewhere) in
          let apart : meets index e.0 other ≡ false = pair_members (λ (a b : Entry). meets index a.0 b ≡ false) (λ a b none. sym (meets_back index a b) ∙ none) entries unique e other has has_other differ in
          let meet : meets index e.0 other ≡ true = subst (λ (vs : List Value). (is_barred index.kind vs && is_eq (key_cmp (cells index.parts other.0) vs)) ≡ true) (sym cells_e) (and_from _ _ barred alike) in
          true≢false (sym meet ∙ apart))

      clash_named : (slot : SlotRef) → e.1 ≡ slot.0 → clashes (without slot.0 entries) row index ≡ false
      clash_named slot at = none_any (meets index row) _ (each_member (λ (x : Entry). meets index row x ≡ false) _
          (λ x has_x. let in_all = member_of_kept (λ (y : Entry). not (is_in slot.0 y)) entries x has_x in
          let elsewhere : is_in e.1 x ≡ false = subst (λ (s : ℕ). is_in s x ≡ false) (sym at) (not-true _ (kept_passes (λ (y : Entry). not (is_in slot.0 y)) entries x has_x)) in
          meets_never x (unlike_others x in_all elsewhere)))

      clash_kept : (slot : SlotRef) → (slot.0 == e.1) ≡ false → clashes (without slot.0 entries) row index ≡ true
      clash_kept slot elsewhere =
          let other : not (is_in slot.0 e) ≡ true = not_from_false _ (ne_eqb e.1 slot.0 (λ same. true≢false (sym (eq-eqb slot.0 e.1 (sym same)) ∙ elsewhere))) in
          any_member (meets index row) _ e (kept_member (λ (y : Entry). not (is_in slot.0 y)) entries e has other) (meets_when e barred like)

      clash_by_name : (instead : Option SlotRef) → clashes (others instead entries) row index ≡ not (is_named instead e.1)
      clash_by_name None = any_member (meets index row) entries e has (meets_when e barred like)
      clash_by_name (Some slot) = by_name (slot.0 == e.1) refl
        where
          by_name : (b : Bool) → (slot.0 == e.1) ≡ b → clashes (without slot.0 entries) row index ≡ not b
          by_name true same = clash_named slot (sym (eqb-true slot.0 e.1 same))
          by_name false other = clash_kept slot other

    -- where the first row that is alike has this slot
    pub clash_first : (instead : Option SlotRef) (slot : ℕ) → is_barred index.kind (cells index.parts row) ≡ true → AreUniqueIn entries index → slot_in (first_like index.parts row (in_order (entry_cmp columns) entries)) ≡ Some slot → clashes (others instead entries) row index ≡ not (is_named instead slot)
    clash_first instead slot barred unique at = by_first (first_like index.parts row (in_order (entry_cmp columns) entries)) refl at
      where
        by_first : (o : Option Entry) → first_like index.parts row (in_order (entry_cmp columns) entries) ≡ o → slot_in o ≡ Some slot → clashes (others instead entries) row index ≡ not (is_named instead slot)
        by_first None first none = absurd (some_is_none slot (sym none))
        by_first (Some e) first some =
            let found = find_some (is_like index.parts row) (in_order (entry_cmp columns) entries) e first in
            let same : e.1 ≡ slot = cc in
            subst (λ (s : ℕ). clashes (others instead entries) row index ≡ not (is_named instead s)) same (clash_by_name barred unique e (in_walk e found.0) found.1 instead)

    pub clash_no_slot : (instead : Option SlotRef) → slot_in (first_like index.parts row (in_order (entry_cmp columns) entries)) ≡ None → clashes (others instead entries) row index ≡ false
    clash_no_slot instead none = clash_none instead (by_first (first_like index.parts row (in_order (entry_cmp columns) entries)) none)
      where
        by_first : (o : Option Entry) → slot_in o ≡ None → o ≡ None
        by_first None e = refl
        by_first (Some x) e = absurd (some_is_none x.1 e)
