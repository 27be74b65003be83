-- Entries by their slots.
--     without_free, all_without, free_without, without_again      a slot without a row, and none that is taken out twice
--     found, live_member, row_of_member      what a slot has
--     without_put, live_put, put_back      an entry that comes and goes, or goes and comes
use Rattle.std.proofs.Common.{◌≡◌, ℕ, Bool, true, false, cond, not, ◌||◌, List, [], ◌∷◌, find, Some, None, Contains, subst, sym, refl, ap, ◌∙◌, inl, inr}
use Rattle.std.specs.Prelude.{◌==◌}
use Rattle.std.specs.List.{AllByRecursion}
use Rattle.std.specs.Option.{option_map}
use Rattle.std.specs.declared.cmp.Ordering.{Ordering}
use Rattle.std.specs.declared.cmp.Ordering.TheVariants.{Less}
use Rattle.std.specs.Ordering.{is_lt}
use Rattle.std.specs.Cmp.{IsTotalOrder}
use Rattle.std.proofs.lemmas.Bool.{true≢false, eqb-true, eq-eqb, ne_eqb, not-true, not_from_true}
use Rattle.index_tree.specs.Parts.{IsParted}
use Rattle.index_tree.specs.Ordered.{IsAscending, with_item, is_below}
use Rattle.index_tree.proofs.Elements.{all_pass, all_weaker, all_members, contains_first, contains_later, contains_cases, no_member}
use Rattle.index_tree.proofs.Ascending.{greater_back}
use Rattle.row_types.specs.declared.values.Value.{Value}
use Rattle.table_rows.specs.Entries.{Entry}
use Rattle.table_rows.specs.Slots.{is_in, is_live, row_in, row_of, row_if, without}
use Rattle.table_rows.specs.Valid.{EachPair}
use Rattle.table_rows.proofs.Passing.{others_all, any_false, none_any, any_member, filter_put, put_first, put_later, any_put}

-- each entry has a slot of its own
abbrev pub HaveOwnSlots : List Entry → Type 0
HaveOwnSlots entries = EachPair (λ (a b : Entry). is_in a.1 b ≡ false) entries

pub same_slot : (slot : ℕ) → (slot == slot) ≡ true
same_slot slot = eq-eqb slot slot refl

pub other_slot : (a b : Entry) → is_in a.1 b ≡ false → is_in b.1 a ≡ false
other_slot a b other = ne_eqb a.1 b.1 (λ same. true≢false (sym (eq-eqb b.1 a.1 (sym same)) ∙ other))

-- a slot without a row
pub without_free : (slot : ℕ) (entries : List Entry) → is_live slot entries ≡ false → without slot entries ≡ entries
without_free slot entries free = others_all (is_in slot) entries (any_false (is_in slot) entries free)

pub all_without : (slot : ℕ) (entries : List Entry) → AllByRecursion (λ x. is_in slot x ≡ false) (without slot entries)
all_without slot entries =
    all_weaker (λ (x : Entry). not (is_in slot x) ≡ true) (λ (x : Entry). is_in slot x ≡ false) (λ x passes. not-true _ passes) _ (all_pass (λ (x : Entry). not (is_in slot x)) entries)

pub free_without : (slot : ℕ) (entries : List Entry) → is_live slot (without slot entries) ≡ false
free_without slot entries = none_any (is_in slot) _ (all_without slot entries)

pub without_again : (slot : ℕ) (entries : List Entry) → without slot (without slot entries) ≡ without slot entries
without_again slot entries = without_free slot _ (free_without slot entries)

-- a slot with a row: its entry is one of them
found_step : (slot : ℕ) (e : Entry) (es : List Entry) (b : Bool) → is_in slot e ≡ b → (is_live slot es ≡ true → Contains es (row_of slot es, slot)) → (b || is_live slot es) ≡ true → Contains (e ∷ es) (row_in (cond b (Some e) (find (is_in slot) es)), slot)
found_step slot e es true same rest live = subst (λ (s : ℕ). Contains (e ∷ es) (e.0, s)) (eqb-true e.1 slot same) (contains_first e es)
found_step slot e es false other rest live = contains_later e es (row_of slot es, slot) (rest live)

pub found : (slot : ℕ) (entries : List Entry) → is_live slot entries ≡ true → Contains entries (row_of slot entries, slot)
found slot [] live = absurd (true≢false (sym live))
found slot (e ∷ es) live = found_step slot e es (is_in slot e) refl (found slot es) live

pub live_member : (entries : List Entry) (e : Entry) → Contains entries e → is_live e.1 entries ≡ true
live_member entries e has = any_member (is_in e.1) entries e has (same_slot e.1)

-- that row, if there is one
if_step : (slot : ℕ) (e : Entry) (es : List Entry) (b : Bool) → row_if slot es ≡ cond (is_live slot es) (Some (row_of slot es)) None → option_map (λ (entry : Entry). entry.0) (cond b (Some e) (find (is_in slot) es)) ≡ cond (b || is_live slot es) (Some (row_in (cond b (Some e) (find (is_in slot) es)))) None
if_step slot e es true rest = refl
if_step slot e es false rest = rest

pub row_if_live : (slot : ℕ) (entries : List Entry) → row_if slot entries ≡ cond (is_live slot entries) (Some (row_of slot entries)) None
row_if_live slot [] = refl
row_if_live slot (e ∷ es) = if_step slot e es (is_in slot e) (row_if_live slot es)

-- and where each has a slot of its own it is the only one
pub row_of_member : (entries : List Entry) (e : Entry) → HaveOwnSlots entries → Contains entries e → row_of e.1 entries ≡ e.0
row_of_member [] e own has = absurd (no_member e has)
row_of_member (x ∷ xs) e own has = elim (contains_cases x xs e has) [
  | inl same ↦ let first : is_in e.1 x ≡ true = eq-eqb x.1 e.1 (ap (λ (y : Entry). y.1) same) in
      rw first (ap (λ (y : Entry). y.0) same)
  | inr later ↦ let other : is_in e.1 x ≡ false = other_slot x e (all_members (λ (y : Entry). is_in x.1 y ≡ false) xs e own.0 later) in
      rw other (row_of_member xs e own.1 later)
]

module _ (cmp : Entry → Entry → Ordering) where
  -- an entry that came is gone
  pub without_put : (slot : ℕ) (row : List Value) (entries : List Entry) → IsParted (is_below cmp (row, slot)) entries → without slot (with_item cmp (row, slot) entries) ≡ without slot entries
  without_put slot row entries parted =
      filter_put (λ (e : Entry). not (is_in slot e)) (is_below cmp (row, slot)) (row, slot) entries parted (not_from_true _ (same_slot slot))

  pub live_put : (slot : ℕ) (row : List Value) (entries : List Entry) → is_live slot (with_item cmp (row, slot) entries) ≡ true
  live_put slot row entries = any_put (is_in slot) (is_below cmp (row, slot)) (row, slot) entries (same_slot slot)

module _ (cmp : Entry → Entry → Ordering) (order : IsTotalOrder cmp) where
  none_below : (e : Entry) (es : List Entry) → AllByRecursion (λ y. cmp e y ≡ Less) es → AllByRecursion (λ y. is_below cmp e y ≡ false) es
  none_below e es all = all_weaker (λ (y : Entry). cmp e y ≡ Less) (λ (y : Entry). is_below cmp e y ≡ false) (λ y less. ap is_lt (greater_back cmp order e y less)) es all

  put_back_first : (slot : ℕ) (e : Entry) (es : List Entry) → is_in slot e ≡ true → AllByRecursion (λ y. cmp e y ≡ Less) es → AllByRecursion (λ y. is_in e.1 y ≡ false) es → with_item cmp (e.0, slot) (without slot es) ≡ e ∷ es
  put_back_first slot e es same above own =
      subst (λ (s : ℕ). with_item cmp (e.0, s) (without s es) ≡ e ∷ es) (eqb-true e.1 slot same)
      (ap (λ (ys : List Entry). with_item cmp e ys) (others_all (is_in e.1) es own) ∙ put_first (is_below cmp e) e es (none_below e es above))

  put_back_step : (slot : ℕ) (e : Entry) (es : List Entry) → IsAscending cmp (e ∷ es) → HaveOwnSlots (e ∷ es) → (is_live slot es ≡ true → with_item cmp (row_of slot es, slot) (without slot es) ≡ es) → (b : Bool) → is_in slot e ≡ b → (b || is_live slot es) ≡ true →
      with_item cmp (row_in (cond b (Some e) (find (is_in slot) es)), slot) (cond (not b) (e ∷ without slot es) (without slot es)) ≡ e ∷ es
  put_back_step slot e es ascending own rest true same live = put_back_first slot e es same ascending.0 own.0
  put_back_step slot e es ascending own rest false other live =
      let less : cmp e (row_of slot es, slot) ≡ Less = all_members (λ (y : Entry). cmp e y ≡ Less) es (row_of slot es, slot) ascending.0 (found slot es live) in
      put_later (is_below cmp (row_of slot es, slot)) (row_of slot es, slot) e (without slot es) (ap is_lt less) ∙ ap (λ (ys : List Entry). e ∷ ys) (rest live)

  -- an entry that went is back
  pub put_back : (slot : ℕ) (entries : List Entry) → IsAscending cmp entries → HaveOwnSlots entries → is_live slot entries ≡ true → with_item cmp (row_of slot entries, slot) (without slot entries) ≡ entries
  put_back slot [] ascending own live = absurd (true≢false (sym live))
  put_back slot (e ∷ es) ascending own live = put_back_step slot e es ascending own (put_back slot es ascending.1 own.1) (is_in slot e) refl live
