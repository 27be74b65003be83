-- Rows from the first to the last, and the first row with a key.
--     all_from      a walk that begins at no key is of all rows
--     keyed_found      of rows that ascend, the first one from the key on has it, if any has
--     keyed_live      a row that is found has a slot
use Rattle.std.proofs.Common.{◌≡◌, ℕ, ◌≤◌, Bool, true, false, not, cond, ◌||◌, List, [], ◌∷◌, ◌++◌, length, find, take, Option, Some, None, IfSome, refl, sym, ap, ◌∙◌, arith}
use Rattle.std.specs.declared.cmp.Ordering.{Ordering}
use Rattle.std.specs.declared.cmp.Ordering.TheVariants.{Less, Equal, Greater}
use Rattle.std.specs.Ordering.{is_lt, is_eq}
use Rattle.std.specs.List.{AllByRecursion}
use Rattle.std.proofs.lemmas.Bool.{true≢false}
use Rattle.std.proofs.lemmas.List.{take-append-le, map-append, length-map}
use Rattle.row_types.specs.declared.values.Value.{Value}
use Rattle.row_types.specs.Order.{key_cmp, prefix_cmp}
use Rattle.index_tree.specs.Ordered.{IsAscending}
use Rattle.index_tree.proofs.Elements.{all_weaker}
use Rattle.table_rows.specs.declared.slot_ref.SlotRef.{SlotRef}
use Rattle.table_rows.specs.declared.bound.Bound.TheVariants.{From}
use Rattle.table_rows.specs.Entries.{Entry, cell_at, cells, has_key, entry_cmp}
use Rattle.table_rows.specs.StoreInside.{stands}
use Rattle.table_rows.specs.Slots.{is_in, is_live}
use Rattle.table_rows.specs.Walks.{walked, first_keyed, slot_of}
use Rattle.table_rows.proofs.CellOrder.{cut_closed}
use Rattle.table_rows.proofs.BySlot.{same_slot}

pub all_from : (columns : List ℕ) (entries : List Entry) → walked From columns [] entries ≡ entries
all_from columns [] = refl
all_from columns (e ∷ es) = ap (λ (rest : List Entry). e ∷ rest) (all_from columns es)

module _ (columns more : List ℕ) (key : List Value) (short : length key ≤ length columns) where
  abbrev order_of : Entry → Ordering
  order_of e = prefix_cmp (cells columns e.0) key

  -- columns behind the key's do not matter
  same_order : (e : Entry) → prefix_cmp (cells (columns ++ more) e.0) key ≡ order_of e
  same_order e =
      ap (λ (vs : List Value). key_cmp vs key)
      (ap (take (length key)) (map-append (cell_at e.0) columns more) ∙ take-append-le (length key) (cells columns e.0) (cells more e.0) (omega (arith, short, length-map columns (cell_at e.0))))

  find_none : (xs : List Entry) → AllByRecursion (λ (e : Entry). has_key columns key e.0 ≡ false) xs → find (λ (e : Entry). has_key columns key e.0) xs ≡ None
  find_none [] none = refl
  find_none (x ∷ xs) none = rw none.0 (find_none xs none.1)

  -- behind a greater one none has the key
  none_behind : (x : Entry) → order_of x ≡ Greater → (xs : List Entry) → AllByRecursion (λ (e : Entry). entry_cmp columns x e ≡ Less) xs → AllByRecursion (λ (e : Entry). has_key columns key e.0 ≡ false) xs
  none_behind x greater = all_weaker (λ (e : Entry). entry_cmp columns x e ≡ Less) (λ (e : Entry). has_key columns key e.0 ≡ false) (λ e less. by_order e less (order_of e) refl)
    where
      by_order : (e : Entry) → entry_cmp columns x e ≡ Less → (o : Ordering) → order_of e ≡ o → is_eq o ≡ false
      by_order e less Less is = refl
      by_order e less Equal is = absurd (true≢false (sym (cut_closed columns key true x e less (ap (stands true) is)) ∙ ap (stands true) greater))
      by_order e less Greater is = refl

  pub keyed_found : (xs : List Entry) → IsAscending (entry_cmp columns) xs → find (λ (e : Entry). has_key columns key e.0) xs ≡ first_keyed columns key (walked From (columns ++ more) key xs)
  keyed_found [] ascending = refl
  keyed_found (x ∷ xs) ascending = same_test (by_order (keyed_found xs ascending.1) (order_of x) refl)
    where
      same_test : cond (is_eq (order_of x)) (Some x) (find (λ (e : Entry). has_key columns key e.0) xs) ≡ first_keyed columns key (cond (not (is_lt (order_of x))) (x ∷ walked From (columns ++ more) key xs) (walked From (columns ++ more) key xs)) → find (λ (e : Entry). has_key columns key e.0) (x ∷ xs) ≡ first_keyed columns key (walked From (columns ++ more) key (x ∷ xs))
      same_test same = same ∙ ap (λ (o : Ordering). first_keyed columns key (cond (not (is_lt o)) (x ∷ walked From (columns ++ more) key xs) (walked From (columns ++ more) key xs))) (sym (same_order x))

      by_order : find (λ (e : Entry). has_key columns key e.0) xs ≡ first_keyed columns key (walked From (columns ++ more) key xs) → (o : Ordering) → order_of x ≡ o → cond (is_eq o) (Some x) (find (λ (e : Entry). has_key columns key e.0) xs) ≡ first_keyed columns key (cond (not (is_lt o)) (x ∷ walked From (columns ++ more) key xs) (walked From (columns ++ more) key xs))
      by_order rest Less is = rest
      by_order rest Equal is = rw is refl
      by_order rest Greater is = rw is (find_none xs (none_behind x is xs ascending.0))

-- what is found has a slot
pub keyed_live : (test : Entry → Bool) (entries : List Entry) → IfSome (slot_of (find test entries)) (λ (slot : SlotRef). is_live slot.0 entries ≡ true)
keyed_live test [] = tt
keyed_live test (e ∷ es) = by_test (test e) (keyed_live test es)
  where
    later : (o : Option Entry) → IfSome (slot_of o) (λ (slot : SlotRef). is_live slot.0 es ≡ true) → IfSome (slot_of o) (λ (slot : SlotRef). is_live slot.0 (e ∷ es) ≡ true)
    later None live = tt
    later (Some found) live = rw live (or_true (is_in found.1 e))
      where
        or_true : (b : Bool) → (b || true) ≡ true
        or_true true = refl
        or_true false = refl

    by_test : (b : Bool) → IfSome (slot_of (find test es)) (λ (slot : SlotRef). is_live slot.0 es ≡ true) → IfSome (slot_of (cond b (Some e) (find test es))) (λ (slot : SlotRef). is_live slot.0 (e ∷ es) ≡ true)
    by_test true rest = ap (λ (b : Bool). b || is_live e.1 es) (same_slot e.1)
    by_test false rest = later (find test es) rest
