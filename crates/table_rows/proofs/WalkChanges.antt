-- What a change of one slot makes of a walk.
use Rattle.std.proofs.Common.{◌≡◌, ℕ, suc, ◌<◌, ◌==◌, take, drop, remove, slice_get, true, false, not, List, ◌∷◌, ◌++◌, length, set, replicate, filter, Some, None, Contains, sym, refl, ap, subst, ◌∙◌}
use Rattle.std.specs.List.{AllByRecursion}
use Rattle.std.proofs.lemmas.List.Elements.{Contains-append_right}
use Rattle.std.proofs.lemmas.Bool.{eq-eqb}
use Rattle.row_types.specs.declared.values.Value.{Value}
use Rattle.index_tree.specs.Ordered.{IsAscending, AreApart, HaveSameMembers, with_item, in_order}
use Rattle.index_tree.proofs.Apart.{apart_to_front, apart_to_middle}
use Rattle.index_tree.proofs.Elements.{all_append, all_weaker, contains_first, place_of_member}
use Rattle.index_tree.proofs.InOrder.{all_in_order, ascending_in_order, in_order_middle, in_order_members}
use Rattle.index_tree.proofs.Removed.{in_order_removed, removed_is_kept}
use Rattle.table_rows.specs.Entries.{Slots, Entry, kept, row_under, IsFree, entry_cmp, walk}
use Rattle.table_rows.specs.StoreWalks.{IsNew, IsKeyed}
use Rattle.table_rows.proofs.CellOrder.{entry_cmp_total, apart_from_new}
use Rattle.table_rows.proofs.Neighbours.{own_slots, others_front, others_rest}
use Rattle.table_rows.proofs.KeptRows.{IsRowOf, before, after, kept_rows, kept_put, kept_take, kept_live, kept_with_vacant, live_within, vacant_within, vacant_itself}

module _ (columns : List ℕ) where
  -- a walk of rows that are apart ascends
  pub walk_ascends : (slots : Slots) → IsKeyed columns slots → IsAscending (entry_cmp columns) (walk columns slots)
  walk_ascends slots keyed = ascending_in_order (entry_cmp columns) (entry_cmp_total columns) (kept slots) keyed

  -- it has just the entries that are kept
  pub walk_members : (slots : Slots) → HaveSameMembers (kept slots) (walk columns slots)
  walk_members slots = in_order_members (entry_cmp columns) (kept slots)

  -- each with the row in its slot
  pub walk_rows : (slots : Slots) → AllByRecursion (IsRowOf slots) (walk columns slots)
  walk_rows slots = all_in_order (entry_cmp columns) (IsRowOf slots) (kept slots) (kept_rows slots)

  -- vacant slots more change no walk
  pub walk_with_vacant : (slots : Slots) (n : ℕ) → walk columns (slots ++ replicate n None) ≡ walk columns slots
  walk_with_vacant slots n = ap (in_order (entry_cmp columns)) (kept_with_vacant slots n)

  module _ (slots : Slots) (slot : ℕ) (within : slot < length slots) where
    keyed_around : IsKeyed columns (set slots slot None) → AreApart (entry_cmp columns) (before slots slot ++ after slots slot)
    keyed_around = subst (AreApart (entry_cmp columns)) (kept_take slots slot within)

    -- a new row beside rows that are apart
    pub keyed_put : (row : List Value) → IsKeyed columns (set slots slot None) → IsNew columns row (kept (set slots slot None)) → IsKeyed columns (set slots slot (Some row))
    keyed_put row keyed new =
        subst (AreApart (entry_cmp columns)) (sym (kept_put slots slot row within))
        (apart_to_middle (entry_cmp columns) (entry_cmp_total columns) (before slots slot) (row, slot) (after slots slot)
        (apart_from_new columns row slot (before slots slot ++ after slots slot) (subst (IsNew columns row) (kept_take slots slot within) new), keyed_around keyed))

    -- a row in a slot comes to stand in its order between all others
    pub walk_put : (row : List Value) → IsKeyed columns (set slots slot (Some row)) → walk columns (set slots slot (Some row)) ≡ with_item (entry_cmp columns) (row, slot) (walk columns (set slots slot None))
    walk_put row keyed =
        let apart = subst (AreApart (entry_cmp columns)) (kept_put slots slot row within) keyed in
        ap (in_order (entry_cmp columns)) (kept_put slots slot row within)
        ∙ in_order_middle (entry_cmp columns) (entry_cmp_total columns) (before slots slot) (row, slot) (after slots slot) apart
        ∙ ap (λ (es : List Entry). with_item (entry_cmp columns) (row, slot) (in_order (entry_cmp columns) es)) (sym (kept_take slots slot within))

  module _ (slots : Slots) (slot : ℕ) (row : List Value) (live : row_under slots slot ≡ Some row) where
    within_of : slot < length slots
    within_of = live_within slots slot row live

    -- without one of them the rows stay apart
    pub keyed_take : IsKeyed columns slots → IsKeyed columns (set slots slot None)
    keyed_take keyed =
        subst (AreApart (entry_cmp columns)) (sym (kept_take slots slot within_of))
        (apart_to_front (entry_cmp columns) (entry_cmp_total columns) (before slots slot) (row, slot) (after slots slot) (subst (AreApart (entry_cmp columns)) (kept_live slots slot row live) keyed)).1

    -- the row in a live slot is one of a walk
    pub walk_has : Contains (walk columns slots) (row, slot)
    walk_has = (walk_members slots (row, slot)).0 (subst (λ (es : List Entry). Contains es (row, slot)) (sym (kept_live slots slot row live)) (in_middle (before slots slot)))
      where
        in_middle : (xs : List Entry) → Contains (xs ++ (row, slot) ∷ after slots slot) (row, slot)
        in_middle xs = Contains-append_right xs ((row, slot) ∷ after slots slot) (row, slot) (contains_first (row, slot) (after slots slot))

    -- without it the walk is that of the entries with other slots
    pub walk_take : IsKeyed columns slots → walk columns (set slots slot None) ≡ filter (λ (e : Entry). not (e.1 == slot)) (walk columns slots)
    walk_take keyed =
        let around = kept_live slots slot row live in
        let placed = place_of_member (walk columns slots) (row, slot) walk_has in
        let there = subst (λ (es : List Entry). slice_get (in_order (entry_cmp columns) es) placed.0 ≡ Some (row, slot)) around placed.1 in
        let own = own_slots columns slots (walk columns slots) (walk_ascends slots keyed) (walk_rows slots) in
        let other = all_weaker (λ (e : Entry). (e.1 == slot) ≡ false) (λ (e : Entry). not (e.1 == slot) ≡ true) (λ e out. ap not out) in
        ap (in_order (entry_cmp columns)) (kept_take slots slot within_of)
        ∙ sym (in_order_removed (entry_cmp columns) (entry_cmp_total columns) (before slots slot) (row, slot) (after slots slot) (subst (AreApart (entry_cmp columns)) around keyed) placed.0 there)
        ∙ ap (λ (es : List Entry). remove (in_order (entry_cmp columns) es) placed.0) (sym around)
        ∙ removed_is_kept (λ (e : Entry). not (e.1 == slot)) (walk columns slots) placed.0 (row, slot) placed.1 (ap not (eq-eqb slot slot refl))
        (all_append (λ (e : Entry). not (e.1 == slot) ≡ true) (take placed.0 (walk columns slots)) (drop (suc placed.0) (walk columns slots))
        (other (take placed.0 (walk columns slots)) (others_front (walk columns slots) placed.0 (row, slot) own placed.1))
        (other (drop (suc placed.0) (walk columns slots)) (others_rest (walk columns slots) placed.0 (row, slot) own placed.1)))

    -- and with another row in its slot the one after the other
    pub walk_replace : (other : List Value) → IsKeyed columns slots → IsNew columns other (kept (set slots slot None)) → walk columns (set slots slot (Some other)) ≡ with_item (entry_cmp columns) (other, slot) (filter (λ (e : Entry). not (e.1 == slot)) (walk columns slots))
    walk_replace other keyed new =
        walk_put slots slot within_of other (keyed_put slots slot within_of other (keyed_take keyed) new) ∙ ap (with_item (entry_cmp columns) (other, slot)) (walk_take keyed)

  -- at a vacant slot, where nothing is to be let go first
  pub walk_put_vacant : (slots : Slots) (slot : ℕ) (row : List Value) → IsFree slots slot → IsKeyed columns slots → IsNew columns row (kept slots) → walk columns (set slots slot (Some row)) ≡ with_item (entry_cmp columns) (row, slot) (walk columns slots)
  walk_put_vacant slots slot row vacant keyed new =
      let same = vacant_itself slots slot vacant in
      let within = vacant_within slots slot vacant in
      walk_put slots slot within row (keyed_put slots slot within row (subst (IsKeyed columns) (sym same) keyed) (subst (λ (ss : Slots). IsNew columns row (kept ss)) (sym same) new))
      ∙ ap (λ (ss : Slots). with_item (entry_cmp columns) (row, slot) (walk columns ss)) same
