-- A store's rows as entries alone, without its vacant slots.
--     kept_count, room_left, new_to_kept      how many there are, and which row is new
--     vacant_there, vacant_here, live_there, row_there      what a slot has
--     entries_put, entries_without, entries_replaced, entries_roomy      what a change makes of them
--     walk_there      the order of another index
use Rattle.std.proofs.Common.{◌≡◌, ℕ, ◌+◌, ◌<◌, Bool, true, false, cond, List, ◌++◌, length, set, replicate, Option, Some, None, IsSome, IfSome, refl, ap, sym, subst, ◌∙◌, arith, length-append, get_or-set_same}
use Rattle.std.proofs.lemmas.Bool.{true≢false, ne_eqb}
use Rattle.std.proofs.lemmas.List.{length-replicate}
use Rattle.std.proofs.lemmas.Option.{slice_get-get_or, get_or_from_slice_get}
use Rattle.index_tree.specs.Ordered.{with_item, in_order}
use Rattle.index_tree.proofs.Elements.{all_weaker, all_members, some_is_none}
use Rattle.index_tree.proofs.Members.{all_same, same_members_back}
use Rattle.index_tree.proofs.Apart.{apart_from_ascending}
use Rattle.index_tree.proofs.Ascending.{parted_below}
use Rattle.index_tree.proofs.InOrder.{length-in_order, in_order_alike}
use Rattle.row_types.specs.declared.values.Value.{Value}
use Rattle.table_rows.specs.Entries as store
use Rattle.table_rows.specs.Entries.{Slots, Entry, kept, vacancies, row_under, entry_cmp, walk}
use Rattle.table_rows.specs.StoreWalks.{is_like, IsNew, IsKeyed}
use Rattle.table_rows.proofs.CellOrder.{entry_cmp_total, apart_at_more}
use Rattle.table_rows.proofs.KeptRows.{IsRowOf, count_kept, live_within, live_itself, vacant_within}
use Rattle.table_rows.proofs.WalkChanges.{walk_ascends, walk_members, walk_rows, keyed_put, keyed_take, walk_put, walk_put_vacant, walk_has}
use Rattle.table_rows.proofs.Neighbours.{own_slots}
use Rattle.table_rows.specs.Slots.{IsVacant, is_in, is_live, row_of, row_if, without}
use Rattle.table_rows.proofs.Passing.{none_any}
use Rattle.table_rows.proofs.BySlot.{HaveOwnSlots, row_if_live, found, live_member, row_of_member, without_free, without_put}

some_of : {X : Type 0} (o : Option X) → IsSome o → (x : X) × (o ≡ Some x)
some_of None e = absurd cc
some_of (Some x) e = (x, refl)

is_some_of : {X : Type 0} (o : Option X) (x : X) → o ≡ Some x → IsSome o
is_some_of o x e = subst IsSome (sym e) refl

module _ (key : List ℕ) (slots : Slots) where
  pub kept_count : length (walk key slots) ≡ length (kept slots)
  kept_count = length-in_order (entry_cmp key) (kept slots)

  pub room_left : length (walk key slots) < length slots → 0 < vacancies slots
  room_left less = omega (arith, less, kept_count, count_kept slots)

  pub new_to_kept : (row : List Value) → IsNew key row (walk key slots) → IsNew key row (kept slots)
  new_to_kept row new = all_same (λ (e : Entry). is_like key row e ≡ false) (walk key slots) (kept slots) (same_members_back (kept slots) (walk key slots) (walk_members key slots)) new

  -- a slot without a row
  pub vacant_there : (counter slot : ℕ) → store.IsFree slots slot → IsVacant slot (record { entries = walk key slots; room = length slots; counter = counter })
  vacant_there counter slot vacant = record {
    within = vacant_within slots slot vacant;
    free = none_any (is_in slot) (walk key slots) (all_weaker (IsRowOf slots) (λ (e : Entry). is_in slot e ≡ false) elsewhere (walk key slots) (walk_rows key slots));
  }
    where
      vacant_row : row_under slots slot ≡ None
      vacant_row = get_or_from_slice_get slots slot None None vacant

      elsewhere : (e : Entry) → IsRowOf slots e → is_in slot e ≡ false
      elsewhere e row = ne_eqb e.1 slot (λ same. some_is_none e.0 (sym row ∙ ap (row_under slots) same ∙ vacant_row))

  -- a slot with one
  pub live_there : (slot : ℕ) → is_live slot (walk key slots) ≡ true → row_under slots slot ≡ Some (row_of slot (walk key slots))
  live_there slot live = all_members (IsRowOf slots) (walk key slots) (row_of slot (walk key slots), slot) (walk_rows key slots) (found slot (walk key slots) live)

  pub live_store : (slot : ℕ) → is_live slot (walk key slots) ≡ true → store.IsTaken slots slot
  live_store slot live = is_some_of (row_under slots slot) (row_of slot (walk key slots)) (live_there slot live)

  pub live_here : (slot : ℕ) → store.IsTaken slots slot → is_live slot (walk key slots) ≡ true
  live_here slot live = let row = some_of (row_under slots slot) live in live_member (walk key slots) (row.0, slot) (walk_has key slots slot row.0 row.1)

  pub lives_here : (found : Option ℕ) → IfSome found (store.IsTaken slots) → IfSome found (λ slot. is_live slot (walk key slots) ≡ true)
  lives_here None live = tt
  lives_here (Some slot) live = live_here slot live

  pub vacant_here : (counter slot : ℕ) → IsVacant slot (record { entries = walk key slots; room = length slots; counter = counter }) → store.IsFree slots slot
  vacant_here counter slot vacant = slice_get-get_or slots slot None vacant.within ∙ ap (λ (o : Option (List Value)). Some o) (by_row (row_under slots slot) refl)
    where
      by_row : (o : Option (List Value)) → row_under slots slot ≡ o → o ≡ None
      by_row None row = refl
      by_row (Some r) row = absurd (true≢false (sym (live_member (walk key slots) (r, slot) (walk_has key slots slot r row)) ∙ vacant.free))

  -- the row of a slot that may have none
  pub row_if_there : (slot : ℕ) → row_under slots slot ≡ row_if slot (walk key slots)
  row_if_there slot = by_live (is_live slot (walk key slots)) refl ∙ sym (row_if_live slot (walk key slots))
    where
      none_there : is_live slot (walk key slots) ≡ false → (o : Option (List Value)) → row_under slots slot ≡ o → o ≡ None
      none_there free None row = refl
      none_there free (Some r) row = absurd (true≢false (sym (live_member (walk key slots) (r, slot) (walk_has key slots slot r row)) ∙ free))

      by_live : (b : Bool) → is_live slot (walk key slots) ≡ b → row_under slots slot ≡ cond (is_live slot (walk key slots)) (Some (row_of slot (walk key slots))) None
      by_live true live = live_there slot live ∙ sym (ap (λ (b : Bool). cond b (Some (row_of slot (walk key slots))) None) live)
      by_live false free = none_there free (row_under slots slot) refl ∙ sym (ap (λ (b : Bool). cond b (Some (row_of slot (walk key slots))) None) free)

  module _ (keyed : IsKeyed key slots) where
    pub own_there : HaveOwnSlots (walk key slots)
    own_there = own_slots key slots (walk key slots) (walk_ascends key slots keyed) (walk_rows key slots)

    pub row_there : (slot : ℕ) (row : List Value) → row_under slots slot ≡ Some row → row ≡ row_of slot (walk key slots)
    row_there slot row live = sym (row_of_member (walk key slots) (row, slot) own_there (walk_has key slots slot row live))

    -- a row in a vacant slot
    pub entries_put : (slot : ℕ) (row : List Value) → store.IsFree slots slot → IsNew key row (walk key slots) → walk key (set slots slot (Some row)) ≡ with_item (entry_cmp key) (row, slot) (without slot (walk key slots))
    entries_put slot row vacant new =
        walk_put_vacant key slots slot row vacant keyed (new_to_kept row new)
        ∙ ap (with_item (entry_cmp key) (row, slot)) (sym (without_free slot (walk key slots) (vacant_there 0 slot vacant).free))

    -- a slot that loses its row
    pub entries_without : (slot : ℕ) (old : List Value) → row_under slots slot ≡ Some old → walk key (set slots slot None) ≡ without slot (walk key slots)
    entries_without slot old live =
        let gone = set slots slot None in
        let within = live_within slots slot old live in
        let keyed_gone = keyed_take key slots slot old live keyed in
        let back = walk_put key slots slot within old (subst (IsKeyed key) (sym (live_itself slots slot old live)) keyed) in
        let whole : walk key slots ≡ with_item (entry_cmp key) (old, slot) (walk key gone) = ap (walk key) (sym (live_itself slots slot old live)) ∙ back in
        let parted = parted_below (entry_cmp key) (entry_cmp_total key) (old, slot) (walk key gone) (walk_ascends key gone keyed_gone) in
        sym (ap (without slot) whole ∙ without_put (entry_cmp key) slot old (walk key gone) parted ∙ without_free slot (walk key gone) (free_gone within))
      where
        free_gone : slot < length slots → is_live slot (walk key (set slots slot None)) ≡ false
        free_gone within = none_any (is_in slot) _ (all_weaker (IsRowOf (set slots slot None)) (λ (e : Entry). is_in slot e ≡ false) (λ e row. ne_eqb e.1 slot (λ same. some_is_none e.0 (sym row ∙ ap (row_under (set slots slot None)) same ∙ get_or-set_same slots slot None None within))) _ (walk_rows key (set slots slot None)))

    -- another row in a slot
    pub entries_replaced : (slot : ℕ) (old row : List Value) → row_under slots slot ≡ Some old → IsNew key row (without slot (walk key slots)) → walk key (set slots slot (Some row)) ≡ with_item (entry_cmp key) (row, slot) (without slot (walk key slots))
    entries_replaced slot old row live new =
        let gone = set slots slot None in
        let within = live_within slots slot old live in
        let rest = entries_without slot old live in
        let new_gone : IsNew key row (kept gone) = all_same (λ (e : Entry). is_like key row e ≡ false) (walk key gone) (kept gone) (same_members_back (kept gone) (walk key gone) (walk_members key gone)) (subst (IsNew key row) (sym rest) new) in
        walk_put key slots slot within row (keyed_put key slots slot within row (keyed_take key slots slot old live keyed) new_gone)
        ∙ ap (with_item (entry_cmp key) (row, slot)) rest

    pub new_to_gone : (slot : ℕ) (old row : List Value) → row_under slots slot ≡ Some old → IsNew key row (without slot (walk key slots)) → IsNew key row (kept (set slots slot None))
    new_to_gone slot old row live new =
        let gone = set slots slot None in
        all_same (λ (e : Entry). is_like key row e ≡ false) (walk key gone) (kept gone) (same_members_back (kept gone) (walk key gone) (walk_members key gone)) (subst (IsNew key row) (sym (entries_without slot old live)) new)

    -- the rows in the order of an index, from those in the order of the key
    pub walk_there : (own : List ℕ) → walk (own ++ key) slots ≡ in_order (entry_cmp (own ++ key)) (walk key slots)
    walk_there own =
        in_order_alike (entry_cmp (own ++ key)) (entry_cmp_total (own ++ key)) (kept slots) (walk key slots) (apart_at_more own key (kept slots) keyed)
        (apart_at_more own key (walk key slots) (apart_from_ascending (entry_cmp key) (walk key slots) (walk_ascends key slots keyed))) (walk_members key slots)

  -- more vacant slots
  pub room_more : (n : ℕ) → length (slots ++ replicate n None) ≡ length slots + n
  room_more n = omega (arith, length-append slots (replicate n None), length-replicate {A = Option (List Value)} n None)
