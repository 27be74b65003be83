-- The first entry of a walk with a row's cells at an index's own columns.
use Rattle.std.proofs.Common.{◌≡◌, ℕ, Bool, true, false, not, cond, List, [], ◌∷◌, ◌++◌, find, Option, Some, None, sym, refl, ap, ◌∙◌}
use Rattle.std.specs.declared.cmp.Ordering.{Ordering}
use Rattle.std.specs.declared.cmp.Ordering.TheVariants.{Less, Equal, Greater}
use Rattle.std.specs.Ordering.{is_lt, is_eq}
use Rattle.std.specs.List.{AllByRecursion}
use Rattle.std.proofs.lemmas.Bool.{true≢false}
use Rattle.row_types.specs.declared.values.Value.{Value}
use Rattle.row_types.specs.Order.{key_cmp}
use Rattle.index_tree.specs.Ordered.{IsAscending, IsClosedDown}
use Rattle.index_tree.specs.Parts.{IsParted}
use Rattle.index_tree.proofs.Ascending.{ascending_parted}
use Rattle.index_tree.proofs.Elements.{all_weaker}
use Rattle.table_rows.specs.Entries.{Slots, Entry, row_under, cells, entry_cmp, walk}
use Rattle.table_rows.specs.StoreWalks.{is_like, first_like, slot_in, IsKeyed}
use Rattle.table_rows.specs.declared.mark.Mark.{Mark}
use Rattle.table_rows.specs.Cuts.{is_before, line_at}
use Rattle.table_rows.specs.StoreInside.{stands, is_ahead_of, is_past, is_same}
use Rattle.table_rows.specs.Marks.{marks_in, slot_marked}
use Rattle.table_rows.proofs.CellOrder.{cut_closed, prefix_of_all, prefix_of_whole}
use Rattle.table_rows.proofs.KeptRows.{IsRowOf}
use Rattle.table_rows.proofs.MarkLists.{Agree, ahead_agrees, opposites_agree, found_mark, parted_marks}
use Rattle.table_rows.proofs.WalkChanges.{walk_ascends, walk_rows}

module _ (own key : List ℕ) (row : List Value) where
  -- a cut at the own columns is one at the front of the whole columns
  same_cut : (through : Bool) (e : Entry) → is_ahead_of (own ++ key) (cells own row) through e ≡ is_ahead_of own (cells own row) through e
  same_cut through e = ap (stands through) (prefix_of_whole own key e.0 row ∙ sym (prefix_of_all own e.0 row))

  own_closed : (through : Bool) → IsClosedDown (entry_cmp (own ++ key)) (is_ahead_of own (cells own row) through)
  own_closed through x y less before =
      sym (same_cut through x) ∙ cut_closed (own ++ key) (cells own row) through x y less (same_cut through y ∙ before)

  -- so the digests of the whole columns' cells serve it too
  own_agrees : (slots : Slots) → Agree (own ++ key) (is_ahead_of own (cells own row) false) (is_before (line_at slots own (cells own row) false)) (walk (own ++ key) slots)
  own_agrees slots = ahead_agrees slots (own ++ key) own (cells own row) false (same_cut false) (walk (own ++ key) slots) (walk_rows (own ++ key) slots)

  pub own_parted : (slots : Slots) → IsKeyed (own ++ key) slots → IsParted (is_before (line_at slots own (cells own row) false)) (marks_in (own ++ key) (walk (own ++ key) slots))
  own_parted slots keyed =
      parted_marks (own ++ key) (is_ahead_of own (cells own row) false) (is_before (line_at slots own (cells own row) false)) (walk (own ++ key) slots) (own_agrees slots)
      (ascending_parted (entry_cmp (own ++ key)) (is_ahead_of own (cells own row) false) (own_closed false) (walk (own ++ key) slots) (walk_ascends (own ++ key) slots keyed))

  -- an entry that was found first, if it has the row's cells
  abbrev pub if_like : Option Entry → Option Entry
  if_like None = None
  if_like (Some e) = cond (is_like own row e) (Some e) None

  abbrev order_of : Entry → Ordering
  order_of e = key_cmp (cells own e.0) (cells own row)

  find_none : (xs : List Entry) → AllByRecursion (λ (e : Entry). is_like own row e ≡ false) xs → find (is_like own row) xs ≡ None
  find_none [] none = refl
  find_none (x ∷ xs) none = rw none.0 (find_none xs none.1)

  -- behind a greater one none has the row's cells
  none_behind : (x : Entry) → order_of x ≡ Greater → (xs : List Entry) → AllByRecursion (λ (e : Entry). entry_cmp (own ++ key) x e ≡ Less) xs → AllByRecursion (λ (e : Entry). is_like own row e ≡ false) xs
  none_behind x greater = all_weaker (λ (e : Entry). entry_cmp (own ++ key) x e ≡ Less) (λ (e : Entry). is_like own row e ≡ false) (λ e less. by_order e less (order_of e) refl)
    where
      through_x : is_ahead_of own (cells own row) true x ≡ false
      through_x = ap (stands true) (prefix_of_all own x.0 row ∙ greater)

      by_order : (e : Entry) → entry_cmp (own ++ key) x e ≡ Less → (o : Ordering) → order_of e ≡ o → is_eq o ≡ false
      by_order e less Less is = refl
      by_order e less Equal is = absurd (true≢false (sym (own_closed true x e less (ap (stands true) (prefix_of_all own e.0 row ∙ is))) ∙ through_x))
      by_order e less Greater is = refl

  like_found : (xs : List Entry) → IsAscending (entry_cmp (own ++ key)) xs → find (is_like own row) xs ≡ if_like (find (is_past own (cells own row) false) xs)
  like_found [] ascending = refl
  like_found (x ∷ xs) ascending = same_test (by_order (like_found xs ascending.1) (order_of x) refl)
    where
      same_test : cond (is_eq (order_of x)) (Some x) (find (is_like own row) xs) ≡ if_like (cond (not (is_lt (order_of x))) (Some x) (find (is_past own (cells own row) false) xs)) → find (is_like own row) (x ∷ xs) ≡ if_like (find (is_past own (cells own row) false) (x ∷ xs))
      same_test same = same ∙ ap (λ (o : Ordering). if_like (cond (not (is_lt o)) (Some x) (find (is_past own (cells own row) false) xs))) (sym (prefix_of_all own x.0 row))

      by_order : find (is_like own row) xs ≡ if_like (find (is_past own (cells own row) false) xs) → (o : Ordering) → order_of x ≡ o → cond (is_eq o) (Some x) (find (is_like own row) xs) ≡ if_like (cond (not (is_lt o)) (Some x) (find (is_past own (cells own row) false) xs))
      by_order rest Less is = rest
      by_order rest Equal is = rw is refl
      by_order rest Greater is = rw is (find_none xs (none_behind x is xs ascending.0))

  -- a slot that was found first, if its row has the row's cells
  abbrev pub if_same : Slots → Option ℕ → Option ℕ
  if_same slots None = None
  if_same slots (Some slot) = cond (is_same own row (row_under slots slot)) (Some slot) None

  if_like_same : (slots : Slots) (xs : List Entry) (test : Entry → Bool) → AllByRecursion (IsRowOf slots) xs → slot_in (if_like (find test xs)) ≡ if_same slots (slot_in (find test xs))
  if_like_same slots [] test rows = refl
  if_like_same slots (x ∷ xs) test rows = by_test (if_like_same slots xs test rows.1) (test x)
    where
      here : slot_in (if_like (Some x)) ≡ if_same slots (slot_in (Some x))
      here = rw rows.0 (by_like (is_like own row x))
        where
          by_like : (b : Bool) → slot_in (cond b (Some x) None) ≡ cond b (Some x.1) None
          by_like true = refl
          by_like false = refl

      by_test : slot_in (if_like (find test xs)) ≡ if_same slots (slot_in (find test xs)) → (b : Bool) → slot_in (if_like (cond b (Some x) (find test xs))) ≡ if_same slots (slot_in (cond b (Some x) (find test xs)))
      by_test rest true = here
      by_test rest false = rest

  -- so the first mark that is not before the row's cells tells all
  pub like_slot : (slots : Slots) (found : Option ℕ) → IsKeyed (own ++ key) slots → found ≡ slot_marked (find (λ (m : Mark). not (is_before (line_at slots own (cells own row) false) m)) (marks_in (own ++ key) (walk (own ++ key) slots))) → slot_in (first_like own row (walk (own ++ key) slots)) ≡ if_same slots found
  like_slot slots found keyed is =
      let rows = walk_rows (own ++ key) slots in
      let told = is_before (line_at slots own (cells own row) false) in
      let past = found_mark (own ++ key) (is_past own (cells own row) false) (λ (m : Mark). not (told m)) (walk (own ++ key) slots)
      (opposites_agree (own ++ key) (is_ahead_of own (cells own row) false) told (walk (own ++ key) slots) (own_agrees slots)) in
      ap slot_in (like_found (walk (own ++ key) slots) (walk_ascends (own ++ key) slots keyed)) ∙ if_like_same slots (walk (own ++ key) slots) (is_past own (cells own row) false) rows ∙ ap (if_same slots) (sym (is ∙ past))
