-- What a tree of marks makes of a walk: where it is cut, and what is let in and goes.
use Rattle.std.proofs.Common.{◌≡◌, ◌⊎◌, ℕ, zero, suc, ◌+◌, ◌<◌, ◌≤◌, Bool, true, false, not, List, [], ◌∷◌, ◌++◌, length, set, filter, remove, Option, Some, None, slice_get, option_and_then, is_some, IsSome, IsSomeAnd, sym, refl, ap, subst, ◌∙◌, inl, inr, arith}
use Rattle.std.specs.declared.cmp.Ordering.TheVariants.{Equal}
use Rattle.std.specs.Ordering.{is_lt, is_eq}
use Rattle.std.specs.List.{AllByRecursion}
use Rattle.std.proofs.lemmas.Bool.{true≢false, cases_lt, cond-true, cond-false, lt-ltb, le-ltb}
use Rattle.std.proofs.lemmas.Cmp.{alike_right, tied_itself}
use Rattle.std.proofs.lemmas.List.{length-map, map-append}
use Rattle.std.proofs.lemmas.Option.{same_Some, slice_get_past}
use Rattle.row_types.specs.declared.values.Value.{Value}
use Rattle.row_types.specs.Order.{key_cmp}
use Rattle.index_tree.specs.Contents.{IsAt, Finds, one_after, one_before}
use Rattle.index_tree.specs.Contents.{Contents as Items}
use Rattle.index_tree.specs.Ordered.{AreApart, is_below, with_item, in_order}
use Rattle.index_tree.specs.Parts.{IsParted, put_between, first_place}
use Rattle.index_tree.proofs.Ascending.{equal_is}
use Rattle.index_tree.proofs.Elements.{all_weaker, some_is_none, all_at, place_of_member, each_member, filter_agree}
use Rattle.index_tree.proofs.Found.{first_at_key}
use Rattle.index_tree.proofs.InOrder.{length-in_order}
use Rattle.index_tree.proofs.Removed.{in_order_removed}
use Rattle.index_tree.proofs.Through.{map_removed}
use Rattle.table_rows.specs.Entries.{Slots, Entry, kept, vacancies, row_under, IsTaken, cells, entry_cmp, walk}
use Rattle.table_rows.specs.StoreWalks.{IsKeyed, behind, in_front, slot_in}
use Rattle.table_rows.specs.declared.mark.Mark.{Mark}
use Rattle.table_rows.specs.Cuts.{is_before, line_at}
use Rattle.table_rows.specs.StoreInside.{is_ahead_of}
use Rattle.table_rows.specs.Marks.{mark_of, entry_mark, marks_in, slot_marked}
use Rattle.table_rows.proofs.CellOrder.{entry_cmp_total, cut_parts, prefix_of_all}
use Rattle.table_rows.proofs.KeptRows.{IsRowOf, before, after, kept_live, kept_take, live_within, live_itself, count_kept}
use Rattle.table_rows.proofs.Neighbours.{HaveOwnSlots, own_slots, behind_at, in_front_at}
use Rattle.table_rows.proofs.DigestOrder.{same_digest}
use Rattle.table_rows.proofs.MarkLists.{Agree, ahead_agrees, opposites_agree, parted_marks, put_marks, first_place_agrees, marked_at}
use Rattle.table_rows.proofs.WalkChanges.{walk_ascends, walk_rows, walk_has, walk_put}

row_elsewhere : (slots : Slots) (slot n : ℕ) (row : List Value) → row_under (set slots slot None) n ≡ Some row → row_under slots n ≡ Some row
row_elsewhere [] slot n row there = there
row_elsewhere (holds ∷ slots) zero zero row there = absurd (some_is_none row (sym there))
row_elsewhere (holds ∷ slots) zero (suc n) row there = there
row_elsewhere (holds ∷ slots) (suc slot) zero row there = there
row_elsewhere (holds ∷ slots) (suc slot) (suc n) row there = row_elsewhere slots slot n row there

vacant_one : (slots : Slots) (slot : ℕ) → slot < length slots → 1 ≤ vacancies (set slots slot None)
vacant_one [] slot within = absurd (omega (arith, within))
vacant_one (holds ∷ slots) zero within = omega arith
vacant_one (None ∷ slots) (suc slot) within = omega arith
vacant_one (Some row ∷ slots) (suc slot) within = vacant_one slots slot (omega (arith, within))

-- the row in a live slot
pub live_row : (slots : Slots) (slot : ℕ) → IsTaken slots slot → (row : List Value) × (row_under slots slot ≡ Some row)
live_row slots slot live = by_row (row_under slots slot) refl live
  where
    by_row : (o : Option (List Value)) → row_under slots slot ≡ o → IsSome o → (row : List Value) × (row_under slots slot ≡ Some row)
    by_row None is some = absurd (true≢false (sym some))
    by_row (Some row) is some = (row, is)

pub live_slot : (slots : Slots) (slot : ℕ) (row : List Value) → row_under slots slot ≡ Some row → IsTaken slots slot
live_slot slots slot row live = ap is_some live

module _ (columns : List ℕ) where
  -- a cut tells of each mark what the cells of its row tell
  pub cut_agrees : (slots : Slots) (values : List Value) (through : Bool) (xs : List Entry) → AllByRecursion (IsRowOf slots) xs → Agree columns (is_ahead_of columns values through) (is_before (line_at slots columns values through)) xs
  cut_agrees slots values through = ahead_agrees slots columns columns values through (λ e. refl)

  -- a cut at a row's own cells is the cut below the row
  pub below_agrees : (slots : Slots) (row : List Value) (slot : ℕ) (xs : List Entry) → AllByRecursion (IsRowOf slots) xs → Agree columns (is_below (entry_cmp columns) (row, slot)) (is_before (line_at slots columns (cells columns row) false)) xs
  below_agrees slots row slot xs rows =
      let cut = is_before (line_at slots columns (cells columns row) false) in
      all_weaker (λ (e : Entry). cut (entry_mark columns e) ≡ is_ahead_of columns (cells columns row) false e) (λ (e : Entry). cut (entry_mark columns e) ≡ is_below (entry_cmp columns) (row, slot) e)
      (λ e same. same ∙ ap is_lt (prefix_of_all columns e.0 row)) xs (cut_agrees slots (cells columns row) false xs rows)

  -- a cut parts the marks
  pub marks_parted : (slots : Slots) (values : List Value) (through : Bool) → IsKeyed columns slots → IsParted (is_before (line_at slots columns values through)) (marks_in columns (walk columns slots))
  marks_parted slots values through keyed =
      parted_marks columns (is_ahead_of columns values through) (is_before (line_at slots columns values through)) (walk columns slots) (cut_agrees slots values through (walk columns slots) (walk_rows columns slots)) (cut_parts columns values through (walk columns slots) (walk_ascends columns slots keyed))

  pub count_marks : (slots : Slots) → length (marks_in columns (walk columns slots)) + vacancies slots ≡ length slots
  count_marks slots = omega (arith, length-map (walk columns slots) (entry_mark columns), length-in_order (entry_cmp columns) (kept slots), count_kept slots)

  -- the marks of all others, while the slot itself holds whatever it does
  others_rows : (slots : Slots) (slot : ℕ) → AllByRecursion (IsRowOf slots) (walk columns (set slots slot None))
  others_rows slots slot = all_weaker (IsRowOf (set slots slot None)) (IsRowOf slots) (λ e row. row_elsewhere slots slot e.1 e.0 row) (walk columns (set slots slot None)) (walk_rows columns (set slots slot None))

  pub others_parted : (slots : Slots) (slot : ℕ) (row : List Value) → IsKeyed columns (set slots slot None) → IsParted (is_before (line_at slots columns (cells columns row) false)) (marks_in columns (walk columns (set slots slot None)))
  others_parted slots slot row keyed =
      parted_marks columns (is_ahead_of columns (cells columns row) false) (is_before (line_at slots columns (cells columns row) false)) (walk columns (set slots slot None)) (cut_agrees slots (cells columns row) false (walk columns (set slots slot None)) (others_rows slots slot))
      (cut_parts columns (cells columns row) false (walk columns (set slots slot None)) (walk_ascends columns (set slots slot None) keyed))

  pub others_room : (slots : Slots) (slot spare : ℕ) (items : List Mark) → slot < length slots → items ≡ marks_in columns (walk columns (set slots slot None)) → length (set slots slot None) ≤ length items + spare → 0 < spare
  others_room slots slot spare items within walked room = omega (arith, count_marks (set slots slot None), ap length walked, vacant_one slots slot within, room)

  -- a tree has no more items than there are slots
  pub items_within : (slots : Slots) (items : List Mark) → items ≡ marks_in columns (walk columns slots) → length items ≤ length slots
  items_within slots items walked = omega (arith, count_marks slots, ap length walked)

  -- a row let in
  pub marks_put : (slots : Slots) (slot : ℕ) (row : List Value) → slot < length slots → IsKeyed columns (set slots slot (Some row)) → put_between (is_before (line_at slots columns (cells columns row) false)) (entry_mark columns (row, slot)) (marks_in columns (walk columns (set slots slot None))) ≡ marks_in columns (walk columns (set slots slot (Some row)))
  marks_put slots slot row within keyed =
      put_marks columns (is_below (entry_cmp columns) (row, slot)) (is_before (line_at slots columns (cells columns row) false)) (row, slot) (walk columns (set slots slot None)) (below_agrees slots row slot (walk columns (set slots slot None)) (others_rows slots slot))
      ∙ ap (marks_in columns) (sym (walk_put columns slots slot within row keyed))

  module _ (slots : Slots) (slot : ℕ) (row : List Value) (live : row_under slots slot ≡ Some row) (keyed : IsKeyed columns slots) where
    -- where the mark is
    pub place_in_walk : (k : ℕ) × (slice_get (walk columns slots) k ≡ Some (row, slot))
    place_in_walk = place_of_member (walk columns slots) (row, slot) (walk_has columns slots slot row live)

    pub mark_in_walk : slot_marked (slice_get (marks_in columns (walk columns slots)) place_in_walk.0) ≡ Some slot
    mark_in_walk = marked_at columns (walk columns slots) place_in_walk.0 ∙ ap slot_in place_in_walk.1

    pub place_found : first_place (λ (m : Mark). not (is_before (line_at slots columns (cells columns row) false) m)) (marks_in columns (walk columns slots)) ≡ Some place_in_walk.0
    place_found =
        first_place_agrees columns (λ (e : Entry). not (is_below (entry_cmp columns) (row, slot) e)) (λ (m : Mark). not (is_before (line_at slots columns (cells columns row) false) m)) (walk columns slots)
        (opposites_agree columns (is_below (entry_cmp columns) (row, slot)) (is_before (line_at slots columns (cells columns row) false)) (walk columns slots) (below_agrees slots row slot (walk columns slots) (walk_rows columns slots)))
        ∙ first_at_key (entry_cmp columns) (entry_cmp_total columns) (row, slot) (walk columns slots) (walk_ascends columns slots keyed) place_in_walk.0 (row, slot) place_in_walk.1 (ap is_eq (tied_itself (entry_cmp_total columns) (row, slot)))

    -- the entry at the place of a slot
    pub entry_at : (k : ℕ) → slot_marked (slice_get (marks_in columns (walk columns slots)) k) ≡ Some slot → slice_get (walk columns slots) k ≡ Some (row, slot)
    entry_at k there = by_entry (slice_get (walk columns slots) k) refl (sym (marked_at columns (walk columns slots) k) ∙ there)
      where
        by_entry : (o : Option Entry) → slice_get (walk columns slots) k ≡ o → slot_in o ≡ Some slot → o ≡ Some (row, slot)
        by_entry None is e = absurd (some_is_none slot (sym e))
        by_entry (Some (r, s)) is e =
            let same : s ≡ slot = same_Some s slot e in
            let held : row_under slots s ≡ Some r = all_at (IsRowOf slots) (walk columns slots) k (r, s) (walk_rows columns slots) is in
            let same_row : r ≡ row = same_Some r row (sym held ∙ ap (row_under slots) same ∙ live) in
            rw (same, same_row) refl

    -- a row let go
    pub marks_taken : (k : ℕ) → slot_marked (slice_get (marks_in columns (walk columns slots)) k) ≡ Some slot → remove (marks_in columns (walk columns slots)) k ≡ marks_in columns (walk columns (set slots slot None))
    marks_taken k there =
        let around = kept_live slots slot row live in
        let here = subst (λ (es : List Entry). slice_get (in_order (entry_cmp columns) es) k ≡ Some (row, slot)) around (entry_at k there) in
        let apart = subst (λ (es : List Entry). AreApart (entry_cmp columns) es) around keyed in
        sym (map_removed (entry_mark columns) (walk columns slots) k)
        ∙ ap (λ (es : List Entry). marks_in columns (remove (in_order (entry_cmp columns) es) k)) around
        ∙ ap (marks_in columns) (in_order_removed (entry_cmp columns) (entry_cmp_total columns) (before slots slot) (row, slot) (after slots slot) apart k here)
        ∙ ap (λ (es : List Entry). marks_in columns (in_order (entry_cmp columns) es)) (sym (kept_take slots slot (live_within slots slot row live)))

    after_is : (items : List Mark) (k : ℕ) → option_and_then (slice_get items) (one_after (length items) k) ≡ slice_get items (suc k)
    after_is items k = by_side (cases_lt (k + 1) (length items))
      where
        by_side : (k + 1 < length items) ⊎ (length items ≤ k + 1) → option_and_then (slice_get items) (one_after (length items) k) ≡ slice_get items (suc k)
        by_side (inl more) = ap (option_and_then (slice_get items)) (cond-true _ (Some (k + 1)) None (lt-ltb _ _ more)) ∙ ap (slice_get items) {x = k + 1} {y = suc k} (omega arith)
        by_side (inr less) = ap (option_and_then (slice_get items)) (cond-false _ (Some (k + 1)) None (le-ltb _ _ less)) ∙ sym (slice_get_past items (suc k) (omega (arith, less)))

    own : HaveOwnSlots (walk columns slots)
    own = own_slots columns slots (walk columns slots) (walk_ascends columns slots keyed) (walk_rows columns slots)

    -- its neighbours
    pub mark_behind : (k : ℕ) → slot_marked (slice_get (marks_in columns (walk columns slots)) k) ≡ Some slot → slot_marked (option_and_then (slice_get (marks_in columns (walk columns slots))) (one_after (length (marks_in columns (walk columns slots))) k)) ≡ slot_in (behind slot (walk columns slots))
    mark_behind k there =
        ap slot_marked (after_is (marks_in columns (walk columns slots)) k) ∙ marked_at columns (walk columns slots) (suc k) ∙ ap slot_in (sym (behind_at (walk columns slots) k (row, slot) own (entry_at k there)))

    before_is : (xs : List Entry) (k : ℕ) → slot_marked (option_and_then (slice_get (marks_in columns xs)) (one_before k)) ≡ slot_in (option_and_then (slice_get xs) (one_before k))
    before_is xs zero = refl
    before_is xs (suc k) = marked_at columns xs k

    pub mark_in_front : (k : ℕ) → slot_marked (slice_get (marks_in columns (walk columns slots)) k) ≡ Some slot → slot_marked (option_and_then (slice_get (marks_in columns (walk columns slots))) (one_before k)) ≡ slot_in (in_front slot (walk columns slots))
    mark_in_front k there = before_is (walk columns slots) k ∙ ap slot_in (sym (in_front_at (walk columns slots) k (row, slot) own (entry_at k there)))

    -- a row with the same cells takes the same place, with the same mark
    pub marks_same : (other : List Value) → IsKeyed columns (set slots slot (Some other)) → is_eq (key_cmp (cells columns row) (cells columns other)) ≡ true → marks_in columns (walk columns slots) ≡ marks_in columns (walk columns (set slots slot (Some other)))
    marks_same other keyed_there ties =
        let within = live_within slots slot row live in
        let itself = live_itself slots slot row live in
        let there = walk_put columns slots slot within row (subst (IsKeyed columns) (sym itself) keyed) in
        ap (λ (ss : Slots). marks_in columns (walk columns ss)) (sym itself) ∙ ap (marks_in columns) there ∙ one_place (walk columns (set slots slot None)) ∙ ap (marks_in columns) (sym (walk_put columns slots slot within other keyed_there))
      where
        tie : entry_cmp columns (row, slot) (other, slot) ≡ Equal
        tie = equal_is (key_cmp (cells columns row) (cells columns other)) ties

        one_mark : entry_mark columns (row, slot) ≡ entry_mark columns (other, slot)
        one_mark = ap (λ (d : ℕ). mark_of d slot) (same_digest (cells columns row) (cells columns other) tie)

        one_place : (xs : List Entry) → marks_in columns (with_item (entry_cmp columns) (row, slot) xs) ≡ marks_in columns (with_item (entry_cmp columns) (other, slot) xs)
        one_place xs =
            let same : (e : Entry) → is_below (entry_cmp columns) (row, slot) e ≡ is_below (entry_cmp columns) (other, slot) e = λ e. ap is_lt (alike_right (entry_cmp_total columns) (row, slot) (other, slot) e tie) in
            let front = filter_agree (is_below (entry_cmp columns) (row, slot)) (is_below (entry_cmp columns) (other, slot)) xs (each_member (λ (e : Entry). is_below (entry_cmp columns) (row, slot) e ≡ is_below (entry_cmp columns) (other, slot) e) xs (λ e inside. same e)) in
            let back = filter_agree (λ (e : Entry). not (is_below (entry_cmp columns) (row, slot) e)) (λ (e : Entry). not (is_below (entry_cmp columns) (other, slot) e)) xs (each_member (λ (e : Entry). not (is_below (entry_cmp columns) (row, slot) e) ≡ not (is_below (entry_cmp columns) (other, slot) e)) xs (λ e inside. ap not (same e))) in
            let ahead = filter (is_below (entry_cmp columns) (other, slot)) xs in
            let rest = filter (λ (e : Entry). not (is_below (entry_cmp columns) (other, slot) e)) xs in
            rw (front, back)
            (map-append (entry_mark columns) ahead ((row, slot) ∷ rest)
            ∙ ap (λ (m : Mark). marks_in columns ahead ++ m ∷ marks_in columns rest) one_mark
            ∙ sym (map-append (entry_mark columns) ahead ((other, slot) ∷ rest)))

-- where the place is known the answer is it
pub found_place : (tree : Items Mark) (place : Option ℕ) (k : ℕ) (answer : Option ℕ) → Finds tree place answer → place ≡ Some k → IsSomeAnd answer (λ (at : ℕ). IsAt tree at k)
found_place tree place k answer finds is = subst (λ (o : Option ℕ). Finds tree o answer) is finds
