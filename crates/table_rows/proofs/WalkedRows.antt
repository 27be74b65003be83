-- The slots of a walk from a cut on, or up to it, and the entries in them.
--     up_slots, down_slots      the slots are those of the entries behind the cut, or before it
--     up_entries, down_entries      with their rows they are these entries
--     live_slots      each has a row
use Rattle.std.proofs.Common.{◌≡◌, ℕ, Bool, true, false, not, List, [], ◌∷◌, filter, reverse, Option, is_some, sym, refl, ap, subst, ◌∙◌}
use Rattle.std.specs.List.{AllByRecursion}
use Rattle.std.specs.Ordering.{is_gt}
use Rattle.row_types.specs.declared.values.Value.{Value}
use Rattle.row_types.specs.Order.{prefix_cmp}
use Rattle.index_tree.proofs.Elements.{all_kept, filter_agree}
use Rattle.table_rows.specs.Entries.{Slots, Entry, IsTaken, cells, walk}
use Rattle.table_rows.specs.StoreWalks.{is_from, is_to}
use Rattle.table_rows.specs.Walked.{low_edge, high_edge, upward, downward, row_or_empty, entry_under, entries_under}
use Rattle.table_rows.specs.declared.mark.Mark.{Mark}
use Rattle.table_rows.specs.Cuts.{is_before, line_at}
use Rattle.table_rows.specs.StoreInside.{is_ahead_of, is_past, slots_in}
use Rattle.table_rows.specs.Marks.{marks_in, slots_of}
use Rattle.table_rows.proofs.KeptRows.{IsRowOf}
use Rattle.table_rows.proofs.MarkLists.{kept_marks, opposites_agree, slots_marked, marks_reversed}
use Rattle.table_rows.proofs.OrderSteps.{cut_agrees}
use Rattle.table_rows.proofs.SlotLists.{all_reversed}
use Rattle.table_rows.proofs.WalkChanges.{walk_rows}

-- entries are read again under their slots
read_back : (slots : Slots) (xs : List Entry) → AllByRecursion (IsRowOf slots) xs → entries_under slots (slots_in xs) ≡ xs
read_back slots [] rows = refl
read_back slots (x ∷ xs) rows =
    let first : entry_under slots x.1 ≡ x = ap (λ (o : Option (List Value)). (row_or_empty o, x.1)) rows.0 in
    rw (first, read_back slots xs rows.1) refl

live_of : (slots : Slots) (xs : List Entry) → AllByRecursion (IsRowOf slots) xs → AllByRecursion (IsTaken slots) (slots_in xs)
live_of slots [] rows = tt
live_of slots (x ∷ xs) rows = (ap is_some rows.0, live_of slots xs rows.1)

-- slots that are those of entries with their rows have rows
pub live_slots : (slots : Slots) (under : List ℕ) (xs : List Entry) → under ≡ slots_in xs → AllByRecursion (IsRowOf slots) xs → AllByRecursion (IsTaken slots) under
live_slots slots under xs same rows = subst (AllByRecursion (IsTaken slots)) (sym same) (live_of slots xs rows)

twice_not : (b : Bool) → not (not b) ≡ b
twice_not true = refl
twice_not false = refl

all_of : {X : Type 0} (P : X → Type 0) → ((x : X) → P x) → (xs : List X) → AllByRecursion P xs
all_of P holds [] = tt
all_of P holds (x ∷ xs) = (holds x, all_of P holds xs)

module _ (columns : List ℕ) (key : List Value) where
  -- what stands behind the cut is from the low edge on
  past_is : (through : Bool) (xs : List Entry) → filter (is_past columns key through) xs ≡ filter (is_from columns (low_edge through key)) xs
  past_is false xs = refl
  past_is true xs =
      filter_agree (is_past columns key true) (is_from columns (low_edge true key)) xs
      (all_of (λ (e : Entry). is_past columns key true e ≡ is_from columns (low_edge true key) e) (λ e. twice_not (is_gt (prefix_cmp (cells columns e.0) key))) xs)

  -- what stands before it is up to the high edge
  ahead_is : (through : Bool) (xs : List Entry) → filter (is_ahead_of columns key through) xs ≡ filter (is_to columns (high_edge through key)) xs
  ahead_is false xs = refl
  ahead_is true xs = refl

module _ (columns : List ℕ) (slots : Slots) (key : List Value) (through : Bool) where
  -- the entries behind the cut, and before it
  abbrev pub behind_cut : List Entry
  behind_cut = filter (is_past columns key through) (walk columns slots)

  abbrev pub before_cut : List Entry
  before_cut = reverse (filter (is_ahead_of columns key through) (walk columns slots))

  pub behind_rows : AllByRecursion (IsRowOf slots) behind_cut
  behind_rows = all_kept (IsRowOf slots) (is_past columns key through) (walk columns slots) (walk_rows columns slots)

  pub before_rows : AllByRecursion (IsRowOf slots) before_cut
  before_rows = all_reversed (IsRowOf slots) (filter (is_ahead_of columns key through) (walk columns slots)) (all_kept (IsRowOf slots) (is_ahead_of columns key through) (walk columns slots) (walk_rows columns slots))

  pub up_slots : (items up : List Mark) → items ≡ marks_in columns (walk columns slots) → up ≡ filter (λ (m : Mark). not (is_before (line_at slots columns key through) m)) items → slots_of up ≡ slots_in behind_cut
  up_slots items up walked is =
      let agree = cut_agrees columns slots key through (walk columns slots) (walk_rows columns slots) in
      let told = is_before (line_at slots columns key through) in
      ap slots_of (is
      ∙ ap (filter (λ (m : Mark). not (told m))) walked
      ∙ kept_marks columns (is_past columns key through) (λ (m : Mark). not (told m)) (walk columns slots) (opposites_agree columns (is_ahead_of columns key through) told (walk columns slots) agree))
      ∙ slots_marked columns behind_cut

  pub down_slots : (items down : List Mark) → items ≡ marks_in columns (walk columns slots) → down ≡ reverse (filter (is_before (line_at slots columns key through)) items) → slots_of down ≡ slots_in before_cut
  down_slots items down walked is =
      let agree = cut_agrees columns slots key through (walk columns slots) (walk_rows columns slots) in
      let told = is_before (line_at slots columns key through) in
      ap slots_of (is
      ∙ ap (λ (ms : List Mark). reverse (filter told ms)) walked
      ∙ ap (λ (ms : List Mark). reverse ms) (kept_marks columns (is_ahead_of columns key through) told (walk columns slots) agree)
      ∙ sym (marks_reversed columns (filter (is_ahead_of columns key through) (walk columns slots))))
      ∙ slots_marked columns before_cut

  pub up_entries : (up : List ℕ) → up ≡ slots_in behind_cut → entries_under slots up ≡ upward columns key through (walk columns slots)
  up_entries up same =
      ap (entries_under slots) same ∙ read_back slots behind_cut behind_rows ∙ past_is columns key through (walk columns slots)

  pub down_entries : (down : List ℕ) → down ≡ slots_in before_cut → entries_under slots down ≡ downward columns key through (walk columns slots)
  down_entries down same =
      ap (entries_under slots) same ∙ read_back slots before_cut before_rows ∙ ap (λ (xs : List Entry). reverse xs) (ahead_is columns key through (walk columns slots))
