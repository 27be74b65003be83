-- What holds of all rows of a table holds of those that a find selects.
use Rattle.std.proofs.Common.{◌≡◌, ℕ, true, List, [], ◌∷◌, take, drop, sym, subst}
use Rattle.std.specs.List.{All, AllByRecursion}
use Rattle.std.proofs.lemmas.List.{take-append-drop}
use Rattle.std.proofs.lemmas.List.Elements.{All-from_recursion}
use Rattle.row_types.specs.declared.values.Value.{Value}
use Rattle.index_tree.proofs.Elements.{all_kept, all_append, all_front, all_back, all_mapped, each_member}
use Rattle.index_tree.proofs.InOrder.{all_in_order}
use Rattle.table_rows.specs.Entries.{Entry, entry_cmp}
use Rattle.table_rows.proofs.SlotLists.{all_reversed}
use Rattle.request_types.specs.declared.filters.FilterSpec.{FilterSpec}
use Rattle.find_filter.specs.declared.filters.Step.{Step}
use Rattle.find_filter.specs.declared.filters.Step.TheVariants.{Keep, Skip, Stop}
use Rattle.find_filter.specs.Filter.{step_of}
use Rattle.request_types.specs.declared.finds.FindOp.{FindOp}
use Rattle.request_types.specs.declared.finds.FindOp.TheVariants.{Equal, Greater, GreaterEqual, Less, LessEqual}
use Rattle.request_types.specs.declared.finds.FindSpec.{FindSpec}
use Rattle.table_rows.specs.declared.slot_ref.SlotRef.{SlotRef}
use Rattle.table_rows.specs.Rows.{State, entries_of}
use Rattle.table_rows.specs.Slots.{is_live_in}
use Rattle.table_rows.specs.Walks.{walk_of}
use Rattle.table_rows.proofs.BySlot.{live_member}
use Rattle.find_scan.specs.Select.{directed, columns_for, matching, found, keys_of, by_step, kept, selected, slots_of}

module _ (P : Entry → Type 0) where
  all_directed : (op : FindOp) (xs : List Entry) → AllByRecursion P xs → AllByRecursion P (directed op xs)
  all_directed Equal xs all = all
  all_directed Greater xs all = all
  all_directed GreaterEqual xs all = all
  all_directed Less xs all = all_reversed P xs all
  all_directed LessEqual xs all = all_reversed P xs all

  all_by_step : (step : Step) (x : Entry) (later : List Entry) → P x → AllByRecursion P later → AllByRecursion P (by_step step x later)
  all_by_step Keep x later here all = (here, all)
  all_by_step Skip x later here all = all
  all_by_step Stop x later here all = tt

  pub all_that_pass : (filters : List FilterSpec) (xs : List Entry) → AllByRecursion P xs → AllByRecursion P (kept filters xs)
  all_that_pass filters [] all = tt
  all_that_pass filters (x ∷ xs) all = all_by_step (step_of x.0 filters) x (kept filters xs) all.0 (all_that_pass filters xs all.1)

  all_taken : (n : ℕ) (xs : List Entry) → AllByRecursion P xs → AllByRecursion P (take n xs)
  all_taken n xs all = all_front P (take n xs) (drop n xs) (subst (AllByRecursion P) (sym (take-append-drop n xs)) all)

  all_dropped : (n : ℕ) (xs : List Entry) → AllByRecursion P xs → AllByRecursion P (drop n xs)
  all_dropped n xs all = all_back P (take n xs) (drop n xs) (subst (AllByRecursion P) (sym (take-append-drop n xs)) all)

  module _ (state : State) (spec : FindSpec) (walked : AllByRecursion P (walk_of state spec.table spec.index)) where
    all_found : (keys : List (List Value)) → AllByRecursion P (found state spec keys)
    all_found [] = tt
    all_found (key ∷ keys) =
        all_append P (matching state spec key) (found state spec keys) (all_directed spec.op _ (all_kept P _ _ walked)) (all_found keys)

    pub all_selected : AllByRecursion P (selected state spec)
    all_selected = all_taken spec.limit _ (all_dropped spec.offset _ (all_that_pass spec.filters _ (all_found (keys_of spec.key spec.within))))

-- so each of them has its slot
pub selected_live : (state : State) (spec : FindSpec) → All (λ (slot : SlotRef). is_live_in state spec.table slot.0 ≡ true) (slots_of (selected state spec))
selected_live state spec =
    let entries = entries_of state spec.table in
    let live = λ (e : Entry). is_live_in state spec.table e.1 ≡ true in
    let in_table : AllByRecursion live entries = each_member live entries (live_member entries) in
    All-from_recursion (λ (slot : SlotRef). is_live_in state spec.table slot.0 ≡ true) (slots_of (selected state spec))
    (all_mapped (λ (slot : SlotRef). is_live_in state spec.table slot.0 ≡ true) (λ (e : Entry). record { 0 = e.1 }) (selected state spec)
    (all_selected live state spec (all_in_order (entry_cmp (columns_for state spec)) live entries in_table)))
