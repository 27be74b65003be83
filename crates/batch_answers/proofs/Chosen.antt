-- A find selects the same rows, in whatever slots they are.
--     selected_moved
use Rattle.std.proofs.Common.{◌≡◌, ℕ, List, [], ◌∷◌, ◌++◌, filter, reverse, take, drop, refl, ap, ap₂, sym, ◌∙◌}
use Rattle.std.proofs.lemmas.List.{map-append, reverse-append, take-map, drop-map}
use Rattle.index_tree.specs.Ordered.{in_order}
use Rattle.index_tree.proofs.InOrder.{in_order_mapped}
use Rattle.index_tree.proofs.Through.{map_kept}
use Rattle.row_types.specs.declared.values.Value.{Value}
use Rattle.row_types.specs.declared.tables.Schema.{Schema}
use Rattle.table_rows.specs.Entries.{Entry, entry_cmp}
use Rattle.request_types.specs.declared.finds.FindOp.{FindOp}
use Rattle.request_types.specs.declared.finds.FindOp.TheVariants.{Equal, Greater, GreaterEqual, Less, LessEqual}
use Rattle.request_types.specs.declared.finds.FindSpec.{FindSpec}
use Rattle.request_types.specs.declared.filters.FilterSpec.{FilterSpec}
use Rattle.find_filter.specs.declared.filters.Step.{Step}
use Rattle.find_filter.specs.declared.filters.Step.TheVariants.{Keep, Skip, Stop}
use Rattle.find_filter.specs.Filter.{step_of}
use Rattle.table_rows.specs.Rows.{Rows, State, entries_of}
use Rattle.table_rows.specs.Walks.{walk_of}
use Rattle.find_scan.specs.Select.{is_asked, directed, stands_to, columns_for, matching, found, keys_of, by_step, kept, selected}
use Rattle.batch_answers.proofs.Moved.{moved, all_moved}

module _ (f : ℕ → ℕ) where
  reverse_moved : (entries : List Entry) → reverse (all_moved f entries) ≡ all_moved f (reverse entries)
  reverse_moved [] = refl
  reverse_moved (e ∷ es) =
      reverse-append (moved f e ∷ []) (all_moved f es)
      ∙ ap (λ (xs : List Entry). xs ++ moved f e ∷ []) (reverse_moved es)
      ∙ sym (map-append (moved f) (reverse es) (e ∷ []))
      ∙ ap (all_moved f) (sym (reverse-append (e ∷ []) es))

  directed_moved : (op : FindOp) (entries : List Entry) → directed op (all_moved f entries) ≡ all_moved f (directed op entries)
  directed_moved Equal entries = refl
  directed_moved Greater entries = refl
  directed_moved GreaterEqual entries = refl
  directed_moved Less entries = reverse_moved entries
  directed_moved LessEqual entries = reverse_moved entries

  by_step_moved : (step : Step) (entry : Entry) (later : List Entry) → by_step step (moved f entry) (all_moved f later) ≡ all_moved f (by_step step entry later)
  by_step_moved Keep entry later = refl
  by_step_moved Skip entry later = refl
  by_step_moved Stop entry later = refl

  kept_moved : (filters : List FilterSpec) (entries : List Entry) → kept filters (all_moved f entries) ≡ all_moved f (kept filters entries)
  kept_moved filters [] = refl
  kept_moved filters (e ∷ es) =
      ap (by_step (step_of e.0 filters) (moved f e)) (kept_moved filters es) ∙ by_step_moved (step_of e.0 filters) e (kept filters es)

  module _ (schema : Schema) (bytes_max : ℕ) (ts us : List Rows) where
    abbrev pub these : State
    these = record { schema = schema; bytes_max = bytes_max; tables = ts }

    abbrev pub others : State
    others = record { schema = schema; bytes_max = bytes_max; tables = us }

    module _ (spec : FindSpec) (same : entries_of these spec.table ≡ all_moved f (entries_of others spec.table)) where
      walk_moved : walk_of these spec.table spec.index ≡ all_moved f (walk_of others spec.table spec.index)
      walk_moved =
          ap (in_order (entry_cmp (columns_for others spec))) same
          ∙ sym (in_order_mapped (entry_cmp (columns_for others spec)) (moved f) (entries_of others spec.table))

      matching_moved : (key : List Value) → matching these spec key ≡ all_moved f (matching others spec key)
      matching_moved key =
          let test = λ (entry : Entry). is_asked spec.op (stands_to (columns_for others spec) key entry) in
          ap (λ (es : List Entry). directed spec.op (filter test es)) walk_moved
          ∙ ap (directed spec.op) (sym (map_kept (moved f) test (walk_of others spec.table spec.index)))
          ∙ directed_moved spec.op (filter test (walk_of others spec.table spec.index))

      found_moved : (keys : List (List Value)) → found these spec keys ≡ all_moved f (found others spec keys)
      found_moved [] = refl
      found_moved (key ∷ keys) =
          ap₂ (λ (xs ys : List Entry). xs ++ ys) (matching_moved key) (found_moved keys)
          ∙ sym (map-append (moved f) (matching others spec key) (found others spec keys))

      -- the selected rows are the same, each in the slot that stands for its own
      pub selected_moved : selected these spec ≡ all_moved f (selected others spec)
      selected_moved =
          let all = found others spec (keys_of spec.key spec.within) in
          ap (λ (es : List Entry). take spec.limit (drop spec.offset (kept spec.filters es))) (found_moved (keys_of spec.key spec.within))
          ∙ ap (λ (es : List Entry). take spec.limit (drop spec.offset es)) (kept_moved spec.filters all)
          ∙ ap (take spec.limit) (drop-map (moved f) spec.offset (kept spec.filters all))
          ∙ take-map (moved f) spec.limit (drop spec.offset (kept spec.filters all))
