-- The same rows in other slots: entries whose slots stand for others.
--     kept_alone, put_alone, alone_moved      rows alone
--     without_moved, row_moved, put_moved      a row that goes, is read, or comes
--     clashes_moved, dup_moved, size_moved      what stands in a row's way
use Rattle.std.proofs.Common.{◌≡◌, ℕ, ◌+◌, Bool, true, false, not, cond, List, [], ◌∷◌, map, find, Some, refl, ap, sym, ◌∙◌}
use Rattle.std.specs.Prelude.{◌==◌, ◌||◌}
use Rattle.std.specs.List.{position_from}
use Rattle.index_tree.specs.Ordered.{with_item, is_below}
use Rattle.index_tree.proofs.Elements.{each_member, filter_agree}
use Rattle.index_tree.proofs.Through.{map_kept, map_put_between}
use Rattle.row_types.specs.declared.values.Value.{Value}
use Rattle.row_types.specs.declared.indexes.IndexDef.{IndexDef}
use Rattle.table_rows.specs.Entries.{Entry, entry_cmp}
use Rattle.table_rows.specs.Indexes.{primary_of}
use Rattle.table_rows.specs.Slots.{is_in, row_in, row_of, with_row, without}
use Rattle.table_rows.specs.Checks.{meets, clashes}
use Rattle.table_rows.specs.Database.{rows_alone}
use Rattle.batch_answers.specs.Answers.{row_cmp}

-- an entry in the slot that stands for its own
abbrev pub moved : (ℕ → ℕ) → Entry → Entry
moved f entry = (entry.0, f entry.1)

-- several of them
abbrev pub all_moved : (ℕ → ℕ) → List Entry → List Entry
all_moved f entries = map (moved f) entries

-- a row comes to its place whatever its slot
pub put_alone : (columns : List ℕ) (row : List Value) (slot : ℕ) (entries : List Entry) → rows_alone (with_item (entry_cmp columns) (row, slot) entries) ≡ with_item (row_cmp columns) row (rows_alone entries)
put_alone columns row slot entries = map_put_between (λ (entry : Entry). entry.0) (is_below (row_cmp columns) row) (row, slot) entries

module _ (f : ℕ → ℕ) where
  pub alone_moved : (entries : List Entry) → rows_alone (all_moved f entries) ≡ rows_alone entries
  alone_moved [] = refl
  alone_moved (e ∷ es) = ap (λ (rows : List (List Value)). e.0 ∷ rows) (alone_moved es)

  -- a clash is one of rows
  pub clashes_moved : (row : List Value) (index : IndexDef) (entries : List Entry) → clashes (all_moved f entries) row index ≡ clashes entries row index
  clashes_moved row index [] = refl
  clashes_moved row index (e ∷ es) = ap (λ (b : Bool). meets index row e || b) (clashes_moved row index es)

  pub dup_moved : (first : ℕ) (indexes : List IndexDef) (row : List Value) (entries : List Entry) → position_from (clashes (all_moved f entries) row) first indexes ≡ position_from (clashes entries row) first indexes
  dup_moved first [] row entries = refl
  dup_moved first (index ∷ indexes) row entries = rw (clashes_moved row index entries, dup_moved (first + 1) indexes row entries) refl

module _ (f : ℕ → ℕ) (apart : (a b : ℕ) → (f a == f b) ≡ (a == b)) where
  pub without_moved : (slot : ℕ) (entries : List Entry) → without (f slot) (all_moved f entries) ≡ all_moved f (without slot entries)
  without_moved slot entries =
      sym (map_kept (moved f) (λ (e : Entry). not (is_in (f slot) e)) entries)
      ∙ ap (all_moved f) (filter_agree (λ (e : Entry). not (f e.1 == f slot)) (λ (e : Entry). not (is_in slot e)) entries
      (each_member (λ (e : Entry). not (f e.1 == f slot) ≡ not (is_in slot e)) entries (λ e inside. ap not (apart e.1 slot))))

  found_moved : (slot : ℕ) (e : Entry) (es : List Entry) (b : Bool) → row_of (f slot) (all_moved f es) ≡ row_of slot es → row_in (cond b (Some (moved f e)) (find (is_in (f slot)) (all_moved f es))) ≡ row_in (cond b (Some e) (find (is_in slot) es))
  found_moved slot e es true later = refl
  found_moved slot e es false later = later

  pub row_moved : (slot : ℕ) (entries : List Entry) → row_of (f slot) (all_moved f entries) ≡ row_of slot entries
  row_moved slot [] = refl
  row_moved slot (e ∷ es) = rw (apart e.1 slot) (found_moved slot e es (e.1 == slot) (row_moved slot es))

  pub put_moved : (indexes : List IndexDef) (slot : ℕ) (row : List Value) (entries : List Entry) → with_row indexes (f slot) row (all_moved f entries) ≡ all_moved f (with_row indexes slot row entries)
  put_moved indexes slot row entries =
      ap (with_item (entry_cmp (primary_of indexes)) (row, f slot)) (without_moved slot entries)
      ∙ sym (map_put_between (moved f) (is_below (entry_cmp (primary_of indexes)) (row, f slot)) (row, slot) (without slot entries))
