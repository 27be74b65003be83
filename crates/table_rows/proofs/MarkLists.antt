-- Marks of entries, cut by a test that tells of a mark what another tells of its entry.
--     kept_marks, found_mark, first_place_agrees, parted_marks, put_marks      what the one says of the marks
--     marks_reversed, slots_marked, marked_at      marks from their other end, and their slots
--     ahead_agrees      a cut tells the same of a mark and of its entry
use Rattle.std.proofs.Common.{◌≡◌, ℕ, Bool, true, false, not, cond, List, [], ◌∷◌, ◌++◌, filter, find, reverse, Option, Some, None, option_map, slice_get, sym, refl, ap, ◌∙◌}
use Rattle.std.specs.List.{AllByRecursion}
use Rattle.std.specs.Option.{option_map_or}
use Rattle.std.specs.Ordering.{nat_cmp}
use Rattle.std.proofs.lemmas.List.{map-append, reverse-append}
use Rattle.std.proofs.lemmas.Nat.{div-add-mod'}
use Rattle.std.proofs.lemmas.Option.{slice_get-map}
use Rattle.row_types.specs.declared.values.Value.{Value}
use Rattle.index_tree.specs.Parts.{IsParted, put_between, first_place}
use Rattle.index_tree.proofs.Elements.{all_weaker, filter_agree}
use Rattle.index_tree.proofs.Through.{map_kept}
use Rattle.table_rows.specs.declared.mark.Mark.{Mark}
use Rattle.table_rows.specs.Cuts.{is_before, line_at}
use Rattle.table_rows.specs.Digests.{key_digest}
use Rattle.table_rows.specs.Entries.{Slots, Entry, cells}
use Rattle.table_rows.specs.StoreInside.{is_ahead, is_ahead_of, slots_in}
use Rattle.table_rows.specs.Marks.{entry_mark, marks_in, slots_of, slot_marked, by_digest}
use Rattle.table_rows.specs.StoreWalks.{slot_in}
use Rattle.table_rows.proofs.DigestOrder.{told_by_digests}
use Rattle.table_rows.proofs.KeptRows.{IsRowOf}

module _ (columns : List ℕ) (test : Entry → Bool) (told : Mark → Bool) where
  -- the one test tells of each mark what the other tells of the entry
  abbrev pub Agree : List Entry → Type 0
  Agree xs = AllByRecursion (λ (e : Entry). told (entry_mark columns e) ≡ test e) xs

  pub kept_marks : (xs : List Entry) → Agree xs → filter told (marks_in columns xs) ≡ marks_in columns (filter test xs)
  kept_marks xs agree =
      sym (map_kept (entry_mark columns) told xs) ∙ ap (marks_in columns) (filter_agree (λ (e : Entry). told (entry_mark columns e)) test xs agree)

  pub found_mark : (xs : List Entry) → Agree xs → slot_marked (find told (marks_in columns xs)) ≡ slot_in (find test xs)
  found_mark [] agree = refl
  found_mark (x ∷ xs) agree = rw agree.0 (by_test (found_mark xs agree.1) (test x))
    where
      by_test : slot_marked (find told (marks_in columns xs)) ≡ slot_in (find test xs) → (b : Bool) → slot_marked (cond b (Some (entry_mark columns x)) (find told (marks_in columns xs))) ≡ slot_in (cond b (Some x) (find test xs))
      by_test rest true = refl
      by_test rest false = rest

  pub first_place_agrees : (xs : List Entry) → Agree xs → first_place told (marks_in columns xs) ≡ first_place test xs
  first_place_agrees [] agree = refl
  first_place_agrees (x ∷ xs) agree = rw (agree.0, first_place_agrees xs agree.1) refl

module _ (columns : List ℕ) (test : Entry → Bool) (told : Mark → Bool) where
  -- and then also what each does not pass
  pub opposites_agree : (xs : List Entry) → Agree columns test told xs → Agree columns (λ (e : Entry). not (test e)) (λ (m : Mark). not (told m)) xs
  opposites_agree =
      all_weaker (λ (e : Entry). told (entry_mark columns e) ≡ test e) (λ (e : Entry). not (told (entry_mark columns e)) ≡ not (test e)) (λ e same. ap not same)

  others_marks : (xs : List Entry) → Agree columns test told xs → filter (λ (m : Mark). not (told m)) (marks_in columns xs) ≡ marks_in columns (filter (λ (e : Entry). not (test e)) xs)
  others_marks xs agree = kept_marks columns (λ (e : Entry). not (test e)) (λ (m : Mark). not (told m)) xs (opposites_agree xs agree)

  pub parted_marks : (xs : List Entry) → Agree columns test told xs → IsParted test xs → IsParted told (marks_in columns xs)
  parted_marks xs agree parted =
      rw (kept_marks columns test told xs agree, others_marks xs agree)
      (sym (map-append (entry_mark columns) (filter test xs) (filter (λ (e : Entry). not (test e)) xs)) ∙ ap (marks_in columns) parted)

  pub put_marks : (e : Entry) (xs : List Entry) → Agree columns test told xs → put_between told (entry_mark columns e) (marks_in columns xs) ≡ marks_in columns (put_between test e xs)
  put_marks e xs agree =
      rw (kept_marks columns test told xs agree, others_marks xs agree)
      (sym (map-append (entry_mark columns) (filter test xs) (e ∷ filter (λ (d : Entry). not (test d)) xs)))

module _ (columns : List ℕ) where
  pub marks_reversed : (xs : List Entry) → marks_in columns (reverse xs) ≡ reverse (marks_in columns xs)
  marks_reversed [] = refl
  marks_reversed (x ∷ xs) =
      ap (marks_in columns) (reverse-append (x ∷ []) xs)
      ∙ map-append (entry_mark columns) (reverse xs) (x ∷ [])
      ∙ ap (λ (ms : List Mark). ms ++ entry_mark columns x ∷ []) (marks_reversed xs)
      ∙ sym (reverse-append (entry_mark columns x ∷ []) (marks_in columns xs))

  -- marks stand for the slots of their entries
  pub slots_marked : (xs : List Entry) → slots_of (marks_in columns xs) ≡ slots_in xs
  slots_marked [] = refl
  slots_marked (x ∷ xs) = ap (λ (ss : List ℕ). x.1 ∷ ss) (slots_marked xs)

  pub marked_at : (xs : List Entry) (k : ℕ) → slot_marked (slice_get (marks_in columns xs) k) ≡ slot_in (slice_get xs k)
  marked_at xs k = ap slot_marked (slice_get-map (entry_mark columns) xs k) ∙ of_entry (slice_get xs k)
    where
      of_entry : (o : Option Entry) → slot_marked (option_map (entry_mark columns) o) ≡ slot_in o
      of_entry None = refl
      of_entry (Some e) = refl

-- a cut tells of a mark what the entry's cells tell, at these columns or at others that tell the same
module _ (slots : Slots) (whole columns : List ℕ) (values : List Value) (through : Bool) (same : (e : Entry) → is_ahead_of whole values through e ≡ is_ahead_of columns values through e) where
  entry_told : (e : Entry) → IsRowOf slots e → is_before (line_at slots columns values through) (entry_mark whole e) ≡ is_ahead_of columns values through e
  entry_told e row =
      let digest = key_digest false (cells whole e.0) in
      let cut = key_digest through values in
      let told = ap (λ (o : Option (List Value)). option_map_or (λ (found : List Value). is_ahead_of columns values through (found, e.1)) o false) row in
      ap (λ (d : ℕ). by_digest (nat_cmp d cut) (is_ahead slots columns values through e.1)) (div-add-mod' digest 4294967296)
      ∙ ap (by_digest (nat_cmp digest cut)) (told ∙ sym (same e))
      ∙ told_by_digests through (cells whole e.0) values
      ∙ same e

  pub ahead_agrees : (xs : List Entry) → AllByRecursion (IsRowOf slots) xs → Agree whole (is_ahead_of columns values through) (is_before (line_at slots columns values through)) xs
  ahead_agrees =
      all_weaker (IsRowOf slots) (λ (e : Entry). is_before (line_at slots columns values through) (entry_mark whole e) ≡ is_ahead_of columns values through e) entry_told
