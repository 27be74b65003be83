-- Changes taken back.
--     put_undone, replaced_undone, deleted_undone, count_undone      each change leads back to the state before it
--     since_one, since_more, leads_back_none, leads_back_then, leads_back_more      lists of changes
use Rattle.std.proofs.Common.{◌≡◌, ℕ, ◌<◌, ◌≤◌, true, false, List, [], ◌∷◌, ◌++◌, length, drop, reverse, refl, ap, sym, subst, ◌∙◌, length-set, drop_at}
use Rattle.std.proofs.lemmas.List.{drop-append-le, reverse-append, drop_all}
use Rattle.index_tree.specs.Ordered.{with_item}
use Rattle.row_types.specs.declared.values.Value.{Value}
use Rattle.table_rows.specs.Entries.{Entry, entry_cmp}
use Rattle.table_rows.specs.declared.undo.Undo.{Undo}
use Rattle.table_rows.specs.declared.undo.Undo.TheVariants.{Put, Replaced, Deleted, Count}
use Rattle.table_rows.specs.Counters.{raised}
use Rattle.table_rows.specs.Rows.{State, def_of, indexes_of, rows_of, entries_of, room_of, counted_at, counter_of, with_counted, with_counter}
use Rattle.table_rows.specs.Indexes.{primary_of}
use Rattle.table_rows.specs.Slots.{is_live, is_live_in, row_at, without, with_row, with_row_at, without_at}
use Rattle.table_rows.specs.Checks.{IsPlaceable}
use Rattle.table_rows.specs.Valid.{IsValidState}
use Rattle.table_rows.specs.Undoing.{undone, undone_all, AreUndoable, since, LeadsBack}
use Rattle.table_rows.proofs.BySlot.{put_back, without_free, without_again, free_without, without_put, live_put}
use Rattle.table_rows.proofs.Keys.{entry_cmp_total}
use Rattle.table_rows.proofs.States.{entries_given, room_with, counter_with, with_again, with_same, rows_valid, primary_in}
use Rattle.table_rows.proofs.Placed.{others_parted, live_within}

module _ (state : State) (valid : IsValidState state) (table : ℕ) (within : table < length state.tables) where
  -- a change of the table leaves as many tables
  table_stays : (entries : List Entry) (counter : ℕ) → table < length (with_counted state table entries counter).tables
  table_stays entries counter = subst (λ (n : ℕ). table < n) (sym (length-set state.tables table _)) within

  -- another change of the same table, which has these entries by then
  changed_again : (change : List Entry → List Entry) (entries : List Entry) (counter : ℕ) → change entries ≡ entries_of state table → with_counted (with_counted state table entries counter) table (change (entries_of (with_counted state table entries counter) table)) (counter_of state table) ≡ state
  changed_again change entries counter back =
      ap (λ (es : List Entry). with_counted (with_counted state table entries counter) table (change es) (counter_of state table)) (entries_given state table within entries counter)
      ∙ with_again state table within entries counter (change entries) (counter_of state table) ∙ ap (λ (es : List Entry). with_counted state table es (counter_of state table)) back ∙ with_same state table

  entries_back : (slot : ℕ) → is_live slot (entries_of state table) ≡ true → with_item (entry_cmp (primary_of (indexes_of state table))) (row_at state table slot, slot) (without slot (entries_of state table)) ≡ entries_of state table
  entries_back slot live =
      let rows = rows_valid state valid table within in
      put_back (entry_cmp (primary_of (indexes_of state table))) (entry_cmp_total (primary_of (indexes_of state table))) slot (entries_of state table) rows.ascending rows.apart live

  module _ (slot : ℕ) (row : List Value) (placed : IsPlaceable (def_of state table) row (without slot (entries_of state table))) where
    gone_again : without slot (with_row (indexes_of state table) slot row (entries_of state table)) ≡ without slot (entries_of state table)
    gone_again =
        without_put (entry_cmp (primary_of (indexes_of state table))) slot row (without slot (entries_of state table)) (others_parted (def_of state table) (rows_of state table) slot row (primary_in state valid table within) (rows_valid state valid table within) placed)
        ∙ without_again slot (entries_of state table)

    abbrev after : ℕ
    after = raised (counted_at state table) row (counter_of state table)

    live_there : is_live_in (with_row_at state table slot row) table slot ≡ true
    live_there = ap (is_live slot) (entries_given state table within _ after) ∙ live_put (entry_cmp (primary_of (indexes_of state table))) slot row (without slot (entries_of state table))

    pub put_undone : is_live slot (entries_of state table) ≡ false → LeadsBack (Put table (record { 0 = slot }) (counter_of state table) ∷ []) (with_row_at state table slot row) state
    put_undone free =
        let back : undone (Put table (record { 0 = slot }) (counter_of state table)) (with_row_at state table slot row) ≡ state = changed_again (without slot) (with_row (indexes_of state table) slot row (entries_of state table)) after (gone_again ∙ without_free slot (entries_of state table) free) in
        record { can = (record { table = table_stays _ after; slot = live_there; valid = subst IsValidState (sym back) valid }, tt); back = back }

    pub replaced_undone : is_live slot (entries_of state table) ≡ true → LeadsBack (Replaced table (record { 0 = slot }) (row_at state table slot) (counter_of state table) ∷ []) (with_row_at state table slot row) state
    replaced_undone live =
        let cmp = entry_cmp (primary_of (indexes_of state table)) in
        let old = row_at state table slot in
        let back : undone (Replaced table (record { 0 = slot }) old (counter_of state table)) (with_row_at state table slot row) ≡ state =
        changed_again (with_row (indexes_of state table) slot old) (with_row (indexes_of state table) slot row (entries_of state table)) after (ap (with_item cmp (old, slot)) gone_again ∙ entries_back slot live) in
        record { can = (record { table = table_stays _ after; slot = live_there; valid = subst IsValidState (sym back) valid }, tt); back = back }

  pub deleted_undone : (slot : ℕ) → is_live slot (entries_of state table) ≡ true → LeadsBack (Deleted table (record { 0 = slot }) (row_at state table slot) ∷ []) (without_at state table slot) state
  deleted_undone slot live =
      let cmp = entry_cmp (primary_of (indexes_of state table)) in
      let old = row_at state table slot in
      let same = counter_of state table in
      let gone = without_at state table slot in
      let back : undone (Deleted table (record { 0 = slot }) old) gone ≡ state =
      ap (λ (n : ℕ). with_counted gone table (with_row (indexes_of state table) slot old (entries_of gone table)) n) (counter_with state table within (without slot (entries_of state table)) same)
      ∙ changed_again (with_row (indexes_of state table) slot old) (without slot (entries_of state table)) same (ap (with_item cmp (old, slot)) (without_again slot (entries_of state table)) ∙ entries_back slot live) in
      let free : is_live slot (entries_of gone table) ≡ false = ap (is_live slot) (entries_given state table within _ same) ∙ free_without slot (entries_of state table) in
      let room : slot < room_of gone table = subst (λ (n : ℕ). slot < n) (sym (room_with state table within _ same)) (live_within (def_of state table) (rows_of state table) slot (rows_valid state valid table within) live) in
      record { can = (record { table = table_stays _ same; slot = record { within = room; free = free }; valid = subst IsValidState (sym back) valid }, tt); back = back }

  pub count_undone : (counter : ℕ) → LeadsBack (Count table (counter_of state table) ∷ []) (with_counter state table counter) state
  count_undone counter =
      let back : undone (Count table (counter_of state table)) (with_counter state table counter) ≡ state = changed_again (λ es. es) (entries_of state table) counter refl in
      record { can = (record { table = table_stays _ counter; slot = tt; valid = subst IsValidState (sym back) valid }, tt); back = back }

-- lists of changes
pub since_one : (entries : List Undo) (undo : Undo) → since (length entries) (entries ++ undo ∷ []) ≡ undo ∷ []
since_one entries undo = ap reverse (drop_at entries (undo ∷ []) (length entries) refl)

pub since_more : (mark : ℕ) (entries more : List Undo) → mark ≤ length entries → since mark (entries ++ more) ≡ since (length entries) (entries ++ more) ++ since mark entries
since_more mark entries more bound =
    ap reverse (drop-append-le mark entries more bound) ∙ reverse-append (drop mark entries) more ∙ ap (λ (us : List Undo). reverse us ++ since mark entries) (sym (drop_at entries more (length entries) refl))

pub undoable_append : (us vs : List Undo) (state : State) → AreUndoable us state → AreUndoable vs (undone_all us state) → AreUndoable (us ++ vs) state
undoable_append [] vs state first rest = rest
undoable_append (u ∷ us) vs state first rest = (first.0, undoable_append us vs (undone u state) first.1 rest)

pub undone_all-append : (us vs : List Undo) (state : State) → undone_all (us ++ vs) state ≡ undone_all vs (undone_all us state)
undone_all-append [] vs state = refl
undone_all-append (u ∷ us) vs state = undone_all-append us vs (undone u state)

pub leads_back_none : (state : State) → LeadsBack [] state state
leads_back_none state = record { can = tt; back = refl }

pub leads_back_then : (us vs : List Undo) (now between before : State) → LeadsBack us now between → LeadsBack vs between before → LeadsBack (us ++ vs) now before
leads_back_then us vs now between before first rest = record {
  can = undoable_append us vs now first.can (subst (AreUndoable vs) (sym first.back) rest.can);
  back = undone_all-append us vs now ∙ ap (undone_all vs) first.back ∙ rest.back;
}

-- what was pushed since a mark and what is pushed by one more call can be taken back together
pub leads_back_more : (mark : ℕ) (entries more : List Undo) (now between before : State) → mark ≤ length entries → LeadsBack (since (length entries) (entries ++ more)) now between → LeadsBack (since mark entries) between before → LeadsBack (since mark (entries ++ more)) now before
leads_back_more mark entries more now between before bound first rest =
    subst (λ (us : List Undo). LeadsBack us now before) (sym (since_more mark entries more bound)) (leads_back_then _ _ now between before first rest)

-- what one change pushed
pub since_pushed : (entries : List Undo) (undo : Undo) (more : List Undo) (now before : State) → more ≡ entries ++ undo ∷ [] → LeadsBack (undo ∷ []) now before → LeadsBack (since (length entries) more) now before
since_pushed entries undo more now before pushed back = subst (λ (us : List Undo). LeadsBack us now before) (sym (ap (since (length entries)) pushed ∙ since_one entries undo)) back

-- so a change that was noted leads back
noted_leads : (state after now : State) (undo noted : Undo) (entries more : List Undo) → noted ≡ undo → now ≡ after → more ≡ entries ++ noted ∷ [] → LeadsBack (undo ∷ []) after state → LeadsBack (since (length entries) more) now state
noted_leads state after now undo noted entries more same is pushed back =
    since_pushed entries undo more now state (pushed ∙ ap (λ (u : Undo). entries ++ u ∷ []) same) (subst (λ (s : State). LeadsBack (undo ∷ []) s state) (sym is) back)

module _ (state : State) (valid : IsValidState state) (table : ℕ) (within : table < length state.tables) where
  pub put_leads : (slot : ℕ) (row : List Value) → IsPlaceable (def_of state table) row (entries_of state table) → is_live slot (entries_of state table) ≡ false → (counter : ℕ) → counter ≡ counter_of state table → (now : State) → now ≡ with_row_at state table slot row → (entries more : List Undo) → more ≡ entries ++ Put table (record { 0 = slot }) counter ∷ [] → LeadsBack (since (length entries) more) now state
  put_leads slot row placed free counter same now is entries more pushed =
      let among = subst (IsPlaceable (def_of state table) row) (sym (without_free slot (entries_of state table) free)) placed in
      noted_leads state (with_row_at state table slot row) now (Put table (record { 0 = slot }) (counter_of state table)) (Put table (record { 0 = slot }) counter) entries more (ap (Put table (record { 0 = slot })) same) is pushed (put_undone state valid table within slot row among free)

  pub replaced_leads : (slot : ℕ) (row : List Value) → IsPlaceable (def_of state table) row (without slot (entries_of state table)) → is_live slot (entries_of state table) ≡ true → (old : List Value) → old ≡ row_at state table slot → (counter : ℕ) → counter ≡ counter_of state table → (now : State) → now ≡ with_row_at state table slot row → (entries more : List Undo) → more ≡ entries ++ Replaced table (record { 0 = slot }) old counter ∷ [] → LeadsBack (since (length entries) more) now state
  replaced_leads slot row placed live old handed counter same now is entries more pushed =
      noted_leads state (with_row_at state table slot row) now (Replaced table (record { 0 = slot }) (row_at state table slot) (counter_of state table)) (Replaced table (record { 0 = slot }) old counter) entries more (λ i. Replaced table (record { 0 = slot }) (handed i) (same i)) is pushed (replaced_undone state valid table within slot row placed live)

  pub deleted_leads : (slot : ℕ) → is_live slot (entries_of state table) ≡ true → (old : List Value) → old ≡ row_at state table slot → (now : State) → now ≡ without_at state table slot → (entries more : List Undo) → more ≡ entries ++ Deleted table (record { 0 = slot }) old ∷ [] → LeadsBack (since (length entries) more) now state
  deleted_leads slot live old handed now is entries more pushed =
      noted_leads state (without_at state table slot) now (Deleted table (record { 0 = slot }) (row_at state table slot)) (Deleted table (record { 0 = slot }) old) entries more (ap (Deleted table (record { 0 = slot })) handed) is pushed (deleted_undone state valid table within slot live)

  pub count_leads : (counter before : ℕ) → before ≡ counter_of state table → (now : State) → now ≡ with_counter state table counter → (entries more : List Undo) → more ≡ entries ++ Count table before ∷ [] → LeadsBack (since (length entries) more) now state
  count_leads counter before same now is entries more pushed =
      noted_leads state (with_counter state table counter) now (Count table (counter_of state table)) (Count table before) entries more (ap (Count table) same) is pushed (count_undone state valid table within counter)

-- the newest change comes first
pub since_last : (mark : ℕ) (rest : List Undo) (last : Undo) → mark ≤ length rest → since mark (rest ++ last ∷ []) ≡ last ∷ since mark rest
since_last mark rest last bound = since_more mark rest (last ∷ []) bound ∙ ap (λ (us : List Undo). us ++ since mark rest) (since_one rest last)

pub since_end : (mark : ℕ) (entries : List Undo) → length entries ≤ mark → since mark entries ≡ []
since_end mark entries bound = ap reverse (drop_all mark entries bound)
