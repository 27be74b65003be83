-- Changes can be taken back in a state with more slots as well.
--     roomier_itself, roomier_then, widened_roomier      states with more slots
--     roomier_valid, roomier_undone, leads_back_roomier      what holds of them
use Rattle.std.proofs.Common.{◌≡◌, ℕ, zero, suc, ◌<◌, ◌≤◌, true, List, [], ◌∷◌, length, get_or, set, sum_by, refl, ap, sym, subst, ◌∙◌, arith, le_refl, le_trans, lt_of_lt_of_le}
use Rattle.std.specs.List.{AllZip}
use Rattle.std.proofs.lemmas.List.{set-get_or}
use Rattle.std.proofs.lemmas.List.Sums.{sum_by-cons}
use Rattle.row_types.specs.declared.values.Value.{Value}
use Rattle.row_types.specs.declared.indexes.IndexDef.{IndexDef}
use Rattle.row_types.specs.declared.tables.TableDef.{TableDef}
use Rattle.row_types.specs.declared.tables.Schema.{Schema}
use Rattle.row_types.specs.Valid.{IsValid}
use Rattle.table_rows.specs.Entries.{Entry}
use Rattle.table_rows.specs.declared.undo.Undo.{Undo}
use Rattle.table_rows.specs.declared.undo.Undo.TheVariants.{Put, Replaced, Deleted, Count}
use Rattle.table_rows.specs.Rows.{Rows, State, no_table, no_rows, indexes_of, rows_of, entries_of, room_of, counter_of, with_counted}
use Rattle.table_rows.specs.Slots.{IsVacant, is_live, with_row, without}
use Rattle.table_rows.specs.Sizes.{entries_size, most_bytes}
use Rattle.table_rows.specs.Valid.{AreValidRows, IsValidState}
use Rattle.table_rows.specs.Undoing.{undone, undone_all, CanUndo, AreUndoable, LeadsBack}
use Rattle.table_rows.specs.Widths.{AreRoomier, IsRoomier, IsWidened}
use Rattle.table_rows.proofs.States.{zip_at, zip_long}
use Rattle.table_rows.proofs.Placed.{valid_room}

rows_itself : (tables : List Rows) → AllZip AreRoomier tables tables
rows_itself [] = tt
rows_itself (t ∷ ts) = ((refl, le_refl t.room, refl), rows_itself ts)

rows_then : (xs ys zs : List Rows) → AllZip AreRoomier xs ys → AllZip AreRoomier ys zs → AllZip AreRoomier xs zs
rows_then [] [] [] a b = tt
rows_then [] [] (z ∷ zs) a b = absurd b
rows_then [] (y ∷ ys) zs a b = absurd a
rows_then (x ∷ xs) [] zs a b = absurd a
rows_then (x ∷ xs) (y ∷ ys) [] a b = absurd b
rows_then (x ∷ xs) (y ∷ ys) (z ∷ zs) a b = ((b.0.0 ∙ a.0.0, le_trans a.0.1 b.0.1, b.0.2 ∙ a.0.2), rows_then xs ys zs a.1 b.1)

pub roomier_itself : (state : State) → IsRoomier state state
roomier_itself state = record { schema = refl; bytes_max = refl; tables = rows_itself state.tables }

pub roomier_then : (a b c : State) → IsRoomier a b → IsRoomier b c → IsRoomier a c
roomier_then a b c first more = record {
  schema = more.schema ∙ first.schema;
  bytes_max = more.bytes_max ∙ first.bytes_max;
  tables = rows_then a.tables b.tables c.tables first.tables more.tables;
}

set_both : {A B : Type 0} (R : A → B → Type 0) (xs : List A) (ys : List B) (i : ℕ) (x : A) (y : B) → AllZip R xs ys → R x y → AllZip R (set xs i x) (set ys i y)
set_both R [] [] i x y zip at = tt
set_both R [] (v ∷ ys) i x y zip at = absurd zip
set_both R (u ∷ xs) [] i x y zip at = absurd zip
set_both R (u ∷ xs) (v ∷ ys) zero x y zip at = (at, zip.1)
set_both R (u ∷ xs) (v ∷ ys) (suc i) x y zip at = (zip.0, set_both R xs ys i x y zip.1 at)

-- a table that was given more slots
pub widened_roomier : (table : ℕ) (before after : State) → IsWidened table before after → IsRoomier before after
widened_roomier table before after wide = record {
  schema = ap (λ (s : State). s.schema) wide.rows;
  bytes_max = ap (λ (s : State). s.bytes_max) wide.rows;
  tables = subst (AllZip AreRoomier before.tables) (sym (ap (λ (s : State). s.tables) wide.rows))
      (subst (λ (ts : List Rows). AllZip AreRoomier ts (set before.tables table (record { entries = entries_of before table; room = room_of after table; counter = counter_of before table }))) (set-get_or before.tables table no_rows)
      (set_both AreRoomier before.tables before.tables table (rows_of before table) (record { entries = entries_of before table; room = room_of after table; counter = counter_of before table }) (rows_itself before.tables) (refl, wide.room, refl)));
}

-- valid states stay valid
valid_rows_roomier : (defs : List TableDef) (xs ys : List Rows) → AllZip AreValidRows defs xs → AllZip AreRoomier xs ys → AllZip AreValidRows defs ys
valid_rows_roomier [] [] [] valid more = tt
valid_rows_roomier [] [] (y ∷ ys) valid more = absurd more
valid_rows_roomier [] (x ∷ xs) ys valid more = absurd valid
valid_rows_roomier (d ∷ ds) [] ys valid more = absurd valid
valid_rows_roomier (d ∷ ds) (x ∷ xs) [] valid more = absurd more
valid_rows_roomier (d ∷ ds) (x ∷ xs) (y ∷ ys) valid more =
    (subst (λ (n : ℕ). AreValidRows d (record y { counter = n })) (sym more.0.2) (subst (λ (es : List Entry). AreValidRows d (record { entries = es; room = y.room; counter = x.counter })) (sym more.0.0) (valid_room d x y.room more.0.1 valid.0)), valid_rows_roomier ds xs ys valid.1 more.1)

total_rows_roomier : (xs ys : List Rows) → AllZip AreRoomier xs ys → sum_by (λ (r : Rows). entries_size r.entries) ys ≡ sum_by (λ (r : Rows). entries_size r.entries) xs
total_rows_roomier [] [] more = refl
total_rows_roomier [] (y ∷ ys) more = absurd more
total_rows_roomier (x ∷ xs) [] more = absurd more
total_rows_roomier (x ∷ xs) (y ∷ ys) more =
    let f = λ (r : Rows). entries_size r.entries in
    omega (arith, sum_by-cons f y ys, sum_by-cons f x xs, ap entries_size more.0.0, total_rows_roomier xs ys more.1)

pub roomier_valid : (before after : State) → IsRoomier before after → IsValidState before → IsValidState after
roomier_valid before after more valid = record {
  schema = subst IsValid (sym more.schema) valid.schema;
  tables = subst (λ (s : Schema). AllZip AreValidRows s.tables after.tables) (sym more.schema) (valid_rows_roomier before.schema.tables before.tables after.tables valid.tables more.tables);
  bytes = subst (λ (n : ℕ). n ≤ most_bytes) (sym (total_rows_roomier before.tables after.tables more.tables)) valid.bytes;
  most = subst (λ (n : ℕ). n ≤ most_bytes) (sym more.bytes_max) valid.most;
}

module _ (before after : State) (more : IsRoomier before after) (table : ℕ) (within : table < length before.tables) where
  within_after : table < length after.tables
  within_after = subst (λ (n : ℕ). table < n) (zip_long AreRoomier before.tables after.tables more.tables) within

  rows_roomier : AreRoomier (rows_of before table) (rows_of after table)
  rows_roomier = zip_at AreRoomier before.tables after.tables table no_rows no_rows more.tables within_after

  indexes_same : indexes_of after table ≡ indexes_of before table
  indexes_same = ap (λ (s : Schema). (get_or s.tables table no_table).indexes) more.schema

  with_roomier : (change : List Entry → List Entry) (other : List Entry → List Entry) (counter later : ℕ) → other (entries_of after table) ≡ change (entries_of before table) → later ≡ counter → IsRoomier (with_counted before table (change (entries_of before table)) counter) (with_counted after table (other (entries_of after table)) later)
  with_roomier change other counter later same alike = record {
    schema = more.schema;
    bytes_max = more.bytes_max;
    tables = set_both AreRoomier before.tables after.tables table _ _ more.tables (same, rows_roomier.1, alike);
  }

  live_same : (slot : ℕ) → is_live slot (entries_of before table) ≡ true → is_live slot (entries_of after table) ≡ true
  live_same slot live = ap (is_live slot) rows_roomier.0 ∙ live

  vacant_same : (slot : ℕ) → IsVacant slot (rows_of before table) → IsVacant slot (rows_of after table)
  vacant_same slot vacant = record { within = lt_of_lt_of_le vacant.within rows_roomier.1; free = ap (is_live slot) rows_roomier.0 ∙ vacant.free }

  row_same : (slot : ℕ) (row : List Value) → with_row (indexes_of after table) slot row (entries_of after table) ≡ with_row (indexes_of before table) slot row (entries_of before table)
  row_same slot row = ap (λ (is : List IndexDef). with_row is slot row (entries_of after table)) indexes_same ∙ ap (with_row (indexes_of before table) slot row) rows_roomier.0

-- so does what is undone
pub roomier_undone : (undo : Undo) (before after : State) → CanUndo undo before → IsRoomier before after → IsRoomier (undone undo before) (undone undo after)
roomier_undone (Put table slot counter) before after can more = with_roomier before after more table can.table (without slot.0) (without slot.0) counter counter (ap (without slot.0) (rows_roomier before after more table can.table).0) refl
roomier_undone (Replaced table slot row counter) before after can more = with_roomier before after more table can.table (with_row (indexes_of before table) slot.0 row) (with_row (indexes_of after table) slot.0 row) counter counter (row_same before after more table can.table slot.0 row) refl
roomier_undone (Deleted table slot row) before after can more = with_roomier before after more table can.table (with_row (indexes_of before table) slot.0 row) (with_row (indexes_of after table) slot.0 row) (counter_of before table) (counter_of after table) (row_same before after more table can.table slot.0 row) (rows_roomier before after more table can.table).2
roomier_undone (Count table counter) before after can more = with_roomier before after more table can.table (λ es. es) (λ es. es) counter counter (rows_roomier before after more table can.table).0 refl

pub can_undo_roomier : (undo : Undo) (before after : State) → CanUndo undo before → IsRoomier before after → CanUndo undo after
can_undo_roomier (Put table slot counter) before after can more = record {
  table = within_after before after more table can.table;
  slot = live_same before after more table can.table slot.0 can.slot;
  valid = roomier_valid _ _ (roomier_undone (Put table slot counter) before after can more) can.valid;
}
can_undo_roomier (Replaced table slot row counter) before after can more = record {
  table = within_after before after more table can.table;
  slot = live_same before after more table can.table slot.0 can.slot;
  valid = roomier_valid _ _ (roomier_undone (Replaced table slot row counter) before after can more) can.valid;
}
can_undo_roomier (Deleted table slot row) before after can more = record {
  table = within_after before after more table can.table;
  slot = vacant_same before after more table can.table slot.0 can.slot;
  valid = roomier_valid _ _ (roomier_undone (Deleted table slot row) before after can more) can.valid;
}
can_undo_roomier (Count table counter) before after can more = record {
  table = within_after before after more table can.table;
  slot = tt;
  valid = roomier_valid _ _ (roomier_undone (Count table counter) before after can more) can.valid;
}

pub undoable_roomier : (undos : List Undo) (before after : State) → AreUndoable undos before → IsRoomier before after → AreUndoable undos after × IsRoomier (undone_all undos before) (undone_all undos after)
undoable_roomier [] before after can more = (tt, more)
undoable_roomier (u ∷ us) before after can more =
    let rest = undoable_roomier us (undone u before) (undone u after) can.1 (roomier_undone u before after can.0 more) in
    ((can_undo_roomier u before after can.0 more, rest.0), rest.1)

-- and it leads back to the earlier state, in as many slots or more
pub leads_back_roomier : (undos : List Undo) (now before later : State) → LeadsBack undos now before → IsRoomier now later → LeadsBack undos later (undone_all undos later) × IsRoomier before (undone_all undos later)
leads_back_roomier undos now before later leads more =
    let both = undoable_roomier undos now later leads.can more in
    (record { can = both.0; back = refl }, subst (λ (s : State). IsRoomier s (undone_all undos later)) leads.back both.1)
