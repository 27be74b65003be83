-- Taking changes back.
use Rattle.std.specs.Prelude.{◌≡◌, ℕ, ◌<◌, true, List, [], ◌∷◌, length, reverse, drop}
use Rattle.table_rows.specs.declared.undo.Undo.{Undo}
use Rattle.table_rows.specs.declared.undo.Undo.TheVariants.{Put, Replaced, Deleted, Count}
use Rattle.table_rows.specs.Rows.{State, rows_of, entries_of, with_entries, with_counted, with_counter}
use Rattle.table_rows.specs.Slots.{IsVacant, is_live_in, without, entries_with}
use Rattle.table_rows.specs.Valid.{IsValidState}

-- What to take back, from the oldest change to the newest, and how many more find room.
pub record Undos : Type 0 where
  pub entries : List Undo
  pub spare : ℕ

-- The table that was changed.
abbrev pub table_of : Undo → ℕ
table_of (Put table slot counter) = table
table_of (Replaced table slot row counter) = table
table_of (Deleted table slot row) = table
table_of (Count table counter) = table

-- The state before a change: without the row that was put, or with the row that was replaced or deleted, and with the
-- counter from before.
abbrev pub undone : Undo → State → State
undone (Put table slot counter) state = with_counted state table (without slot.0 (entries_of state table)) counter
undone (Replaced table slot row counter) state = with_counted state table (entries_with state table slot.0 row) counter
undone (Deleted table slot row) state = with_entries state table (entries_with state table slot.0 row)
undone (Count table counter) state = with_counter state table counter

-- The slot has a row, or has none, as the change left it.
abbrev pub IsAsLeft : Undo → State → Type 0
IsAsLeft (Put table slot counter) state = is_live_in state table slot.0 ≡ true
IsAsLeft (Replaced table slot row counter) state = is_live_in state table slot.0 ≡ true
IsAsLeft (Deleted table slot row) state = IsVacant slot.0 (rows_of state table)
IsAsLeft (Count table counter) state = Unit {0}

-- A change can be taken back where its slot is as it left it, and where the state before it is valid.
pub record CanUndo (undo : Undo) (state : State) : Type 0 where
  pub table : table_of undo < length state.tables
  pub slot : IsAsLeft undo state
  pub valid : IsValidState (undone undo state)

-- The state before all of these changes, of which the newest comes first.
abbrev pub undone_all : List Undo → State → State
undone_all [] state = state
undone_all (undo ∷ undos) state = undone_all undos (undone undo state)

-- They can be taken back one after another.
abbrev pub AreUndoable : List Undo → State → Type 0
AreUndoable [] state = Unit {0}
AreUndoable (undo ∷ undos) state = CanUndo undo state × AreUndoable undos (undone undo state)

-- The changes since a mark, the newest first.
abbrev pub since : ℕ → List Undo → List Undo
since mark entries = reverse (drop mark entries)

-- Taking these changes back leads from one state to an earlier one.
pub record LeadsBack (undos : List Undo) (now before : State) : Type 0 where
  pub can : AreUndoable undos now
  pub back : undone_all undos now ≡ before
