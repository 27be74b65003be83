-- What the notes of changes say of slots and counters.
use Rattle.std.specs.Prelude.{◌≡◌, ◌<◌, Contains, ℕ, zero, suc, length, Bool, false, ◌&&◌, ◌==◌, if◌then◌else◌, List, [], ◌∷◌, ◌++◌, map, Option, Some, None, is_some, option_copied}
use Rattle.std.specs.Borrow.{Bor}
use Rattle.std.specs.List.{list_any, flat_map, AllByRecursion}
use Rattle.std.specs.declared.cmp.Ordering.{Ordering}
use Rattle.std.specs.Ordering.{nat_cmp, ordering_then, is_eq}
use Rattle.index_tree.specs.Ordered.{IsAscending, HaveSameMembers}
use Rattle.row_types.specs.declared.values.Value.{Value}
use Rattle.row_types.specs.declared.tables.Schema.{Schema}
use Rattle.row_types.specs.Order.{key_cmp}
use Rattle.table_rows.specs.Entries.{Entry, cells}
use Rattle.table_rows.specs.Rows.{Rows, State, entries_of, indexes_of, counter_of}
use Rattle.table_rows.specs.Slots.{row_found}
use Rattle.table_rows.specs.Undoing.{table_of}
use Rattle.table_rows.specs.Walks.{keyed, slot_of as slot_in}
use Rattle.table_rows.specs.declared.undo.Undo.{Undo}
use Rattle.table_rows.specs.declared.undo.Undo.TheVariants.{Put, Replaced, Deleted, Count}
use Rattle.change_set.specs.declared.change.Change.{Change}
use Rattle.change_set.specs.declared.change.Change.TheVariants as changed
use Rattle.change_set.specs.declared.touched.OldRow.{OldRow}
use Rattle.change_set.specs.Sets.{key_columns, change_cmp}
use Rattle.change_set.specs.Net.{counter_changes}

-- The table and the slot that a change is of, if it is of one.
abbrev pub slot_of : Undo → Option (ℕ × ℕ)
slot_of (Put t s counter) = Some (t, s.0)
slot_of (Replaced t s row counter) = Some (t, s.0)
slot_of (Deleted t s row) = Some (t, s.0)
slot_of (Count t counter) = None

-- Each note is of a table that there is.
abbrev pub AreOfTables : State → List Undo → Type 0
AreOfTables now undos = AllByRecursion (λ (undo : Undo). table_of undo < length now.tables) undos

-- Whether a note is of this slot of a table.
abbrev pub is_of_slot : ℕ → ℕ → Undo → Bool
is_of_slot table slot (Put t s counter) = t == table && s.0 == slot
is_of_slot table slot (Replaced t s row counter) = t == table && s.0 == slot
is_of_slot table slot (Deleted t s row) = t == table && s.0 == slot
is_of_slot table slot (Count t counter) = false

-- The row that the slot had before the change, if it had one.
abbrev pub row_before : Undo → Option (List Value)
row_before (Put t s counter) = None
row_before (Replaced t s row counter) = Some row
row_before (Deleted t s row) = Some row
row_before (Count t counter) = None

-- What a slot had before all changes of which these are the notes, the newest first, where it has this now.
abbrev pub slot_before : ℕ → ℕ → List Undo → Option (List Value) → Option (List Value)
slot_before table slot [] now = now
slot_before table slot (undo ∷ undos) now =
    slot_before table slot undos (if is_of_slot table slot undo then row_before undo else now)

-- Of these entries, that of the slot has this row, or there is none.
abbrev pub IsRowIn : List Entry → ℕ → Option (List Value) → Type 0
IsRowIn entries slot now =
    (row : List Value) → (Contains entries (row, slot) → now ≡ Some row) × (now ≡ Some row → Contains entries (row, slot))

-- The slot of a table has this row, or none.
abbrev pub HasIn : State → ℕ → ℕ → Option (List Value) → Type 0
HasIn state table slot now = IsRowIn (entries_of state table) slot now

-- Slots by table, and then by number.
abbrev pub slot_cmp : ℕ × ℕ → ℕ × ℕ → Ordering
slot_cmp a b = ordering_then (nat_cmp a.0 b.0) (nat_cmp a.1 b.1)

-- What is known of a slot that was touched, and what another one has now.
abbrev pub told_or : Option (Option (Bor (List Value))) → Option (List Value) → Option (List Value)
told_or None now = now
told_or (Some row) now = option_copied row

-- What is known of slots is what they had before the changes of these notes.
abbrev pub TellsBefore : (ℕ × ℕ → Option (Option (Bor (List Value)))) → List Undo → Type 0
TellsBefore known notes =
    (table slot : ℕ) (now : Option (List Value)) → slot_before table slot notes now ≡ told_or (known (table, slot)) now

-- The row that a slot had before the changes of these notes.
abbrev pub row_once : State → List Undo → ℕ × ℕ → Option (List Value)
row_once now notes slot = slot_before slot.0 slot.1 notes (row_found now slot.0 slot.1)

-- A row behind the number of its table, if there is one.
abbrev pub numbered : ℕ → Option (List Value) → List (ℕ × List Value)
numbered table None = []
numbered table (Some row) = (table, row) ∷ []

-- What is told of the row from before of a slot, if one is named.
abbrev pub old_told : State → (ℕ × ℕ → Option (Option (Bor (List Value)))) → Option (ℕ × ℕ) → List (ℕ × List Value)
old_told now known None = []
old_told now known (Some slot) = numbered slot.0 (told_or (known slot) (row_found now slot.0 slot.1))

-- The row from before of a slot, if one is named.
abbrev pub old_at : State → List Undo → Option (ℕ × ℕ) → List (ℕ × List Value)
old_at now notes None = []
old_at now notes (Some slot) = numbered slot.0 (row_once now notes slot)

-- The rows from before of the slots that some notes are of.
abbrev pub olds_of : State → List Undo → List Undo → List (ℕ × List Value)
olds_of now notes undos = flat_map (λ undo. old_at now notes (slot_of undo)) undos

-- Rows by table, and then by their values.
abbrev pub old_cmp : ℕ × List Value → ℕ × List Value → Ordering
old_cmp a b = ordering_then (nat_cmp a.0 b.0) (key_cmp a.1 b.1)

-- A row from before, as it is seen.
abbrev pub old_seen : OldRow → ℕ × List Value
old_seen old = (old.table, old.row.now)

-- Whether a row of a table is one of these.
abbrev pub is_among : List (ℕ × List Value) → ℕ → List Value → Bool
is_among olds table row = list_any (λ old. is_eq (old_cmp old (table, row))) olds

-- The deletion of a row from before, where no row has its primary key now.
abbrev pub deletion_of : State → ℕ × List Value → List Change
deletion_of now old = let key = cells (key_columns now.schema old.0) old.1 in
    if is_some (slot_in (keyed (indexes_of now old.0) key (entries_of now old.0))) then [] else changed.Delete old.0 key ∷ []

-- The put of a row of now, where it is none of those from before.
abbrev pub put_of : List (ℕ × List Value) → ℕ → Option (List Value) → List Change
put_of olds table None = []
put_of olds table (Some row) = if is_among olds table row then [] else changed.Put table row ∷ []

-- The put of the row of a slot, if one is named.
abbrev pub put_if : State → List (ℕ × List Value) → Option (ℕ × ℕ) → List Change
put_if now olds None = []
put_if now olds (Some slot) = put_of olds slot.0 (row_found now slot.0 slot.1)

-- The puts of the slots that some notes are of.
abbrev pub puts_of : State → List (ℕ × List Value) → List Undo → List Change
puts_of now olds undos = flat_map (λ undo. put_if now olds (slot_of undo)) undos

-- A table, and its counter from before a change, where the note has it.
abbrev pub counter_before : Undo → Option (ℕ × ℕ)
counter_before (Put t s counter) = Some (t, counter)
counter_before (Replaced t s row counter) = Some (t, counter)
counter_before (Deleted t s row) = None
counter_before (Count t counter) = Some (t, counter)

-- The counters of all tables.
abbrev pub counters : State → List ℕ
counters state = map (λ (rows : Rows). rows.counter) state.tables

-- The changes of the counters of so many tables.
abbrev pub counts_of : State → State → ℕ → List Change
counts_of before now zero = []
counts_of before now (suc table) =
    counts_of before now table ++ counter_changes table (counter_of before table) (counter_of now table)

-- Each row is of a table that there is.
abbrev pub AreOlds : State → List (ℕ × List Value) → Type 0
AreOlds now olds = AllByRecursion (λ (old : ℕ × List Value). old.0 < length now.tables) olds

-- Changes in order, each of them once: where an ascending list has the same ones, these are that list.
abbrev pub IsOrderOf : Schema → List Change → List Change → Type 0
IsOrderOf schema changes ordered =
    (all : List Change) → IsAscending (change_cmp schema) all → HaveSameMembers changes all → ordered ≡ all
