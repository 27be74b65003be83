-- Histories of batches, and the tables that they lead to.
use Rattle.std.specs.Prelude.{◌≡◌, ◌≢◌, ℕ, suc, ◌+◌, ◌==◌, List, [], ◌∷◌, ◌++◌, length, if◌then◌else◌}
use Rattle.request_types.specs.declared.batches.Item.{Item}
use Rattle.table_rows.specs.Database.{Database}
use Rattle.batch_answers.specs.Answers.{after}
use Rattle.table_book.specs.declared.entry.Entry.{Entry}

-- The tables once these batches were carried out on them, one after another.
abbrev pub state : Database → List Entry → Database
state base [] = base
state base (entry ∷ entries) = state (after base entry.batch.items) entries

-- Each batch changes the tables that those before it left.
abbrev pub EachChanges : Database → List Entry → Type 0
EachChanges base [] = Unit {0}
EachChanges base (entry ∷ entries) =
    (after base entry.batch.items ≢ base) × EachChanges (after base entry.batch.items) entries

-- How many entries are of this seat.
abbrev pub entries_of : ℕ → List Entry → ℕ
entries_of seat [] = 0
entries_of seat (entry ∷ entries) =
    if entry.seat == seat then suc (entries_of seat entries) else entries_of seat entries

-- Behind earlier entries, those of each seat are numbered on.
abbrev pub AreNumbered : List Entry → List Entry → Type 0
AreNumbered earlier [] = Unit {0}
AreNumbered earlier (entry ∷ entries) =
    (entry.number ≡ entries_of entry.seat earlier) × AreNumbered (earlier ++ entry ∷ []) entries

-- A history is legal over the tables where each of its batches changes those before it, and the entries of each seat
-- are numbered 0, 1, 2 and so on in order.
pub record IsLegal (base : Database) (history : List Entry) : Type 0 where
  pub changes : EachChanges base history
  pub numbered : AreNumbered [] history

-- A legal history leads from these tables, at this first number, to those at this place: each of its entries counts
-- one.
pub record LeadsTo (base : Database) (first : ℕ) (history : List Entry) (now : Database) (at : ℕ) : Type 0 where
  pub legal : IsLegal base history
  pub tables : state base history ≡ now
  pub place : first + length history ≡ at

-- A history with an entry more, of this seat.
abbrev pub with_entry : List Entry → ℕ → List Item → List Entry
with_entry history seat items =
    history ++ record { seat = seat; number = entries_of seat history; batch = record { items = items } } ∷ []
