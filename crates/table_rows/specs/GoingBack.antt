-- Changes on the way, which can be taken back.
use Rattle.std.specs.Prelude.{◌≡◌, ◌≤◌, List, length, take}
use Rattle.table_rows.specs.declared.undo.Undo.{Undo}
use Rattle.table_rows.specs.Rows.{State}
use Rattle.table_rows.specs.Undoing.{since, LeadsBack}
use Rattle.table_rows.specs.Widths.{IsRoomier}

-- The tables are of one shape, earlier changes are still noted, and what was noted since can be undone, and leads back.
pub record IsNoted (before after : State) (undos more : List Undo) : Type 0 where
  pub schema : after.schema ≡ before.schema
  pub tables : length after.tables ≡ length before.tables
  pub most : length undos ≤ length more
  pub noted : take (length undos) more ≡ undos
  pub back : LeadsBack (since (length undos) more) after before

-- It leads back to the same rows, in as many slots or more.
pub record CanGoBack (before after : State) (undos more : List Undo) : Type 0 where
  pub between : State
  pub roomier : IsRoomier before between
  pub noted : IsNoted between after undos more
