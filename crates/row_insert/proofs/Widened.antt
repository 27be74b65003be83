-- Tables with more slots refuse the same rows.
--     widened_same      no more slots
--     entries_widened, total_widened, allowed_widened
use Rattle.std.proofs.Common.{◌≡◌, ℕ, ◌+◌, ◌-◌, ◌<◌, ◌≤◌, List, length, Option, ap, ap₂, sym, subst, ◌∙◌, arith, length-set}
use Rattle.row_types.specs.declared.values.Value.{Value}
use Rattle.row_types.specs.declared.tables.TableDef.{TableDef}
use Rattle.row_types.specs.Size.{row_size}
use Rattle.table_rows.specs.Entries.{Entry}
use Rattle.table_rows.specs.declared.slot_ref.SlotRef.{SlotRef}
use Rattle.table_rows.specs.Rows.{Rows, State, def_of, entries_of, room_of}
use Rattle.table_rows.specs.Sizes.{total, total_with, size_instead, most_bytes}
use Rattle.table_rows.specs.Checks.{IsPlaceable, IsAllowed, others}
use Rattle.table_rows.specs.Widths.{IsWidened}
use Rattle.table_rows.proofs.States.{rows_with, with_same}
use Rattle.table_rows.proofs.Wider.{widened_total}

pub widened_same : (state : State) (table : ℕ) → IsWidened table state state
widened_same state table = record { rows = sym (with_same state table); room = omega arith }

module _ (before after : State) (table : ℕ) (within : table < length before.tables) (wide : IsWidened table before after) where
  pub within_widened : table < length after.tables
  within_widened = subst (λ (s : State). table < length s.tables) (sym wide.rows) (subst (λ (n : ℕ). table < n) (sym (length-set before.tables table _)) within)

  pub def_widened : def_of after table ≡ def_of before table
  def_widened = ap (λ (s : State). def_of s table) wide.rows

  pub entries_widened : entries_of after table ≡ entries_of before table
  entries_widened = ap (λ (s : State). entries_of s table) wide.rows ∙ ap (λ (rows : Rows). rows.entries) (rows_with before table within _)

  pub total_widened : total after ≡ total before
  total_widened = ap total wide.rows ∙ widened_total before table within (room_of after table)

  pub total_with_widened : (row : List Value) (instead : Option SlotRef) → total_with after table row instead ≡ total_with before table row instead
  total_with_widened row instead = ap₂ (λ (n : ℕ) (entries : List Entry). n - size_instead instead entries + row_size row) total_widened entries_widened

  pub allowed_widened : (row : List Value) (instead : Option SlotRef) → IsAllowed before table row instead → IsAllowed after table row instead
  allowed_widened row instead may = record {
    placeable =
        subst (λ (entries : List Entry). IsPlaceable (def_of after table) row (others instead entries)) (sym entries_widened)
        (subst (λ (def : TableDef). IsPlaceable def row (others instead (entries_of before table))) (sym def_widened) may.placeable);
    bytes = subst (λ (n : ℕ). n ≤ most_bytes) (sym (total_with_widened row instead)) may.bytes;
  }
