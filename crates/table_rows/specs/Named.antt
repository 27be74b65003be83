-- Rows that are named by their slots.
use Rattle.std.specs.Prelude.{◌≡◌, ℕ, ◌==◌, true, false, List}
use Rattle.std.specs.List.{AllByRecursion}
use Rattle.table_rows.specs.declared.slot_ref.SlotRef.{SlotRef}
use Rattle.table_rows.specs.Rows.{State}
use Rattle.table_rows.specs.Slots.{is_live_in}
use Rattle.table_rows.specs.Valid.{EachPair}

-- No slot comes twice.
abbrev pub AreDistinct : List SlotRef → Type 0
AreDistinct slots = EachPair (λ (a b : SlotRef). (b.0 == a.0) ≡ false) slots

-- Each of these slots has a row, and none comes twice.
pub record AreSlots (state : State) (table : ℕ) (slots : List SlotRef) : Type 0 where
  pub live : AllByRecursion (λ (slot : SlotRef). is_live_in state table slot.0 ≡ true) slots
  pub once : AreDistinct slots
