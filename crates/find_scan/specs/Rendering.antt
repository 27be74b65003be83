-- What rendering answers.
use Rattle.std.specs.Prelude.{ℕ, List, [], length, map, nat_lt, if◌then◌else◌}
use Rattle.row_types.specs.declared.values.Value.{Value}
use Rattle.table_rows.specs.declared.slot_ref.SlotRef.{SlotRef}
use Rattle.table_rows.specs.Rows.{State}
use Rattle.table_rows.specs.Slots.{row_at}
use Rattle.find_scan.specs.declared.replies.Rendered.{Rendered}
use Rattle.find_scan.specs.declared.replies.Rendered.TheVariants.{Fits, TooBig}
use Rattle.find_scan.specs.Show.{most_reply}

-- The rows in these slots of a table.
abbrev pub rows_at : State → ℕ → List SlotRef → List (List Value)
rows_at state table slots = map (λ (slot : SlotRef). row_at state table slot.0) slots

-- A reply of more bytes than a reply may have is too big.
abbrev pub rendered : List ℕ → Rendered
rendered reply = if nat_lt most_reply (length reply) then TooBig else Fits

-- What is appended: the reply where it fits, and else nothing.
abbrev pub shown : Rendered → List ℕ → List ℕ
shown Fits reply = reply
shown TooBig reply = []

-- Whether so many bytes leave room for one more.
abbrev pub below : ℕ → List ℕ → Rendered
below most bytes = if nat_lt (length bytes) most then Fits else TooBig
