use Rattle.std.proofs.Common.{◌≡◌, ◌+◌, ◌-◌, ◌++◌, length, replicate, None, vec_len, vec_capacity}
use Rattle.table_rows.specs.StoreInside.{AreVacant}
use Rattle.table_rows.proofs.vacant.add_slots.Given as goal

abbrev pub invariant-loop-slot : goal.invariant-loop-slot
invariant-loop-slot l =
    (l.rows.items ≡ l.initial.rows.items ++ replicate (l.slot - l.first) None)
    × (length l.rows.items ≡ l.slot)
    × AreVacant l.rows.items l.vacant.items
    × (vec_capacity l.rows ≡ vec_capacity l.initial.rows)
    × (vec_capacity l.vacant ≡ vec_capacity l.initial.vacant)
    × (vec_len l.vacant + l.first ≡ vec_len l.initial.vacant + l.slot)
    × (vec_len l.rows ≡ l.slot)
