use Rattle.std.proofs.Common.{◌≡◌, ℕ, ◌+◌, ◌<◌, ◌≤◌, length, get_or}
use Rattle.table_rows.proofs.vacant.drop_slot.Given as goal

abbrev pub invariant-loop-back : goal.invariant-loop-back
invariant-loop-back l =
    (l.vacant ≡ l.initial.vacant)
    × ((k : ℕ) → k < length l.vacant.items → length l.vacant.items ≤ k + l.back → get_or l.vacant.items k 0 ≡ l.slot → ⊥)
